use Rattle.std.proofs.Common.{◌≡◌, List, sym, ap, subst, ◌∙◌}
use Rattle.std.specs.Prelude.{slice_get}
use Rattle.drag_along.specs.Nodes.{functions_in}
use Rattle.drag_along.specs.Segments.{SegmentView}
use Rattle.value_stack.specs.Stacks.{entries}
use Rattle.pending_steps.specs.declared.halts.Halt.{Halt}
use Rattle.pending_steps.specs.Steps.{IsNotComputed}
use Rattle.pending_steps.proofs.ArrayLemmas.{put_there, own_has_none, refused_halts}
use Rattle.pending_steps.proofs.rooms.own_entry.Goals as goal

pub returns-in-Ok-clause-computed : goal.returns-in-Ok-clause-computed
returns-in-Ok-clause-computed c segment g =
    let m = c.in-Ok.ensures.moved in
    ap (λ (x : SegmentView). functions_in x.nodes)
    (put_there c.args.stack.now c.args.at m.came segment (ap (λ (xs : List SegmentView). slice_get xs c.args.at) (sym m.put) ∙ g))
    ∙ own_has_none c.move_entry.new.store m.came m.own

pub returns-in-Err-clause-halted : goal.returns-in-Err-clause-halted
returns-in-Err-clause-halted c =
    let kept : c.move_entry.new.stack ≡ c.args.stack.now = c.in-Err.ensures.kept in
    let same : entries c.move_entry.new.store c.args.stack.now ≡ entries c.args.store.now c.args.stack.now =
    ap (λ (xs : List SegmentView). entries c.move_entry.new.store xs) (sym kept) ∙ c.move_entry.ensures.means in
    subst (λ (h : Halt). IsNotComputed c.args.store.now.limit (entries c.args.store.now c.args.stack.now) h) (sym c.from.ensures)
    (refused_halts c.args.store.now c.move_entry.new.store c.args.stack.now c.args.at _ c.len-before.ensures.segments c.requires.lawful c.requires.safe c.in-Err.ensures.refused same)
