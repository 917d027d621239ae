use Rattle.std.proofs.Common.{Bool, sym, ◌∙◌}
use Rattle.std.proofs.lemmas.Result.{err_from_is_err_and}
use Rattle.drag_along.specs.Segments.{SegmentView}
use Rattle.array_store.proofs.FollowsLemmas.{follows_then}
use Rattle.value_stack.specs.Stacks.{named_on}
use Rattle.alias_force.specs.Steps.{moves}
use Rattle.alias_force.proofs.PassLemmas.{on_its_way, passes_by, moves_on, stops, tested_at}
use Rattle.alias_force.proofs.passes.move_where.Goals as goal
use Rattle.alias_force.proofs.passes.move_where.Goals.{then-is_moved+in_ok-move_entry, else-is_moved}

pub loop-at-init : goal.loop-at-init
loop-at-init c = record {
  way = on_its_way (moves c.args.which.now) c.args.store.now c.args.stack.now c.counts-counts.ensures.store.counts c.requires.lawful c.requires.held;
  store = c.counts-counts.ensures.store;
}

pub returns-in_err-move_entry-clause-refused : goal.returns-in_err-move_entry-clause-refused
returns-in_err-move_entry-clause-refused c =
    let test : SegmentView → Bool = moves c.args.which.now in
    let p = err_from_is_err_and c.from_residual.result c.from_residual.ensures.1 in
    let r = c.in_err-move_entry.ensures.refused in
    let so = tested_at test c.loop-at.stack c.loop-at.at r.segment c.entry.result.now c.is_moved.result r.there c.entry.ensures c.is_moved.ensures.value c.if-is_moved.true in
    rw (p.1, p.2) (rw c.in_err-move_entry.ensures.kept (stops test c.args.store.now c.loop-at.store c.move_entry.new.store c.args.stack.now c.loop-at.stack c.loop-at.at c.in_err-move_entry.field-0.0 c.counts-counts.ensures.store.counts c.loop-at.invariant.way r so))

pub returns-in_err-move_entry-clause-means : goal.returns-in_err-move_entry-clause-means
returns-in_err-move_entry-clause-means c = c.in_err-move_entry.ensures.means ∙ c.loop-at.invariant.way.means

pub returns-in_err-move_entry-clause-follows : goal.returns-in_err-move_entry-clause-follows
returns-in_err-move_entry-clause-follows c =
    follows_then c.args.store.now c.loop-at.store c.move_entry.new.store (named_on c.args.stack.now) (named_on c.loop-at.stack) (named_on c.move_entry.new.stack) c.loop-at.invariant.way.follows c.in_err-move_entry.ensures.follows

pub loop-at-preserved : goal.loop-at-preserved
loop-at-preserved c = elim c.if-is_moved.branch [
  | then-is_moved+in_ok-move_entry w ↦
      let test : SegmentView → Bool = moves c.args.which.now in
      let m = w.in_ok-move_entry.ensures.moved in
      let so = tested_at test c.loop-at.stack c.loop-at.at m.gone c.entry.result.now c.is_moved.result m.there c.entry.ensures c.is_moved.ensures.value w.if-is_moved.true in
      rw (w.stack-is, w.store-is) (record {
        way = moves_on test c.args.store.now c.loop-at.store w.move_entry.new.store c.args.stack.now c.loop-at.stack w.move_entry.new.stack c.loop-at.at c.loop-at.invariant.way m so;
        store = w.move_entry.ensures.store;
      })
  | else-is_moved w ↦
      let test : SegmentView → Bool = moves c.args.which.now in
      rw (w.stack-is, w.store-is) (record {
        way = passes_by test c.args.store.now c.loop-at.store c.args.stack.now c.loop-at.stack c.loop-at.at c.entry.result.now c.loop-at.invariant.way c.entry.ensures (sym c.is_moved.ensures.value ∙ w.if-is_moved.false);
        store = c.loop-at.invariant.store;
      })
]
