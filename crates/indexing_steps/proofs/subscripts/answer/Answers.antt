use Rattle.std.proofs.Common.{◌≡◌, ℕ, ℤ, ◌+◌, List, sym, ap, subst, ◌∙◌}
use Rattle.std.specs.Prelude.{OnOk, IfErr}
use mir.Syntax.{w128}
use mir.Val.{to_z, of_z}
use Rattle.std.proofs.lemmas.Int.{to_z-of_z}
use Rattle.array_store.specs.Stores.{StoreView}
use Rattle.drag_along.specs.Meaning.{Meaning}
use Rattle.value_stack.specs.Stacks.{entries}
use Rattle.apl_compile.specs.declared.codes.Instruction.{Instruction}
use Rattle.apl_compile.specs.declared.codes.Op.TheVariants as op
use Rattle.leaf_steps.specs.Origins.{StepsFrom, IsHaltedFrom}
use Rattle.indexing_steps.specs.Choices.{IsSelection, IsRefusal}
use Rattle.indexing_steps.specs.Operands.{positions_in}
use Rattle.indexing_steps.proofs.FallLemmas.{counted_kept}
use Rattle.indexing_steps.proofs.subscripts.answer.Goals as goal

pub select_subscript-requires-clause-selection : goal.select_subscript-requires-clause-selection
select_subscript-requires-clause-selection c =
    let kept = counted_kept c.args.store.now c.choose_newest.new.store c.args.stack.now c.in_ok-by.ensures.counted c.requires.lawful c.requires.held in
    let chosen = rw c.in-Select.is at c.in_ok-by.ensures.chosen in
    subst (λ (ms : List Meaning). IsSelection (to_z w128 (of_z w128 c.args.origin)) c.args.mask.now c.args.stack.now ms c.in-Select.by) (sym kept.1) chosen

pub select_subscript-requires-clause-lawful : goal.select_subscript-requires-clause-lawful
select_subscript-requires-clause-lawful c =
    (counted_kept c.args.store.now c.choose_newest.new.store c.args.stack.now c.in_ok-by.ensures.counted c.requires.lawful c.requires.held).0

pub gather_subscript-requires-clause-lawful : goal.gather_subscript-requires-clause-lawful
gather_subscript-requires-clause-lawful c =
    (counted_kept c.args.store.now c.choose_newest.new.store c.args.stack.now c.in_ok-by.ensures.counted c.requires.lawful c.requires.held).0

pub refuse-requires-clause-refused : goal.refuse-requires-clause-refused
refuse-requires-clause-refused c =
    let kept = counted_kept c.args.store.now c.choose_newest.new.store c.args.stack.now c.in_ok-by.ensures.counted c.requires.lawful c.requires.held in
    let chosen = rw c.in-Refuse.is at c.in_ok-by.ensures.chosen in
    subst (λ (ms : List Meaning). IsRefusal (to_z w128 (of_z w128 c.args.origin)) c.args.mask.now ms c.in-Refuse.kind) (sym kept.1) chosen

pub refuse-requires-clause-lawful : goal.refuse-requires-clause-lawful
refuse-requires-clause-lawful c =
    (counted_kept c.args.store.now c.choose_newest.new.store c.args.stack.now c.in_ok-by.ensures.counted c.requires.lawful c.requires.held).0

pub returns-in_ok-select_subscript-in-Select-clause-step : goal.returns-in_ok-select_subscript-in-Select-clause-step
returns-in_ok-select_subscript-in-Select-clause-step c =
    let i : Instruction = record { place = c.args.place; op = op.Index c.args.mask.now } in
    let kept = counted_kept c.args.store.now c.choose_newest.new.store c.args.stack.now c.in_ok-by.ensures.counted c.requires.lawful c.requires.held in
    let after = entries c.select_subscript.new.store c.select_subscript.new.stack in
    subst (λ (o : ℤ). StepsFrom o i (1 + positions_in c.args.mask.now) 1 (entries c.args.store.now c.args.stack.now) after) (to_z-of_z w128 c.args.origin c.ranges.origin)
    (subst (λ (ms : List Meaning). StepsFrom (to_z w128 (of_z w128 c.args.origin)) i (1 + positions_in c.args.mask.now) 1 ms after) kept.1 c.in_ok-select_subscript-in-Select.ensures.step)

pub returns-in-Gather-clause-step : goal.returns-in-Gather-clause-step
returns-in-Gather-clause-step c =
    let i : Instruction = record { place = c.args.place; op = op.Index c.args.mask.now } in
    let kept = counted_kept c.args.store.now c.choose_newest.new.store c.args.stack.now c.in_ok-by.ensures.counted c.requires.lawful c.requires.held in
    let after = entries c.gather_subscript.new.store c.gather_subscript.new.stack in
    subst (λ (o : ℤ). OnOk c.gather_subscript.result (StepsFrom o i (1 + positions_in c.args.mask.now) 1 (entries c.args.store.now c.args.stack.now) after)) (to_z-of_z w128 c.args.origin c.ranges.origin)
    (subst (λ (ms : List Meaning). OnOk c.gather_subscript.result (StepsFrom (to_z w128 (of_z w128 c.args.origin)) i (1 + positions_in c.args.mask.now) 1 ms after)) kept.1 c.gather_subscript.ensures.step)

pub returns-in-Gather-clause-halted : goal.returns-in-Gather-clause-halted
returns-in-Gather-clause-halted c =
    let i : Instruction = record { place = c.args.place; op = op.Index c.args.mask.now } in
    let kept = counted_kept c.args.store.now c.choose_newest.new.store c.args.stack.now c.in_ok-by.ensures.counted c.requires.lawful c.requires.held in
    let limit : c.choose_newest.new.store.limit ≡ c.args.store.now.limit = ap (λ (s : StoreView). s.limit) c.in_ok-by.ensures.counted in
    subst (λ (o : ℤ). IfErr c.gather_subscript.result (IsHaltedFrom o i (1 + positions_in c.args.mask.now) c.args.store.now.limit (entries c.args.store.now c.args.stack.now))) (to_z-of_z w128 c.args.origin c.ranges.origin)
    (subst (λ (n : ℕ). IfErr c.gather_subscript.result (IsHaltedFrom (to_z w128 (of_z w128 c.args.origin)) i (1 + positions_in c.args.mask.now) n (entries c.args.store.now c.args.stack.now))) limit
    (subst (λ (ms : List Meaning). IfErr c.gather_subscript.result (IsHaltedFrom (to_z w128 (of_z w128 c.args.origin)) i (1 + positions_in c.args.mask.now) c.choose_newest.new.store.limit ms)) kept.1 c.gather_subscript.ensures.halted))

pub returns-in-Refuse-clause-halted : goal.returns-in-Refuse-clause-halted
returns-in-Refuse-clause-halted c =
    let i : Instruction = record { place = c.args.place; op = op.Index c.args.mask.now } in
    let kept = counted_kept c.args.store.now c.choose_newest.new.store c.args.stack.now c.in_ok-by.ensures.counted c.requires.lawful c.requires.held in
    let limit : c.choose_newest.new.store.limit ≡ c.args.store.now.limit = ap (λ (s : StoreView). s.limit) c.in_ok-by.ensures.counted in
    subst (λ (o : ℤ). IsHaltedFrom o i (1 + positions_in c.args.mask.now) c.args.store.now.limit (entries c.args.store.now c.args.stack.now) c.refuse.result) (to_z-of_z w128 c.args.origin c.ranges.origin)
    (subst (λ (n : ℕ). IsHaltedFrom (to_z w128 (of_z w128 c.args.origin)) i (1 + positions_in c.args.mask.now) n (entries c.args.store.now c.args.stack.now) c.refuse.result) limit
    (subst (λ (ms : List Meaning). IsHaltedFrom (to_z w128 (of_z w128 c.args.origin)) i (1 + positions_in c.args.mask.now) c.choose_newest.new.store.limit ms c.refuse.result) kept.1 c.refuse.ensures.halted))
