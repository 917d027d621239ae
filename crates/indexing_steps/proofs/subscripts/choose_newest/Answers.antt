use Rattle.std.proofs.Common.{◌≡◌, ℕ, ℤ, List, Option, ◌+◌, ◌-◌, Some, length, sym, ap, subst, ◌∙◌, arith}
use Rattle.std.specs.Prelude.{All, IfSome, slice_get}
use mir.Syntax.{w128}
use Rattle.std.proofs.lemmas.Int.{to_z-of_z}
use Rattle.drag_along.specs.declared.leaves.Leaf.{Leaf}
use Rattle.drag_along.specs.Lawful.{IsLawfulLeaf}
use Rattle.drag_along.specs.Segments.{SegmentView}
use Rattle.value_stack.proofs.EntriesLemmas.{entry_is_lawful}
use Rattle.indexing_steps.specs.Choices.{IsChoice}
use Rattle.indexing_steps.specs.Operands.{arrays_of}
use Rattle.indexing_steps.proofs.FallLemmas.{segment_at}
use Rattle.indexing_steps.proofs.OperandLemmas.{positions_lawful}
use Rattle.indexing_steps.proofs.ChosenLemmas.{chosen}
use Rattle.pending_steps.proofs.ArrayLemmas.{safe_entry}
use Rattle.indexing_steps.proofs.subscripts.choose_newest.Goals as goal

pub choose-requires-clause-lawful : goal.choose-requires-clause-lawful
choose-requires-clause-lawful c =
    subst (All (λ (p : Option Leaf). IfSome p (IsLawfulLeaf c.args.store.now))) (sym c.deref.ensures.value)
    (positions_lawful c.args.store.now c.args.mask.now c.args.stack.now (c.len-newest.result - 1) c.in_ok-positions.positions.items c.in_ok-positions.ensures.positions c.requires.lawful)

pub returns-clause-chosen : goal.returns-clause-chosen
returns-clause-chosen c =
    let store = c.args.store.now in
    let stack = c.args.stack.now in
    let end : ℕ = c.len-newest.result - 1 in
    let s = c.entry.result.now in
    let long : end + 1 ≡ length stack = omega (arith, c.len-newest.ensures.value, c.requires.operands) in
    let place : end ≡ length stack - 1 = omega (arith, c.len-newest.ensures.value) in
    let at : slice_get stack end ≡ Some s = c.entry.ensures in
    let leaves = c.in_ok-positions.positions.items in
    let shape = ap (λ (x : SegmentView). x.shape) c.behind-stack.view_is in
    let choice : IsChoice c.args.origin s.shape (arrays_of store leaves) c.choose.result =
    subst (λ (ns : List ℕ). IsChoice c.args.origin ns (arrays_of store leaves) c.choose.result) shape
    (subst (λ (xs : List (Option Leaf)). IsChoice c.args.origin c.behind-stack.inside.shape (arrays_of store xs) c.choose.result) c.deref.ensures.value
    (subst (λ (o : ℤ). IsChoice o c.behind-stack.inside.shape (arrays_of store c.deref.result.now) c.choose.result) (to_z-of_z w128 c.args.origin c.ranges.origin) c.choose.ensures.choice)) in
    chosen c.args.origin c.args.mask.now store stack end leaves s c.choose.result c.in_ok-positions.ensures.positions long at
    (safe_entry store s (segment_at stack end s c.len-newest.ensures.segments at) (entry_is_lawful store stack end s c.requires.lawful at)
    (c.requires.safe s (ap (λ (k : ℕ). slice_get stack k) (sym place) ∙ at)))
    choice
