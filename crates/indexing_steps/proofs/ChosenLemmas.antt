-- The choice for the newest entries.
use Rattle.std.proofs.Common.{◌≡◌, ℕ, ℤ, ◌+◌, ◌-◌, Bool, List, length, Option, Some, sym, ap, subst, ◌∙◌, arith}
use Rattle.std.specs.Prelude.{slice_get}
use Rattle.apl_base.specs.Array.{Array}
use Rattle.array_store.specs.Stores.{StoreView}
use Rattle.drag_along.specs.declared.leaves.Leaf.{Leaf}
use Rattle.drag_along.specs.Segments.{SegmentView}
use Rattle.beating.specs.Selecting.{Fits}
use Rattle.value_stack.specs.Stacks.{entries}
use Rattle.pending_laws.specs.Subscripts.{KeepsItems}
use Rattle.pending_laws.proofs.SubscriptLemmas.{subscript_is_selected}
use Rattle.pending_steps.specs.Shapes.{IsArrayEntry}
use Rattle.indexing_steps.specs.declared.choices.Choice.{Choice}
use Rattle.indexing_steps.specs.declared.choices.Choice.TheVariants.{Select, Gather, Refuse}
use Rattle.indexing_steps.specs.Choices.{IsChoice, IsChosen}
use Rattle.indexing_steps.specs.Operands.{ArePositions, arrays_of}
use Rattle.indexing_steps.proofs.OperandLemmas.{operands_are}

pub chosen : (origin : ℤ) (mask : List Bool) (store : StoreView) (stack : List SegmentView) (end : ℕ) (leaves : List (Option Leaf)) (s : SegmentView) (choice : Choice) → ArePositions mask stack end leaves → end + 1 ≡ length stack → slice_get stack end ≡ Some s → IsArrayEntry store s → IsChoice origin s.shape (arrays_of store leaves) choice → IsChosen origin mask stack (entries store stack) choice
chosen origin mask store stack end leaves s (Select by) p long at one h =
    let ps : List (Option Array) = arrays_of store leaves in
    record {
      array = one.array;
      positions = ps;
      operands = operands_are store mask stack end leaves s one.array p long at one.means;
      answer = subscript_is_selected origin one.array ps by (subst (λ (ns : List ℕ). KeepsItems origin ns ps by) (sym one.shape) h.0) (subst (Fits by) (sym one.shape) h.1);
      fits = λ t g.
          let place : length stack - 1 ≡ end = omega (arith, long) in
          let both_are : Some s ≡ Some t = sym at ∙ ap (λ (k : ℕ). slice_get stack k) (sym place) ∙ g in
          let same : s ≡ t = cc in
          subst (λ (x : SegmentView). Fits by x.shape) same h.1;
    }
chosen origin mask store stack end leaves s Gather p long at one h = tt
chosen origin mask store stack end leaves s (Refuse kind) p long at one h = record {
  array = one.array;
  positions = arrays_of store leaves;
  operands = operands_are store mask stack end leaves s one.array p long at one.means;
  answer = h one.array one.shape;
}
