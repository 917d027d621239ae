-- What becomes of a stack over a store, and of a vector that is subscripted by positions.
use Rattle.std.specs.Prelude.{◌≡◌, ℕ, ◌+◌, ◌^◌, ◌<◌, ◌≤◌, ℤ, ◌-ℤ◌, unsigned_abs, List, [], ◌∷◌, Some}
use Rattle.array_store.specs.Stores.{StoreView, holders_of}
use Rattle.array_store.specs.Follows.{LeafCounts}
use Rattle.drag_along.specs.declared.leaves.Leaf.{Leaf}
use Rattle.drag_along.specs.Segments.{SegmentView}
use Rattle.drag_along.specs.Meaning.{Meaning, entry}
use Rattle.drag_along.specs.Lawful.{IsLawful}
use Rattle.drag_along.specs.Views.{only_leaf}
use Rattle.value_stack.specs.Stacks.{named_on, entries, Reads, IsLeast, IsLawfulStack, IsHeldBy}
use Rattle.beating.specs.declared.runs.Run.{Run}
use Rattle.beating.specs.declared.selections.Selection.{Selection}
use Rattle.beating.specs.Runs.{run_value}
use Rattle.beating.specs.Selecting.{selected_shape, selected_index, selected_meaning}

-- the entries are lawful over the store, and just they and the leaves beside them hold the owners
pub record Stands (store : StoreView) (stack : List SegmentView) (beside : LeafCounts) : Type 0 where
  pub lawful : IsLawfulStack store stack
  pub held : IsHeldBy store stack beside

-- beside the leaves on the stack at most 2^64 hold an owner
abbrev pub HasFewBeside : StoreView → List SegmentView → Type 0
HasFewBeside store stack = (key : ℕ) → holders_of store key ≤ named_on stack key + 2 ^ 64

-- wherever the old stack stood, with any leaves beside it, the new one stands with the same, and its entries mean this
pub record Becomes (old new : StoreView) (before after : List SegmentView) (means : List Meaning) : Type 0 where
  pub stands : (beside : LeafCounts) → Stands old before beside → Stands new after beside
  pub entries_mean : (beside : LeafCounts) → Stands old before beside → entries new after ≡ means

-- an entry reads the owner
abbrev pub IsRead : List SegmentView → ℕ → Type 0
IsRead stack owner = (at : ℕ) × IsLeast (Reads owner) stack 0 at

-- the expression is one leaf
abbrev pub IsOneLeaf : SegmentView → Type 0
IsOneLeaf segment = (leaf : Leaf) × (only_leaf segment.nodes ≡ Some leaf)

-- the new vector has at each place the element of the old one that the position there names: a selection that reads
-- it is applied to what the old one meant
pub record SelectsPositions (origin : ℤ) (r : Run) (old new : SegmentView) : Type 0 where
  pub by : Selection
  pub shape : selected_shape by old.shape ≡ r.n ∷ []
  pub places : (j : ℕ) → j < r.n → selected_index by old.shape (j ∷ []) ≡ unsigned_abs (run_value r j -ℤ origin) ∷ []
  pub meaning : (store : StoreView) → IsLawful store old → entry store new ≡ selected_meaning by (entry store old)
