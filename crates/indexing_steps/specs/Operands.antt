-- The operands of a subscript among the pending entries: the positions that a mask says are there, the first one the
-- newest, and what stands above them.
use Rattle.std.specs.Prelude.{◌≡◌, ℕ, ◌+◌, ◌<◌, ◌≤◌, Bool, true, false, List, [], ◌∷◌, ◌++◌, length, map, reverse, count_by, slice_get, Option, Some, None}
use Rattle.std.specs.List.{AllZip}
use Rattle.std.specs.Option.{option_map}
use Rattle.apl_base.specs.Array.{Array}
use Rattle.array_desc.specs.Desc.{IsDesc}
use Rattle.array_store.specs.Stores.{StoreView}
use Rattle.drag_along.specs.declared.leaves.Leaf.{Leaf}
use Rattle.drag_along.specs.Nodes.{leaf_desc, functions_in}
use Rattle.drag_along.specs.Segments.{SegmentView, IsSegment}
use Rattle.drag_along.specs.Meaning.{Meaning, Means}
use Rattle.drag_along.specs.Views.{only_leaf}
use Rattle.leaf_names.specs.Variables.{array_of}

-- how many positions a mask says are there
abbrev pub positions_in : List Bool → ℕ
positions_in mask = count_by (λ there. there) mask

-- the positions as a mask says them: those that are there, in this order, and None for each other
abbrev pub spread : {V : Type 0} → List Bool → List V → List (Option V)
spread [] there = []
spread (false ∷ mask) there = None ∷ spread mask there
spread (true ∷ mask) [] = None ∷ spread mask []
spread (true ∷ mask) (v ∷ there) = Some v ∷ spread mask there

-- the entries from number `first` up to number `end` have no function pending
abbrev pub AreComputed : List SegmentView → ℕ → ℕ → Type 0
AreComputed stack first end =
    (k : ℕ) (s : SegmentView) → first ≤ k → k < end → slice_get stack k ≡ Some s → functions_in s.nodes ≡ 0

-- the entry is this leaf
pub record IsLeafEntry (s : SegmentView) (leaf : Leaf) : Type 0 where
  pub segment : IsSegment s
  pub is : only_leaf s.nodes ≡ Some leaf
  pub desc : IsDesc (leaf_desc leaf)

-- the leaves of the positions: those that are there are the entries below number `end`, the first one the newest
pub record ArePositions (mask : List Bool) (stack : List SegmentView) (end : ℕ) (leaves : List (Option Leaf)) : Type 0 where
  pub there : List Leaf
  pub number : length there ≡ positions_in mask
  pub positions : leaves ≡ spread mask there
  pub older : List SegmentView
  pub segments : List SegmentView
  pub younger : List SegmentView
  pub whole : stack ≡ (older ++ reverse segments) ++ younger
  pub place : length older + length segments ≡ end
  pub are : AllZip IsLeafEntry segments there

-- the arrays that the leaves stand for
abbrev pub arrays_of : StoreView → List (Option Leaf) → List (Option Array)
arrays_of store leaves = map (option_map (array_of store)) leaves

-- the newest entry means an array, and those below it the positions, as the mask takes them
pub record AreOperands (mask : List Bool) (pending : List Meaning) (array : Array) (ps : List (Option Array)) : Type 0 where
  pub there : List Array
  pub number : length there ≡ positions_in mask
  pub positions : ps ≡ spread mask there
  pub older : List Meaning
  pub are : pending ≡ (older ++ map (λ p. Means p) (reverse there)) ++ Means array ∷ []
