-- What the calls that compute elements answer and what they leave.
use Rattle.std.specs.Prelude.{◌≡◌, ℕ, ◌*◌, ℤ, List, length, map, Option, None, Some, Result, Ok, Err}
use Rattle.apl_base.specs.declared.faults.Place.{Place}
use Rattle.apl_base.specs.Array.{Array, size_of, index_at}
use Rattle.apl_base.specs.Selection.{upward}
use Rattle.array_store.specs.Stores.{StoreView, HasRoom, new_owner}
use Rattle.array_store.specs.Counting.{after_fetches, OnlyFetched, OnlyComputed, Computed, IsFull, MakesAfter}
use Rattle.array_store.specs.Follows.{none}
use Rattle.array_store.specs.declared.ids.BeginFault.{BeginFault}
use Rattle.array_store.specs.declared.ids.BeginFault.TheVariants as begin
use Rattle.drag_along.specs.declared.leaves.Leaf.{Leaf}
use Rattle.drag_along.specs.declared.leaves.Leaf.TheVariants.{Stored, Gen}
use Rattle.drag_along.specs.Nodes.{leaf_shape, stored_in, functions_in, named_by_leaf}
use Rattle.drag_along.specs.Segments.{SegmentView}
use Rattle.drag_along.specs.Meaning.{Means, Faults, leaf_cell, leaf_array, entry}
use Rattle.drag_along.specs.Holding.{HeldOnceMore}
use Rattle.drag_along.specs.Views.{IsWholeView, StandsForArray, only_leaf}
use Rattle.e_machine.specs.declared.faults.ForceFault.{ForceFault}
use Rattle.e_machine.specs.declared.faults.ForceFault.TheVariants as force

-- how many elements a segment has
abbrev pub elements_of : SegmentView → ℕ
elements_of segment = size_of segment.shape

-- how many functions are applied, and how many cells are fetched at most, where all its elements are computed
abbrev pub applications : SegmentView → ℕ
applications segment = elements_of segment * functions_in segment.nodes

-- so many cells are fetched at most
abbrev pub fetches : SegmentView → ℕ
fetches segment = elements_of segment * stored_in segment.nodes

-- where the segment has to be computed there is room for its elements
abbrev pub HasRoomFor : StoreView → SegmentView → Type 0
HasRoomFor store segment = only_leaf segment.nodes ≡ None → HasRoom store (elements_of segment)

-- ---- leaves that are answered

-- a leaf that reads a new owner, which has just the cells of an array, one for each index; something was counted before
pub record IsNewLeaf (Counts : StoreView → Type 0) (new : StoreView) (a : Array) (leaf : Leaf) : Type 0 where
  pub key : ℕ
  pub count : length a.cells ≡ size_of a.shape
  pub view : IsWholeView key a.shape a.kind leaf
  pub made : MakesAfter Counts new key (new_owner a.cells a.kind)

-- the leaf that was answered, where one was, as leaves are counted
abbrev pub named_by_answer : {E : Type 0} → Result Leaf E → ℕ → ℕ
named_by_answer (Ok leaf) = named_by_leaf leaf
named_by_answer (Err why) = none

-- ---- forcing

-- a segment that is one leaf was answered as that leaf, held once more
pub record IsHeld (old new : StoreView) (only leaf : Leaf) : Type 0 where
  pub same : leaf ≡ only
  pub held : HeldOnceMore old new only

-- any other was computed into a new owner; every function was applied at every element
abbrev pub IsMade : StoreView → StoreView → SegmentView → Array → Leaf → Type 0
IsMade old new segment a leaf = IsNewLeaf (λ between. Computed old between (applications segment) (fetches segment)) new a leaf

-- which of the two, by the leaf that is all of the segment, where one is
abbrev pub IsHeldOrMade : StoreView → StoreView → SegmentView → Array → Option Leaf → Leaf → Type 0
IsHeldOrMade old new segment a (Some only) leaf = IsHeld old new only leaf
IsHeldOrMade old new segment a None leaf = IsMade old new segment a leaf

-- the leaf stands for the array that the segment meant, and was held or made
pub record IsForced (old new : StoreView) (segment : SegmentView) (leaf : Leaf) : Type 0 where
  pub array : Array
  pub means : entry old segment ≡ Means array
  pub stands : StandsForArray new leaf array
  pub comes : IsHeldOrMade old new segment array (only_leaf segment.nodes) leaf

-- the segment faults at a place, its elements had room, and nothing was done but to count
pub record IsFault (old new : StoreView) (segment : SegmentView) (place : Place) : Type 0 where
  pub means : entry old segment ≡ Faults place
  pub room : HasRoom old (elements_of segment)
  pub counted : OnlyComputed old new (applications segment) (fetches segment)

-- why a segment is not forced: one that is a leaf always is. That memory is wanting has no stated cause, but that
-- there was room
abbrev pub IsForceFault : StoreView → StoreView → SegmentView → ForceFault → Type 0
IsForceFault old new segment (force.Fault place) = (only_leaf segment.nodes ≡ None) × IsFault old new segment place
IsForceFault old new segment (force.WsFull live asked) = (only_leaf segment.nodes ≡ None) × IsFull old new (elements_of segment) live asked
IsForceFault old new segment force.NoMemory =
    (only_leaf segment.nodes ≡ None) × HasRoom old (elements_of segment)
    × OnlyComputed old new (applications segment) (fetches segment)

-- ---- copying

-- the new leaf reads a new owner, which has just the elements of the old one, and stands for the same array
pub record IsCopy (old new : StoreView) (leaf copy : Leaf) : Type 0 where
  pub made : IsNewLeaf (λ between. OnlyFetched old between (size_of (leaf_shape leaf))) new (leaf_array old (leaf_shape leaf) leaf) copy
  pub stands : StandsForArray new copy (leaf_array old (leaf_shape leaf) leaf)

-- why a leaf is not copied
abbrev pub IsCopyFault : StoreView → StoreView → Leaf → BeginFault → Type 0
IsCopyFault old new leaf (begin.WsFull live asked) = IsFull old new (size_of (leaf_shape leaf)) live asked
IsCopyFault old new leaf begin.NoMemory =
    HasRoom old (size_of (leaf_shape leaf)) × OnlyFetched old new (size_of (leaf_shape leaf))

-- ---- reading

-- the cells of a leaf at so many places of its row-major order, from a first one on
abbrev pub cells_from : StoreView → Leaf → ℕ → ℕ → List ℤ
cells_from store leaf first count = map (λ p. leaf_cell store leaf (index_at (leaf_shape leaf) p)) (upward first count)

-- so many cells were fetched for a stored leaf, and none for another
abbrev pub AreRead : StoreView → StoreView → Leaf → ℕ → Type 0
AreRead old new (Stored owner desc kind) count = new ≡ after_fetches old count
AreRead old new (Gen desc kind) count = new ≡ old

-- one cell was fetched for a stored leaf, and none for another
abbrev pub IsRead : StoreView → StoreView → Leaf → Type 0
IsRead old new leaf = AreRead old new leaf 1
