-- Leaves and segments that are lawful over a store.
use Rattle.std.specs.Prelude.{◌≡◌, ℕ, ◌<◌, pos, ◌≤ℤ◌, ◌<ℤ◌, false, List, length}
use Rattle.std.specs.List.{AllByRecursion}
use Rattle.apl_base.specs.declared.cells.Kind.{Kind}
use Rattle.apl_base.specs.declared.cells.Kind.TheVariants.{Num, Char}
use Rattle.apl_base.specs.declared.cells.Interval.{Interval}
use Rattle.apl_base.specs.Number.{IsCharacter}
use Rattle.apl_base.specs.Array.{IsIndex}
use Rattle.apl_base.specs.Interval.{InInterval}
use Rattle.array_desc.specs.Desc.{DescView, number, IsRangeOf}
use Rattle.array_store.specs.Stores.{StoreView, holders_of, cells_of, kind_of, interval_of, data_at}
use Rattle.drag_along.specs.declared.leaves.Leaf.{Leaf}
use Rattle.drag_along.specs.declared.leaves.Leaf.TheVariants.{Stored, Gen}
use Rattle.drag_along.specs.Nodes.{leaf_shape, AllLeaves}
use Rattle.drag_along.specs.Segments.{SegmentView}
use Rattle.drag_along.specs.Meaning.{Meaning, Means, Faults, leaf_cell, entry}

-- the places of a descriptor lie inside a live owner of the kind
pub record LiesIn (store : StoreView) (owner : ℕ) (desc : DescView) (what : Kind) : Type 0 where
  pub live : 0 < holders_of store owner
  pub kind : kind_of store owner ≡ what
  pub low : (i : List ℕ) → IsIndex desc.shape i → pos 0 ≤ℤ number desc i
  pub high : (i : List ℕ) → IsIndex desc.shape i → number desc i <ℤ pos (length (cells_of store owner))

-- numbers of a descriptor that stand for elements of the kind themselves
abbrev pub AreOfKind : DescView → Kind → Type 0
AreOfKind desc Num = Unit {0}
AreOfKind desc Char = (i : List ℕ) → IsIndex desc.shape i → IsCharacter (number desc i)

-- a stored leaf is lawful where its places lie inside a live owner of its kind; any other where its numbers are
-- elements of its kind
abbrev pub IsLawfulLeaf : StoreView → Leaf → Type 0
IsLawfulLeaf store (Stored owner desc kind) = LiesIn store owner desc kind
IsLawfulLeaf store (Gen desc kind) = AreOfKind desc kind

-- the elements of a leaf lie in an interval
abbrev pub LeafWithin : StoreView → Leaf → Interval → Type 0
LeafWithin store leaf range = (i : List ℕ) → IsIndex (leaf_shape leaf) i → InInterval range (leaf_cell store leaf i)

-- what is known of a leaf's elements: the interval kept for its owner, or that from the least to the greatest number
abbrev pub IsLeafInterval : StoreView → Leaf → Interval → Type 0
IsLeafInterval store (Stored owner desc kind) range = range ≡ interval_of store owner
IsLeafInterval store (Gen desc kind) range = IsRangeOf desc range

-- it means an array, and the cells lie in the interval
abbrev pub MeansWithin : Interval → Meaning → Type 0
MeansWithin range (Means a) = AllByRecursion (InInterval range) a.cells
MeansWithin range (Faults place) = ⊥

-- a segment is lawful over a store where its leaves are, and where, if it may not fail, every function is defined
-- at every element and the values lie in its range
pub record IsLawful (store : StoreView) (segment : SegmentView) : Type 0 where
  pub leaves : AllLeaves (IsLawfulLeaf store) segment.nodes
  pub sound : segment.may_fail ≡ false → MeansWithin segment.range (entry store segment)

-- the owners that these leaves name are live, and have the cells, kind and interval that they had
pub record SameData (old new : StoreView) (leaves : ℕ → ℕ) : Type 0 where
  pub live : (key : ℕ) → 0 < leaves key → 0 < holders_of new key
  pub kept : (key : ℕ) → 0 < leaves key → data_at new key ≡ data_at old key
