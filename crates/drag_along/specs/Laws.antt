-- The laws of this crate's definitions, each of which a public function's contract states.
use Rattle.std.specs.Prelude.{◌≡◌, ◌↔◌, ℕ, ◌≤◌, ℤ, List, Some, slice_set}
use Rattle.apl_base.specs.declared.cells.Interval.{Interval}
use Rattle.apl_base.specs.Array.{IsIndex}
use Rattle.apl_base.specs.Number.{IsCell}
use Rattle.array_desc.specs.Desc.{IsDesc}
use Rattle.array_store.specs.Stores.{StoreView, IsStore, cells_of, kind_of, with_cell}
use Rattle.array_store.specs.Follows.{Follows, Holds, both}
use Rattle.drag_along.specs.declared.leaves.Leaf.{Leaf}
use Rattle.drag_along.specs.Nodes.{leaf_desc, leaf_kind, leaf_shape, named_by_leaf}
use Rattle.drag_along.specs.Segments.{SegmentView, IsSegment, named_by, leaf_segment}
use Rattle.drag_along.specs.Meaning.{Meaning, Means, IsMeaning, leaf_cell, leaf_array, entry}
use Rattle.drag_along.specs.Lawful.{IsLawfulLeaf, LeafWithin, IsLawful, SameData}
use Rattle.drag_along.specs.Views.{FillsShape, owner_array, IsWholeView, StandsForArray, only_leaf}

-- what is computed is what the segment means
abbrev pub EntryIsMeaning : Type 0
EntryIsMeaning = (store : StoreView) (segment : SegmentView) → IsSegment segment → IsMeaning store segment (entry store segment)

-- and it means nothing else
abbrev pub OneMeaning : Type 0
OneMeaning = (store : StoreView) (segment : SegmentView) (m : Meaning) → IsSegment segment → IsMeaning store segment m → m ≡ entry store segment

-- where holders follow leaves, the leaves beside the counted ones have the data that they had
abbrev pub FollowsKeeps : Type 0
FollowsKeeps =
    (old new : StoreView) (before after others leaves : ℕ → ℕ) → Follows old new before after
    → Holds old (both before others) → ((key : ℕ) → leaves key ≤ others key) → SameData old new leaves

-- a leaf is lawful over the same data, and has the same cells
abbrev pub LeafKept : Type 0
LeafKept =
    (old new : StoreView) (leaf : Leaf) → SameData old new (named_by_leaf leaf) → IsLawfulLeaf old leaf
    → IsLawfulLeaf new leaf × ((i : List ℕ) → leaf_cell new leaf i ≡ leaf_cell old leaf i)

-- a segment is lawful over the same data, and means the same
abbrev pub SegmentKept : Type 0
SegmentKept =
    (old new : StoreView) (segment : SegmentView) → SameData old new (named_by segment) → IsLawful old segment
    → IsLawful new segment × (entry new segment ≡ entry old segment)

-- the cells of a lawful leaf are cells of its kind
abbrev pub LeafCellsLawful : Type 0
LeafCellsLawful =
    (store : StoreView) (leaf : Leaf) (i : List ℕ) → IsStore store → IsDesc (leaf_desc leaf)
    → IsLawfulLeaf store leaf → IsIndex (leaf_shape leaf) i
    → IsCell (leaf_kind leaf) (leaf_cell store leaf i)

-- ---- segments of one leaf, and how often an owner is named

-- a segment that is one leaf is the segment of that leaf
abbrev pub OneLeafSegment : Type 0
OneLeafSegment =
    (segment : SegmentView) (leaf : Leaf) → IsSegment segment → only_leaf segment.nodes ≡ Some leaf
    → segment ≡ leaf_segment leaf segment.range

-- it means the leaf's array
abbrev pub OneLeafMeans : Type 0
OneLeafMeans =
    (store : StoreView) (segment : SegmentView) (leaf : Leaf) → IsSegment segment
    → only_leaf segment.nodes ≡ Some leaf
    → entry store segment ≡ Means (leaf_array store (leaf_shape leaf) leaf)

-- and is lawful exactly where the leaf is and its elements lie in the range
abbrev pub OneLeafLawful : Type 0
OneLeafLawful =
    (store : StoreView) (leaf : Leaf) (range : Interval)
    → IsLawful store (leaf_segment leaf range) ↔ (IsLawfulLeaf store leaf × LeafWithin store leaf range)

-- 64 functions leave at most 65 leaves, so no owner is named more often
abbrev pub NamedAtMost : Type 0
NamedAtMost = (segment : SegmentView) (key : ℕ) → IsSegment segment → named_by segment key ≤ 65

-- ---- whole views

-- where an owner has just the cells of a shape, its whole view stands for the array of these cells
abbrev pub WholeViewStands : Type 0
WholeViewStands =
    (store : StoreView) (owner : ℕ) (lengths : List ℕ) (leaf : Leaf) → FillsShape store owner lengths
    → IsWholeView owner lengths (kind_of store owner) leaf
    → StandsForArray store leaf (owner_array store owner lengths)

-- after a cell of the owner was written, for the array with that cell set at that place
abbrev pub WrittenViewStands : Type 0
WrittenViewStands =
    (store : StoreView) (owner : ℕ) (lengths : List ℕ) (leaf : Leaf) (place : ℕ) (cell : ℤ)
    → FillsShape store owner lengths → IsWholeView owner lengths (kind_of store owner) leaf
    → StandsForArray (with_cell store owner place cell) leaf
    (record (owner_array store owner lengths) { cells = slice_set (cells_of store owner) place cell })
