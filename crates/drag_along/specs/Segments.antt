-- Segments: pending expressions, as contracts see them.
use Rattle.std.specs.Prelude.{◌≡◌, ℕ, ◌<◌, ◌≤◌, ◌==◌, Bool, true, false, not, ◌&&◌, ◌||◌, List, [], ◌∷◌, ◌++◌, Some}
use Rattle.apl_base.specs.declared.cells.Kind.{Kind}
use Rattle.apl_base.specs.declared.cells.Kind.TheVariants.{Num}
use Rattle.apl_base.specs.declared.cells.Interval.{Interval}
use Rattle.apl_base.specs.declared.faults.Place.{Place}
use Rattle.apl_base.specs.declared.rows.Mon.{Mon}
use Rattle.apl_base.specs.declared.rows.Dya.{Dya}
use Rattle.apl_base.specs.Array.{IsShape, size_of}
use Rattle.apl_base.specs.Interval.{IsInterval}
use Rattle.array_desc.specs.Desc.{IsDesc}
use Rattle.value_range.specs.declared.sides.Side.{Side}
use Rattle.value_range.specs.declared.sides.Ranged.{Ranged}
use Rattle.value_range.specs.Interval.{ranged1, ranged2}
use Rattle.drag_along.specs.declared.leaves.Leaf.{Leaf}
use Rattle.drag_along.specs.declared.nodes.Node.{Node}
use Rattle.drag_along.specs.declared.nodes.Node.TheVariants.{Operand, One, Two}
use Rattle.drag_along.specs.Nodes.{leaf_desc, leaf_kind, leaf_shape, AllLeaves, functions_in, named_by_nodes, pending_after, kind_of_nodes}

-- the shape and kind of what it means, the nodes in postfix order with the right operand first, an interval of
-- its values, and whether a function in it may be undefined at an element
pub record SegmentView : Type 0 where
  pub shape : List ℕ
  pub kind : Kind
  pub nodes : List Node
  pub range : Interval
  pub may_fail : Bool

-- how many of its leaves name an owner
abbrev pub named_by : SegmentView → ℕ → ℕ
named_by segment key = named_by_nodes segment.nodes key

-- a leaf of this shape, with a descriptor that is one
pub record HasShape (shape : List ℕ) (leaf : Leaf) : Type 0 where
  pub desc : IsDesc (leaf_desc leaf)
  pub same : leaf_shape leaf ≡ shape

-- what is so of every segment: each leaf has its shape, the nodes leave one value, at most 64 of them are
-- functions, there is one where it may fail, the kind is that of its one leaf or number, and the range is an
-- interval of numbers
pub record IsSegment (segment : SegmentView) : Type 0 where
  pub shape : IsShape segment.shape
  pub leaves : AllLeaves (HasShape segment.shape) segment.nodes
  pub whole : pending_after segment.nodes 0 ≡ Some 1
  pub functions : functions_in segment.nodes ≤ 64
  pub failing : segment.may_fail ≡ true → 0 < functions_in segment.nodes
  pub kind : segment.kind ≡ kind_of_nodes segment.nodes
  pub range : IsInterval segment.range

-- what the interval rules are told of a segment
abbrev pub side_of : SegmentView → Side
side_of segment = record { kind = segment.kind; interval = segment.range }

-- a function may fail where there is an element and its rule does not find it safe
abbrev pub may_fail_at : List ℕ → Ranged → Bool
may_fail_at shape answer = not (size_of shape == 0) && not answer.safe

-- the segment of one leaf
abbrev pub leaf_segment : Leaf → Interval → SegmentView
leaf_segment leaf range = record {
  shape = leaf_shape leaf;
  kind = leaf_kind leaf;
  nodes = Operand leaf ∷ [];
  range = range;
  may_fail = false;
}

-- `f B`, pending
abbrev pub joined1 : Mon → Place → SegmentView → SegmentView
joined1 f place right = record {
  shape = right.shape;
  kind = Num;
  nodes = right.nodes ++ One f place ∷ [];
  range = (ranged1 f (side_of right)).range;
  may_fail = right.may_fail || may_fail_at right.shape (ranged1 f (side_of right));
}

-- `A f B`, pending: the nodes of B, then those of A, then the function
abbrev pub joined2 : Dya → Place → SegmentView → SegmentView → SegmentView
joined2 f place left right = record {
  shape = right.shape;
  kind = Num;
  nodes = right.nodes ++ left.nodes ++ Two f place ∷ [];
  range = (ranged2 f (side_of left) (side_of right)).range;
  may_fail = right.may_fail || left.may_fail || may_fail_at right.shape (ranged2 f (side_of left) (side_of right));
}
