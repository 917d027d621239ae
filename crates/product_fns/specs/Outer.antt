-- What an outer product answers: a pending expression of two leaves and one function.
use Rattle.std.specs.Prelude.{◌≡◌}
use Rattle.apl_base.specs.declared.cells.Interval.{Interval}
use Rattle.apl_base.specs.declared.faults.Place.{Place}
use Rattle.apl_base.specs.declared.rows.Dya.{Dya}
use Rattle.array_store.specs.Stores.{StoreView}
use Rattle.array_store.specs.Follows.{LeafCounts, both}
use Rattle.drag_along.specs.declared.leaves.Leaf.{Leaf}
use Rattle.drag_along.specs.Nodes.{leaf_shape, named_by_leaf}
use Rattle.drag_along.specs.Segments.{SegmentView, IsSegment, leaf_segment, joined2}
use Rattle.drag_along.specs.Meaning.{Means, leaf_array, entry}
use Rattle.drag_along.specs.Lawful.{IsLeafInterval, IsLawful}
use Rattle.beating.specs.declared.selections.Selection.TheVariants as select
use Rattle.beating.specs.declared.selections.Selection.{Selection}
use Rattle.beating.specs.Selecting.{SelectsLeaf, selected}
use Rattle.apl_model.specs.Whole.{Answer}
use Rattle.apl_model.specs.Product.{outer}

-- `A∘.f B` of the arrays that two leaves stand for
abbrev pub outer_of : StoreView → Dya → Leaf → Leaf → Answer
outer_of store f a b = outer f (leaf_array store (leaf_shape a) a) (leaf_array store (leaf_shape b) b)

-- two leaves, as leaves are counted
abbrev pub named_by_both : Leaf → Leaf → LeafCounts
named_by_both a b = both (named_by_leaf a) (named_by_leaf b)

-- the expression is the function at this place over both leaves, each of which is read over the joined shape
pub record IsPendingProduct (store : StoreView) (f : Dya) (place : Place) (a b : Leaf) (segment : SegmentView) : Type 0 where
  pub left : Leaf
  pub right : Leaf
  pub left_range : Interval
  pub right_range : Interval
  pub left_selects : SelectsLeaf (select.OuterLeft (leaf_shape b)) a left
  pub right_selects : SelectsLeaf (select.OuterRight (leaf_shape a)) b right
  pub left_known : IsLeafInterval store a left_range
  pub right_known : IsLeafInterval store b right_range
  pub joined : segment ≡ joined2 f place (leaf_segment left left_range) (leaf_segment right right_range)

-- one leaf is read by a selection, within the interval that is known of it; the expression means what is selected
pub record IsExtended (store : StoreView) (by : Selection) (leaf : Leaf) (segment : SegmentView) : Type 0 where
  pub read : Leaf
  pub range : Interval
  pub selects : SelectsLeaf by leaf read
  pub known : IsLeafInterval store leaf range
  pub is : segment ≡ leaf_segment read range
  pub whole : IsSegment segment
  pub lawful : IsLawful store segment
  pub means : entry store segment ≡ Means (selected by (leaf_array store (leaf_shape leaf) leaf))
