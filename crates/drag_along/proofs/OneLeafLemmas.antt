-- Segments of one leaf, and how often a segment names an owner.
use Rattle.std.proofs.Common.{◌≡◌, ℕ, zero, suc, ◌+◌, ◌<◌, ◌≤◌, pos, Bool, true, false, cond, List, [], ◌∷◌, Some, refl, sym, ap, ◌∙◌, subst, arith}
use Rattle.std.specs.Prelude.{◌↔◌}
use Rattle.std.specs.List.{AllByRecursion}
use Rattle.std.proofs.Math.Dec.{eqb}
use Rattle.apl_base.specs.declared.cells.Kind.{Kind}
use Rattle.apl_base.specs.declared.cells.Interval.{Interval}
use Rattle.apl_base.specs.Array.{IsIndex, place_at}
use Rattle.apl_base.specs.Interval.{InInterval}
use Rattle.apl_base.proofs.Lists.{all_place}
use Rattle.apl_base.proofs.Sizes.{place_at-below}
use Rattle.apl_base.proofs.Elements.{tabulated-count, tabulated-at}
use Rattle.array_store.specs.Stores.{StoreView}
use Rattle.array_store.specs.Follows.{one_of}
use Rattle.drag_along.specs.declared.leaves.Leaf.{Leaf}
use Rattle.drag_along.specs.declared.leaves.Leaf.TheVariants.{Stored, Gen}
use Rattle.drag_along.specs.declared.nodes.Node.{Node}
use Rattle.drag_along.specs.declared.nodes.Node.TheVariants.{Operand, One, Two}
use Rattle.drag_along.specs.Nodes.{leaf_kind, leaf_shape, named_by_leaf, named_by_nodes, functions_in, pending_after}
use Rattle.drag_along.specs.Segments.{SegmentView, IsSegment, named_by, leaf_segment}
use Rattle.drag_along.specs.Meaning.{Means, leaf_cell, leaf_array, entry}
use Rattle.drag_along.specs.Lawful.{IsLawfulLeaf, LeafWithin, IsLawful}
use Rattle.drag_along.specs.Views.{only_leaf}
use Rattle.drag_along.proofs.LeafLemmas.{IsLawful-leaf, entry-leaf}

-- ---- an owner is named at most as often as there are leaves

once : (owner key : ℕ) → one_of owner key ≤ 1
once owner key = elim (eqb key owner) as (λ (b : Bool). cond b 1 0 ≤ 1) [ true ↦ omega arith | false ↦ omega arith ]

pub leaf_once : (leaf : Leaf) (key : ℕ) → named_by_leaf leaf key ≤ 1
leaf_once (Stored owner desc kind) key = once owner key
leaf_once (Gen desc kind) key = omega arith

same_count : (n m : ℕ) → Some n ≡ Some m → n ≡ m
same_count n m e = cc

-- so many values as are left, and one more for each function, are pending or name it
named_few : (xs : List Node) (key n m : ℕ) → pending_after xs n ≡ Some m → named_by_nodes xs key + n ≤ m + functions_in xs
named_few [] key n m h = omega (arith, same_count n m h)
named_few (Operand leaf ∷ xs) key n m h = omega (arith, named_few xs key (suc n) m h, leaf_once leaf key)
named_few (One f p ∷ xs) key zero m h = absurd (cc)
named_few (One f p ∷ xs) key (suc n) m h = omega (arith, named_few xs key (suc n) m h)
named_few (Two f p ∷ xs) key zero m h = absurd (cc)
named_few (Two f p ∷ xs) key (suc zero) m h = absurd (cc)
named_few (Two f p ∷ xs) key (suc (suc n)) m h = omega (arith, named_few xs key (suc n) m h)

pub named_at_most : (g : SegmentView) (key : ℕ) → IsSegment g → named_by g key ≤ 65
named_at_most g key seg = omega (arith, named_few g.nodes key 0 1 seg.whole, seg.functions)

-- ---- a segment of one leaf

same_leaf : (a b : Leaf) → Some a ≡ Some b → a ≡ b
same_leaf a b e = cc

only_node : (xs : List Node) (leaf : Leaf) → only_leaf xs ≡ Some leaf → xs ≡ Operand leaf ∷ []
only_node [] leaf e = absurd (cc)
only_node (Operand a ∷ []) leaf e = ap (λ (l : Leaf). Operand l ∷ []) (same_leaf a leaf e)
only_node (Operand a ∷ x ∷ xs) leaf e = absurd (cc)
only_node (One f p ∷ xs) leaf e = absurd (cc)
only_node (Two f p ∷ xs) leaf e = absurd (cc)

cannot_fail : (b : Bool) (n : ℕ) → n ≡ 0 → (b ≡ true → 0 < n) → b ≡ false
cannot_fail true n none h = absurd (omega (arith, h refl))
cannot_fail false n none h = refl

segment_of : (leaf : Leaf) (shape : List ℕ) (kind : Kind) (nodes : List Node) (range : Interval) (may_fail : Bool) → shape ≡ leaf_shape leaf → kind ≡ leaf_kind leaf → nodes ≡ Operand leaf ∷ [] → may_fail ≡ false → record { shape = shape; kind = kind; nodes = nodes; range = range; may_fail = may_fail } ≡ leaf_segment leaf range
segment_of leaf shape kind nodes range may_fail e f g h =
    ap (λ (ns : List ℕ). let v : SegmentView = record { shape = ns; kind = kind; nodes = nodes; range = range; may_fail = may_fail } in v) e
    ∙ ap (λ (k : Kind). let v : SegmentView = record { shape = leaf_shape leaf; kind = k; nodes = nodes; range = range; may_fail = may_fail } in v) f
    ∙ ap (λ (xs : List Node). let v : SegmentView = record { shape = leaf_shape leaf; kind = leaf_kind leaf; nodes = xs; range = range; may_fail = may_fail } in v) g
    ∙ ap (λ (b : Bool). let v : SegmentView = record { shape = leaf_shape leaf; kind = leaf_kind leaf; nodes = Operand leaf ∷ []; range = range; may_fail = b } in v) h

pub one_leaf_segment : (g : SegmentView) (leaf : Leaf) → IsSegment g → only_leaf g.nodes ≡ Some leaf → g ≡ leaf_segment leaf g.range
one_leaf_segment g leaf seg only =
    let nodes : g.nodes ≡ Operand leaf ∷ [] = only_node g.nodes leaf only in
    let leaves = rw nodes at seg.leaves in
    let kind = rw nodes at seg.kind in
    segment_of leaf g.shape g.kind g.nodes g.range g.may_fail (sym leaves.0.same) kind nodes
    (cannot_fail g.may_fail (functions_in g.nodes) (ap functions_in nodes) seg.failing)

pub one_leaf_means : (s : StoreView) (g : SegmentView) (leaf : Leaf) → IsSegment g → only_leaf g.nodes ≡ Some leaf → entry s g ≡ Means (leaf_array s (leaf_shape leaf) leaf)
one_leaf_means s g leaf seg only = ap (entry s) (one_leaf_segment g leaf seg only) ∙ entry-leaf s leaf g.range

-- ---- the elements of a leaf, one by one and as a list

-- where all cells of the array lie in the range, so do the leaf's elements
pub array_within : (s : StoreView) (sh : List ℕ) (leaf : Leaf) (range : Interval) → AllByRecursion (InInterval range) (leaf_array s sh leaf).cells → (i : List ℕ) → IsIndex sh i → InInterval range (leaf_cell s leaf i)
array_within s sh leaf range all i index =
    subst (InInterval range) (tabulated-at (leaf_kind leaf) sh (leaf_cell s leaf) i index)
    (all_place (InInterval range) (leaf_array s sh leaf).cells (place_at sh i) (pos 0) all
    (omega (arith, tabulated-count (leaf_kind leaf) sh (leaf_cell s leaf), place_at-below sh i index)))

pub one_leaf_lawful : (s : StoreView) (leaf : Leaf) (range : Interval) → IsLawful s (leaf_segment leaf range) ↔ (IsLawfulLeaf s leaf × LeafWithin s leaf range)
unfolding entry
one_leaf_lawful s leaf range = (
  λ h. (h.leaves.0, array_within s (leaf_shape leaf) leaf range (h.sound refl)),
  λ h. IsLawful-leaf s leaf range h.0 h.1,
)
