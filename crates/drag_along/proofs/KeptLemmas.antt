-- Leaves and segments over a store in which the data that they name stayed.
use Rattle.std.proofs.Common.{◌≡◌, ℕ, ◌<◌, ◌≤◌, ℤ, pos, List, [], ◌∷◌, length, map, refl, sym, ap, ◌∙◌, subst, arith}
use Rattle.std.specs.Prelude.{unsigned_abs, slice_index_or, ◌<ℤ◌}
use Rattle.std.proofs.lemmas.Bool.{eq-eqb}
use Rattle.apl_base.specs.Array.{Array, size_of, index_at}
use Rattle.apl_base.specs.Selection.{upward}
use Rattle.array_desc.specs.Desc.{number}
use Rattle.array_store.specs.Stores.{StoreView}
use Rattle.array_store.specs.Follows.{Follows, Holds, both, one_of}
use Rattle.array_store.proofs.FollowsLemmas.{cells_of-kept, kind_of-kept}
use Rattle.drag_along.specs.declared.leaves.Leaf.{Leaf}
use Rattle.drag_along.specs.declared.leaves.Leaf.TheVariants.{Stored, Gen}
use Rattle.drag_along.specs.declared.nodes.Node.{Node}
use Rattle.drag_along.specs.declared.nodes.Node.TheVariants.{Operand, One, Two}
use Rattle.drag_along.specs.Nodes.{named_by_leaf, named_by_nodes, AllLeaves, leaf_kind}
use Rattle.drag_along.specs.Segments.{SegmentView, named_by}
use Rattle.drag_along.specs.Meaning.{Pending, pending, stopped, leaf_cell, leaf_array, after_node, after_nodes, newest, entry}
use Rattle.drag_along.specs.Lawful.{IsLawfulLeaf, IsLawful, MeansWithin, SameData}

pub follows_keeps : (old new : StoreView) (before after others leaves : ℕ → ℕ) → Follows old new before after → Holds old (both before others) → ((key : ℕ) → leaves key ≤ others key) → SameData old new leaves
follows_keeps old new before after others leaves f h few = record {
  live = λ key named. omega (arith, f.holders key, h key, few key);
  kept = λ key named. f.kept key (omega (arith, h key, few key));
}

-- a leaf names its own owner
one_of-self : (owner : ℕ) → 0 < one_of owner owner
one_of-self owner = rw (eq-eqb owner owner refl) (omega arith)

-- the cells of a leaf are those of its owner at its numbers
cells_kept : (old new : StoreView) (leaf : Leaf) → SameData old new (named_by_leaf leaf) → leaf_cell new leaf ≡ leaf_cell old leaf
cells_kept old new (Stored owner desc kind) same =
    ap (λ (cells : List ℤ). λ (i : List ℕ). slice_index_or cells (unsigned_abs (number desc i)) (pos 0))
    (cells_of-kept old new owner (same.kept owner (one_of-self owner)))
cells_kept old new (Gen desc kind) same = refl

pub lawful_leaf_kept : (old new : StoreView) (leaf : Leaf) → SameData old new (named_by_leaf leaf) → IsLawfulLeaf old leaf → IsLawfulLeaf new leaf
lawful_leaf_kept old new (Stored owner desc kind) same lawful =
    let data_same = same.kept owner (one_of-self owner) in
    record {
      live = same.live owner (one_of-self owner);
      kind = kind_of-kept old new owner data_same ∙ lawful.kind;
      low = lawful.low;
      high = λ i h. subst (λ (cells : List ℤ). number desc i <ℤ pos (length cells)) (sym (cells_of-kept old new owner data_same)) (lawful.high i h);
    }
lawful_leaf_kept old new (Gen desc kind) same lawful = lawful

pub leaf_kept : (old new : StoreView) (leaf : Leaf) → SameData old new (named_by_leaf leaf) → IsLawfulLeaf old leaf → IsLawfulLeaf new leaf × ((i : List ℕ) → leaf_cell new leaf i ≡ leaf_cell old leaf i)
leaf_kept old new leaf same lawful =
    (lawful_leaf_kept old new leaf same lawful, λ i. ap (λ (cell : List ℕ → ℤ). cell i) (cells_kept old new leaf same))

-- fewer leaves name no other owner
fewer : (old new : StoreView) (some more : ℕ → ℕ) → ((key : ℕ) → some key ≤ more key) → SameData old new more → SameData old new some
fewer old new some more few same = record {
  live = λ key named. same.live key (omega (arith, few key));
  kept = λ key named. same.kept key (omega (arith, few key));
}

leaf_array-kept : (old new : StoreView) (sh : List ℕ) (leaf : Leaf) → SameData old new (named_by_leaf leaf) → leaf_array new sh leaf ≡ leaf_array old sh leaf
leaf_array-kept old new sh leaf same =
    ap (λ (cell : List ℕ → ℤ). let a : Array = record { kind = leaf_kind leaf; shape = sh; cells = map (λ p. cell (index_at sh p)) (upward 0 (size_of sh)) } in a) (cells_kept old new leaf same)

after_node-kept : (old new : StoreView) (sh : List ℕ) (leaf : Leaf) (st : Pending) → SameData old new (named_by_leaf leaf) → after_node new sh (Operand leaf) st ≡ after_node old sh (Operand leaf) st
after_node-kept old new sh leaf (stopped p) same = refl
after_node-kept old new sh leaf (pending us) same = ap (λ (a : Array). pending (a ∷ us)) (leaf_array-kept old new sh leaf same)

-- a function reads no store
after_one : (old new : StoreView) (sh : List ℕ) (x : Node) (st : Pending) → SameData old new (named_by_nodes (x ∷ [])) → after_node new sh x st ≡ after_node old sh x st
after_one old new sh (Operand leaf) st same = after_node-kept old new sh leaf st (fewer old new (named_by_leaf leaf) (named_by_nodes (Operand leaf ∷ [])) (λ key. omega arith) same)
after_one old new sh (One f p) (stopped q) same = refl
after_one old new sh (One f p) (pending []) same = refl
after_one old new sh (One f p) (pending (b ∷ us)) same = refl
after_one old new sh (Two f p) (stopped q) same = refl
after_one old new sh (Two f p) (pending []) same = refl
after_one old new sh (Two f p) (pending (a ∷ [])) same = refl
after_one old new sh (Two f p) (pending (a ∷ b ∷ us)) same = refl

named-head : (x : Node) (xs : List Node) (key : ℕ) → named_by_nodes (x ∷ []) key ≤ named_by_nodes (x ∷ xs) key
named-head (Operand leaf) xs key = omega arith
named-head (One f p) xs key = omega arith
named-head (Two f p) xs key = omega arith

named-rest : (x : Node) (xs : List Node) (key : ℕ) → named_by_nodes xs key ≤ named_by_nodes (x ∷ xs) key
named-rest (Operand leaf) xs key = omega arith
named-rest (One f p) xs key = omega arith
named-rest (Two f p) xs key = omega arith

after_nodes-kept : (old new : StoreView) (sh : List ℕ) (xs : List Node) (st : Pending) → SameData old new (named_by_nodes xs) → after_nodes new sh xs st ≡ after_nodes old sh xs st
after_nodes-kept old new sh [] st same = refl
after_nodes-kept old new sh (x ∷ xs) st same =
    after_nodes-kept old new sh xs (after_node new sh x st) (fewer old new (named_by_nodes xs) (named_by_nodes (x ∷ xs)) (named-rest x xs) same)
    ∙ ap (after_nodes old sh xs) (after_one old new sh x st (fewer old new (named_by_nodes (x ∷ [])) (named_by_nodes (x ∷ xs)) (named-head x xs) same))

leaves_kept : (old new : StoreView) (xs : List Node) → SameData old new (named_by_nodes xs) → AllLeaves (IsLawfulLeaf old) xs → AllLeaves (IsLawfulLeaf new) xs
leaves_kept old new [] same h = tt
leaves_kept old new (Operand leaf ∷ xs) same h = (
  lawful_leaf_kept old new leaf (fewer old new (named_by_leaf leaf) (named_by_nodes (Operand leaf ∷ xs)) (λ key. omega arith) same) h.0,
  leaves_kept old new xs (fewer old new (named_by_nodes xs) (named_by_nodes (Operand leaf ∷ xs)) (named-rest (Operand leaf) xs) same) h.1,
)
leaves_kept old new (One f p ∷ xs) same h = leaves_kept old new xs same h
leaves_kept old new (Two f p ∷ xs) same h = leaves_kept old new xs same h

pub segment_kept : (old new : StoreView) (segment : SegmentView) → SameData old new (named_by segment) → IsLawful old segment → IsLawful new segment × (entry new segment ≡ entry old segment)
unfolding entry
segment_kept old new segment same lawful =
    let means = ap newest (after_nodes-kept old new segment.shape segment.nodes (pending []) same) in (
      record {
        leaves = leaves_kept old new segment.nodes same lawful.leaves;
        sound = λ no. subst (MeansWithin segment.range) (sym means) (lawful.sound no);
      },
      means,
    )
