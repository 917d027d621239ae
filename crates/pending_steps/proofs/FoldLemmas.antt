-- Segments of a progression that a function folded to.
use Rattle.std.proofs.Common.{◌≡◌, ℕ, ◌+◌, List, [], ◌∷◌, refl, sym, ap, subst, ◌∙◌}
use Rattle.std.specs.Prelude.{IsTrue, is_some}
use Rattle.apl_base.specs.declared.cells.Interval.{Interval}
use Rattle.apl_base.specs.declared.cells.Kind.TheVariants.{Num, Char}
use Rattle.array_store.specs.Stores.{StoreView}
use Rattle.drag_along.specs.declared.leaves.Leaf.{Leaf}
use Rattle.drag_along.specs.declared.leaves.Leaf.TheVariants.{Stored, Gen}
use Rattle.drag_along.specs.declared.nodes.Node.{Node}
use Rattle.drag_along.specs.declared.nodes.Node.TheVariants.{Operand, One, Two}
use Rattle.drag_along.specs.Nodes.{leaf_shape, named_by_nodes, named_by_leaf}
use Rattle.drag_along.specs.Segments.{SegmentView, leaf_segment, named_by}
use Rattle.drag_along.specs.Meaning.{Meaning, Means, leaf_array, entry}
use Rattle.drag_along.specs.Lawful.{IsLawfulLeaf}
use Rattle.drag_along.specs.Views.{only_numbers}
use Rattle.beating.specs.Folds.{FoldsTo, IsNumbers}

-- an expression that is one leaf of numbers names no owner
unnamed-nodes : (nodes : List Node) (key : ℕ) → IsTrue (is_some (only_numbers nodes)) → named_by_nodes nodes key ≡ 0
unnamed-nodes (Operand (Gen desc Num) ∷ []) key h = refl
unnamed-nodes (Operand (Gen desc Num) ∷ (n ∷ nodes)) key h = absurd cc
unnamed-nodes (Operand (Gen desc Char) ∷ nodes) key h = absurd cc
unnamed-nodes (Operand (Stored owner desc kind) ∷ nodes) key h = absurd cc
unnamed-nodes (One f place ∷ nodes) key h = absurd cc
unnamed-nodes (Two f place ∷ nodes) key h = absurd cc
unnamed-nodes [] key h = absurd cc

pub unnamed : (s : SegmentView) (key : ℕ) → IsNumbers s → named_by s key ≡ 0
unnamed s key h = unnamed-nodes s.nodes key h

-- the leaf that came is lawful over every store
pub fold_leaf : (ns : List ℕ) (leaf : Leaf) (meaning : StoreView → Meaning) → FoldsTo ns leaf meaning → (store : StoreView) → IsLawfulLeaf store leaf
fold_leaf ns leaf meaning fold store = subst (IsLawfulLeaf store) (sym fold.is) tt

-- what the segment of one leaf means
one_means : (store : StoreView) (leaf : Leaf) (range : Interval) → entry store (leaf_segment leaf range) ≡ Means (leaf_array store (leaf_shape leaf) leaf)
unfolding entry
one_means store leaf range = refl

module _ (ns : List ℕ) (leaf : Leaf) (meaning : StoreView → Meaning) (range : Interval) (fold : FoldsTo ns leaf meaning) (s : SegmentView) (is : s ≡ leaf_segment leaf range) where
  pub fold_shape : s.shape ≡ ns
  fold_shape = ap (λ (x : SegmentView). x.shape) is ∙ fold.shape.same

  pub fold_named : (key : ℕ) → named_by s key ≡ 0
  fold_named key = ap (λ (x : SegmentView). named_by x key) is ∙ ap (λ (l : Leaf). named_by_leaf l key + 0) fold.is

  pub fold_means : (store : StoreView) → entry store s ≡ meaning store
  fold_means store = ap (entry store) is ∙ one_means store leaf range ∙ ap (λ (ms : List ℕ). Means (leaf_array store ms leaf)) fold.shape.same ∙ fold.means store
