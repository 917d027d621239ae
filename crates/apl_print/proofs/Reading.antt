-- A leaf that is read in blocks, from its first place on.
use Rattle.std.proofs.Common.{◌≡◌, ℕ, ◌+◌, List, refl, sym, ap, ◌∙◌, subst}
use Rattle.apl_base.specs.Array.{index_at}
use Rattle.apl_base.proofs.Upward.{map-upward-same}
use Rattle.array_store.specs.Stores.{StoreView}
use Rattle.array_store.specs.Counting.{after_fetches}
use Rattle.array_store.proofs.CountingLemmas.{after_fetches-then}
use Rattle.drag_along.specs.declared.leaves.Leaf.{Leaf}
use Rattle.drag_along.specs.declared.leaves.Leaf.TheVariants.{Stored, Gen}
use Rattle.drag_along.specs.Nodes.{leaf_shape}
use Rattle.drag_along.specs.Meaning.{leaf_cell}
use Rattle.drag_along.specs.Lawful.{IsLawfulLeaf}
use Rattle.e_machine.specs.Forced.{AreRead, cells_from}

pub read_then : (a b c : StoreView) (leaf : Leaf) (m n : ℕ) → AreRead a b leaf m → AreRead b c leaf n → AreRead a c leaf (m + n)
read_then a b c (Stored owner desc kind) m n p q = q ∙ ap (λ (s : StoreView). after_fetches s n) p ∙ after_fetches-then a m n
read_then a b c (Gen desc kind) m n p q = q ∙ p

-- what was only read leaves the leaf as it was
pub lawful_read : (a b : StoreView) (leaf : Leaf) (n : ℕ) → AreRead a b leaf n → IsLawfulLeaf a leaf → IsLawfulLeaf b leaf
lawful_read a b (Stored owner desc kind) n read lawful = subst (λ (s : StoreView). IsLawfulLeaf s (Stored owner desc kind)) (sym read)
    (record { live = lawful.live; kind = lawful.kind; low = lawful.low; high = lawful.high })
lawful_read a b (Gen desc kind) n read lawful = subst (λ (s : StoreView). IsLawfulLeaf s (Gen desc kind)) (sym read) lawful

cell_read : (a b : StoreView) (leaf : Leaf) (n : ℕ) (i : List ℕ) → AreRead a b leaf n → leaf_cell b leaf i ≡ leaf_cell a leaf i
cell_read a b (Stored owner desc kind) n i read = ap (λ (s : StoreView). leaf_cell s (Stored owner desc kind) i) read
cell_read a b (Gen desc kind) n i read = refl

pub cells_read : (a b : StoreView) (leaf : Leaf) (n first count : ℕ) → AreRead a b leaf n → cells_from b leaf first count ≡ cells_from a leaf first count
cells_read a b leaf n first count read =
    map-upward-same (λ p. leaf_cell b leaf (index_at (leaf_shape leaf) p)) (λ p. leaf_cell a leaf (index_at (leaf_shape leaf) p)) first count
    (λ p low high. cell_read a b leaf n (index_at (leaf_shape leaf) p) read)
