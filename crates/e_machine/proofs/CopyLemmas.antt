-- A copy of a leaf.
use Rattle.std.proofs.Common.{◌≡◌, ℕ, ◌+◌, ◌≤◌, ℤ, List, [], ◌++◌, length, sym, ap, ◌∙◌, subst, arith}
use Rattle.apl_base.specs.Array.{size_of}
use Rattle.array_store.specs.Stores.{StoreView, AreCounts, HasRoom, Makes, new_owner}
use Rattle.array_store.specs.Counting.{OnlyFetched}
use Rattle.array_store.proofs.CountingLemmas.{OnlyFetched-none, OnlyFetched-after}
use Rattle.drag_along.specs.declared.leaves.Leaf.{Leaf}
use Rattle.drag_along.specs.declared.leaves.Leaf.TheVariants.{Stored, Gen}
use Rattle.drag_along.specs.Nodes.{leaf_kind, leaf_shape}
use Rattle.drag_along.specs.Meaning.{leaf_array}
use Rattle.drag_along.specs.Views.{IsWholeView}
use Rattle.drag_along.proofs.LawfulLemmas.{leaf_array-form}
use Rattle.e_machine.specs.Forced.{AreRead, cells_from, IsCopy}
use Rattle.e_machine.proofs.WholeLemmas.{stands-made}

-- a leaf that was read at so many places costs so many fetches at most
pub fetched_read : (old new : StoreView) (leaf : Leaf) (n : ℕ) → AreCounts old.counts → AreRead old new leaf n → OnlyFetched old new n
fetched_read old new (Stored owner desc kind) n small read = subst (λ (s : StoreView). OnlyFetched old s n) (sym read) (OnlyFetched-after old n small)
fetched_read old new (Gen desc kind) n small read = subst (λ (s : StoreView). OnlyFetched old s n) (sym read) (OnlyFetched-none old n)

-- the cells at all places are those of its array
pub read_is : (s : StoreView) (leaf : Leaf) (n : ℕ) (empty cells : List ℤ) → empty ≡ [] → n ≡ size_of (leaf_shape leaf) → cells ≡ empty ++ cells_from s leaf 0 n → cells ≡ (leaf_array s (leaf_shape leaf) leaf).cells
read_is s leaf n empty cells none all read =
    read ∙ ap (λ (xs : List ℤ). xs ++ cells_from s leaf 0 n) none ∙ ap (cells_from s leaf 0) all

-- ---- the copy

-- what was only counted leaves the room
pub HasRoom-counted : (old new : StoreView) (most asked : ℕ) → OnlyFetched old new most → HasRoom old asked → HasRoom new asked
HasRoom-counted old new most asked f room =
    omega (arith, room, ap (λ (s : StoreView). s.live) f.only, ap (λ (s : StoreView). s.limit) f.only)

length-leaf_array : (s : StoreView) (leaf : Leaf) → length (leaf_array s (leaf_shape leaf) leaf).cells ≡ size_of (leaf_shape leaf)
length-leaf_array s leaf = (leaf_array-form s (leaf_shape leaf) leaf).count

-- so many cells have room
pub room_for_cells : (old between : StoreView) (leaf : Leaf) (cells : List ℤ) (count : ℕ) → OnlyFetched old between (size_of (leaf_shape leaf)) → HasRoom old (size_of (leaf_shape leaf)) → cells ≡ (leaf_array old (leaf_shape leaf) leaf).cells → length cells ≡ count → between.live + count ≤ between.limit
room_for_cells old between leaf cells count f room are long =
    omega (arith, HasRoom-counted old between _ _ f room, ap length are, length-leaf_array old leaf)

-- a whole view of an owner that was made of a leaf's elements is a copy of the leaf
pub IsCopy-made : (old between new : StoreView) (leaf copy : Leaf) (key : ℕ) (cells : List ℤ) → OnlyFetched old between (size_of (leaf_shape leaf)) → cells ≡ (leaf_array old (leaf_shape leaf) leaf).cells → Makes between new key (new_owner cells (leaf_kind leaf)) → IsWholeView key (leaf_shape leaf) (leaf_kind leaf) copy → IsCopy old new leaf copy
IsCopy-made old between new leaf copy key cells f are makes view =
    let all : List ℤ = (leaf_array old (leaf_shape leaf) leaf).cells in
    let made : Makes between new key (new_owner all (leaf_kind leaf)) =
    subst (λ (cs : List ℤ). Makes between new key (new_owner cs (leaf_kind leaf))) are makes in
    record {
      made = record {
        key = key;
        count = length-leaf_array old leaf;
        view = view;
        made = record { between = between; counts = f; makes = made };
      };
      stands = stands-made between new key all (leaf_shape leaf) (leaf_kind leaf) copy made (length-leaf_array old leaf) view;
    }
