-- How many cells and elements there are.
use Rattle.std.proofs.Common.{◌≡◌, ℕ, List, ℤ, [], ◌∷◌, ◌++◌, length, ap, ◌∙◌, arith}
use Rattle.apl_base.specs.Array.{size_of}
use Rattle.apl_base.proofs.Elements.{tabulated-count}
use Rattle.array_store.specs.Stores.{StoreView}
use Rattle.array_store.specs.Counting.{OnlyCounted}
use Rattle.drag_along.specs.declared.leaves.Leaf.{Leaf}
use Rattle.drag_along.specs.Nodes.{leaf_kind, leaf_shape}
use Rattle.drag_along.specs.Meaning.{leaf_cell}
use Rattle.e_machine.proofs.CountedLemmas.{leaf_array-counted}
use Rattle.leaf_names.specs.Variables.{array_of}

-- an array of a leaf has as many cells as the leaf has elements
pub length-array_of : (s : StoreView) (leaf : Leaf) → length (array_of s leaf).cells ≡ size_of (leaf_shape leaf)
length-array_of s leaf = tabulated-count (leaf_kind leaf) (leaf_shape leaf) (leaf_cell s leaf)

-- the size of a vector
pub size_of-vector : (ns : List ℕ) (n : ℕ) → ns ≡ n ∷ [] → size_of ns ≡ n
size_of-vector ns n e = ap size_of e ∙ omega arith

-- what was put behind nothing is all
pub appended : {empty cells now : List ℤ} → empty ≡ [] → now ≡ empty ++ cells → now ≡ cells
appended {cells = cells} none e = e ∙ ap (λ (xs : List ℤ). xs ++ cells) none

-- where something was only counted a leaf stands for the same array
pub array_of-counted : (old new : StoreView) (leaf : Leaf) → OnlyCounted old new → array_of new leaf ≡ array_of old leaf
array_of-counted old new leaf only = leaf_array-counted old new (leaf_shape leaf) leaf only
