-- The elements of two arrays, one after the other.
use Rattle.std.proofs.Common.{◌≡◌, ◌+◌, ℤ, List, [], ◌++◌, length, ap, ◌∙◌, arith, length-append}
use Rattle.apl_base.specs.Array.{Array}
use Rattle.array_store.specs.Stores.{StoreView}
use Rattle.array_store.specs.Counting.{OnlyCounted}
use Rattle.drag_along.specs.declared.leaves.Leaf.{Leaf}
use Rattle.leaf_names.specs.Variables.{array_of}
use Rattle.made_fns.specs.Answers.{elements_in, joined_array}
use Rattle.made_fns.proofs.Lengths.{length-array_of, array_of-counted}

pub length-joined : (s : StoreView) (a b : Leaf) → length (joined_array s a b).cells ≡ elements_in a + elements_in b
length-joined s a b =
    length-append (array_of s a).cells (array_of s b).cells ∙ omega (arith, length-array_of s a, length-array_of s b)

-- what was read behind what was read
pub joined_are : (s t : StoreView) (a b : Leaf) (empty first both : List ℤ) → OnlyCounted s t → empty ≡ [] → first ≡ empty ++ (array_of s a).cells → both ≡ first ++ (array_of t b).cells → both ≡ (joined_array s a b).cells
joined_are s t a b empty first both only none one two =
    two ∙ ap (λ (xs : List ℤ). xs ++ (array_of t b).cells) (one ∙ ap (λ (xs : List ℤ). xs ++ (array_of s a).cells) none)
    ∙ ap (λ (x : Array). (array_of s a).cells ++ x.cells) (array_of-counted s t b only)
