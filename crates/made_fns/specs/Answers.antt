-- What the functions of this crate answer and count, beside what `made_leaf` says of all functions made at once.
use Rattle.std.specs.Prelude.{ℕ, ◌%◌, ℤ, pos, int_le, unsigned_abs, Bool, ◌&&◌, ◌≡◌, ◌<◌, List, ◌++◌, length, map, slice_index, slice_index_or, slice_set, not, ◌==◌, Result, Ok, Err}
use Rattle.apl_base.specs.declared.cells.Kind.TheVariants.{Num}
use Rattle.apl_base.specs.declared.faults.ErrorKind.{ErrorKind}
use Rattle.apl_base.specs.declared.faults.ErrorKind.TheVariants as error
use Rattle.apl_base.specs.Array.{Array, size_of}
use Rattle.apl_base.specs.Elements.{gathered, tabulated}
use Rattle.apl_base.specs.Selection.{upward}
use Rattle.array_desc.specs.Desc.{DescView}
use Rattle.array_store.specs.Stores.{StoreView}
use Rattle.drag_along.specs.declared.leaves.Leaf.{Leaf}
use Rattle.drag_along.specs.declared.leaves.Leaf.TheVariants.{Gen}
use Rattle.drag_along.specs.Nodes.{leaf_shape}
use Rattle.drag_along.specs.Views.{StandsForArray}
use Rattle.apl_model.specs.declared.functions.Axis.{Axis}
use Rattle.apl_model.specs.Made.{joined_kind, on_axis, turn, turned_index, extended_to, bits_along, compressed, ones, spaced, expanded, read_or_fill}
use Rattle.apl_model.specs.Whole.{Answer, count, is_extendable, error_if, vector}
use Rattle.leaf_names.specs.Variables.{array_of}

-- how many elements a leaf has
abbrev pub elements_in : Leaf → ℕ
elements_in leaf = size_of (leaf_shape leaf)

-- the leaf has the numbers of a descriptor, and stands over every store for the array that is the answer
pub record IsNumbersOf (answer : Answer) (leaf : Leaf) : Type 0 where
  pub array : Array
  pub is : answer ≡ Ok array
  pub desc : DescView
  pub numbers : leaf ≡ Gen desc Num
  pub stands : (store : StoreView) → StandsForArray store leaf array

-- what is answered by a function that makes no owner: such a leaf, or the answer's error
abbrev pub IsNumbersBy : Answer → Result Leaf ErrorKind → Type 0
IsNumbersBy answer (Ok leaf) = IsNumbersOf answer leaf
IsNumbersBy answer (Err kind) = answer ≡ Err kind

-- the elements of A and then those of B
abbrev pub joined_array : StoreView → Leaf → Leaf → Array
joined_array store a b =
    let x = array_of store a in
    let y = array_of store b in
    vector (joined_kind x y) (x.cells ++ y.cells)

-- a number from one to another
abbrev pub is_between : ℤ → ℤ → ℤ → Bool
is_between low high z = int_le low z && int_le z high

-- the lengths that an array of numbers names: their magnitudes
abbrev pub lengths_named : Array → List ℕ
lengths_named a = map unsigned_abs a.cells

-- the elements of B in the shape A
abbrev pub reshaped_array : Array → Array → Array
reshaped_array a b = record {
  kind = b.kind;
  shape = lengths_named a;
  cells = map (λ p. slice_index_or b.cells (p % count b) (pos 0)) (upward 0 (size_of (lengths_named a)));
}

-- ---- axes

-- a function along this axis of an array of this rank goes along axis k, where a number in brackets counts from 1
abbrev pub GoesAlong : Axis → ℕ → ℕ → Type 0
GoesAlong axis rank k = (make : ℕ → Answer) → on_axis (pos 1) axis rank make ≡ make k

-- there is no such axis
abbrev pub NoAxis : Axis → ℕ → Type 0
NoAxis axis rank = (make : ℕ → Answer) → on_axis (pos 1) axis rank make ≡ Err error.Rank

-- B turned along an axis by A
abbrev pub rotated_array : ℕ → Array → Array → Array
rotated_array k a b = gathered b.shape (λ is. turned_index b.shape k (turn a k is) is) b

-- ---- an axis that becomes shorter or longer

-- the elements of B along axis k where A is 1
abbrev pub kept_array : ℕ → Array → Array → Array
kept_array k a b =
    let c = extended_to (count a) b in
    compressed k (bits_along (slice_index c.shape k) a) c

-- axis k is one of B's, or of the vector to which B extends, and A has a number for each number on it
pub record CanKeep (k : ℕ) (a b : Array) : Type 0 where
  pub axis : k < length (extended_to (count a) b).shape
  pub bits : length (bits_along (slice_index (extended_to (count a) b).shape k) a) ≡ slice_index (extended_to (count a) b).shape k

-- B with its next elements along axis k where A is 1, and filled where A is 0
abbrev pub spaced_array : ℕ → Array → Array → Array
spaced_array k a b =
    let c = extended_to (ones a.cells) b in
    tabulated c.kind (slice_set c.shape k (length a.cells)) (λ is. read_or_fill c (spaced k a.cells is))

-- what is answered once A is known to have bits: B has as many elements along axis k as A has ones, or extends
abbrev pub spaced_answer : ℕ → Array → Array → Answer
spaced_answer k a b =
    error_if error.Length (not (is_extendable b) && not (ones a.cells == slice_index b.shape k))
    (expanded k a.cells (extended_to (ones a.cells) b))

-- axis k is one of B's, or of the vector to which B extends, and has n numbers
pub record CanSpace (k n : ℕ) (b : Array) : Type 0 where
  pub axis : k < length (extended_to n b).shape
  pub ones : n ≡ slice_index (extended_to n b).shape k
