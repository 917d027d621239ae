-- The selections: each gives the shape of its result and, for each index of the result, the index of the
-- argument that it reads. Indices count from 0. `ns` are the argument's lengths, `is` an index of the result.
use Rattle.std.specs.Prelude.{ℕ, zero, suc, ◌+◌, ◌-◌, ◌<◌, ◌≤◌, min, max, ℤ, pos, negsuc, ◌+ℤ◌, ◌*ℤ◌, unsigned_abs, ◌==◌, List, [], ◌∷◌, map, length, take, drop, insert, remove, slice_index, slice_set, Contains, if◌then◌else◌}
use Rattle.std.specs.List.{AllByRecursion}

-- ---- take: the first a elements of an axis where a is 0 or more, else the last |a|

-- the lengths: the magnitudes of the counts
abbrev pub take_shape : List ℤ → List ℕ
take_shape counts = map unsigned_abs counts

-- the place on an axis of length n that place i of the taken ones reads
abbrev pub taken : ℕ → ℤ → ℕ → ℕ
taken n (pos a) i = i
taken n (negsuc a) i = n - suc a + i

-- and so for each axis
abbrev pub take_index : List ℕ → List ℤ → List ℕ → List ℕ
take_index (n ∷ ns) (a ∷ counts) (i ∷ is) = taken n a i ∷ take_index ns counts is
take_index ns counts is = []

-- a count for each axis, its magnitude at most the length
abbrev pub CountsFit : List ℕ → List ℤ → Type 0
CountsFit [] [] = Unit {0}
CountsFit (n ∷ ns) (a ∷ counts) = (unsigned_abs a ≤ n) × CountsFit ns counts
CountsFit [] (a ∷ counts) = ⊥
CountsFit (n ∷ ns) [] = ⊥

-- ---- drop: without the first a elements of an axis where a is 0 or more, else without the last |a|

-- the lengths: none where a count is greater than the axis is long
abbrev pub drop_shape : List ℕ → List ℤ → List ℕ
drop_shape (n ∷ ns) (a ∷ counts) = (n - unsigned_abs a) ∷ drop_shape ns counts
drop_shape ns counts = []

-- the place on an axis of length n that place i of those left reads
abbrev pub dropped : ℕ → ℤ → ℕ → ℕ
dropped n (pos a) i = min a n + i
dropped n (negsuc a) i = i

-- and so for each axis
abbrev pub drop_index : List ℕ → List ℤ → List ℕ → List ℕ
drop_index (n ∷ ns) (a ∷ counts) (i ∷ is) = dropped n a i ∷ drop_index ns counts is
drop_index ns counts is = []

-- ---- reversal of one axis: the lengths stay

-- the index with its number on the axis counted from that axis's end
abbrev pub reverse_index : List ℕ → ℕ → List ℕ → List ℕ
reverse_index ns axis is = slice_set is axis (slice_index ns axis - 1 - slice_index is axis)

-- ---- transpose: axis j of the argument becomes axis axes[j] of the result

-- the numbers are exactly 0 to k - 1
pub record AreAxes (k : ℕ) (axes : List ℕ) : Type 0 where
  pub below : AllByRecursion (λ a. a < k) axes
  pub each : (r : ℕ) → r < k → Contains axes r

-- one more than the greatest number: the rank of the result
abbrev pub axes_rank : List ℕ → ℕ
axes_rank [] = 0
axes_rank (a ∷ axes) = max (suc a) (axes_rank axes)

-- the least number of a list, 0 where there is none
abbrev pub least : List ℕ → ℕ
least [] = 0
least (n ∷ []) = n
least (n ∷ m ∷ ms) = min n (least (m ∷ ms))

-- the lengths of the argument's axes that become axis r
abbrev pub lengths_at : ℕ → List ℕ → List ℕ → List ℕ
lengths_at r (a ∷ axes) (n ∷ ns) = if a == r then n ∷ lengths_at r axes ns else lengths_at r axes ns
lengths_at r axes ns = []

-- the numbers from a up, n of them
abbrev pub upward : ℕ → ℕ → List ℕ
upward a zero = []
upward a (suc n) = a ∷ upward (suc a) n

-- axes that fall together, a diagonal, have the least of their lengths
abbrev pub transpose_shape : List ℕ → List ℕ → List ℕ
transpose_shape axes ns = map (λ r. least (lengths_at r axes ns)) (upward 0 (axes_rank axes))

-- axis j of the argument is read at the index's number for axis axes[j]
abbrev pub transpose_index : List ℕ → List ℕ → List ℕ
transpose_index axes is = map (λ a. slice_index is a) axes

-- ---- subscript, one position for each axis

-- all of the axis; one place of it; or n places, from one on and a step apart
pub data Position : Type 0 where
  whole : Position
  one : ℕ → Position
  run : ℕ → ℤ → ℕ → Position

-- the place number i of a run
abbrev pub run_place : ℕ → ℤ → ℕ → ℕ
run_place from step i = unsigned_abs (pos from +ℤ (step *ℤ pos i))

-- each position gives its axis, as long as it has places; one place alone gives none
abbrev pub subscript_shape : List Position → List ℕ → List ℕ
subscript_shape (whole ∷ ps) (n ∷ ns) = n ∷ subscript_shape ps ns
subscript_shape (one p ∷ ps) (n ∷ ns) = subscript_shape ps ns
subscript_shape (run from step count ∷ ps) (n ∷ ns) = count ∷ subscript_shape ps ns
subscript_shape [] ns = []
subscript_shape (p ∷ ps) [] = []

-- each position reads its axis at the number of the index that is its own
abbrev pub subscript_index : List Position → List ℕ → List ℕ
subscript_index (whole ∷ ps) (i ∷ is) = i ∷ subscript_index ps is
subscript_index (one p ∷ ps) is = p ∷ subscript_index ps is
subscript_index (run from step count ∷ ps) (i ∷ is) = run_place from step i ∷ subscript_index ps is
subscript_index [] is = []
subscript_index (whole ∷ ps) [] = []
subscript_index (run from step count ∷ ps) [] = []

-- one place of one axis: the axis is gone
abbrev pub at_shape : ℕ → List ℕ → List ℕ
at_shape axis ns = remove ns axis

-- the place is put into the index where the axis was
abbrev pub at_index : ℕ → ℕ → List ℕ → List ℕ
at_index axis p is = insert is axis p

-- a run of one axis
abbrev pub run_shape : ℕ → ℕ → List ℕ → List ℕ
run_shape axis count ns = slice_set ns axis count

-- the place of the run stands in the index for the number on that axis
abbrev pub run_index : ℕ → ℕ → ℤ → List ℕ → List ℕ
run_index axis from step is = slice_set is axis (run_place from step (slice_index is axis))

-- ---- extension of an argument of size 1 to any shape: its only element everywhere

-- all zeros: the only element of an argument of size 1
abbrev pub only_index : List ℕ → List ℕ
only_index ns = map (λ n. 0) ns

-- ---- outer: the joined shape, and the first or the last part of the index

-- the numbers for the axes of the left argument, whose lengths are ns
abbrev pub outer_left_index : List ℕ → List ℕ → List ℕ
outer_left_index ns is = take (length ns) is

-- the numbers for the axes of the right argument, behind those of the left one
abbrev pub outer_right_index : List ℕ → List ℕ → List ℕ
outer_right_index left is = drop (length left) is
