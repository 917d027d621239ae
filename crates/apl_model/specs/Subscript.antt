-- Subscript and replacement. A value v of a position stands for the place v - o, counted from 0, where o is the
-- origin; a position that is left out (None) stands for its whole axis.
use Rattle.std.specs.Prelude.{ℕ, ◌==◌, ℤ, pos, ◌+ℤ◌, ◌-ℤ◌, int_le, int_lt, unsigned_abs, Bool, true, false, not, ◌&&◌, ◌||◌, List, [], ◌∷◌, ◌++◌, length, take, drop, slice_set, Option, Some, None, Ok, nat_eq, if◌then◌else◌}
use Rattle.std.specs.Cmp.Lexicographic.{pointwise}
use Rattle.std.specs.List.{list_all, list_any}
use Rattle.apl_base.specs.declared.faults.ErrorKind.TheVariants as error
use Rattle.apl_base.specs.Array.{Array, place_at, cell_at}
use Rattle.apl_base.specs.Elements.{indices, gathered}
use Rattle.apl_model.specs.Whole.{Answer, rank, is_single, is_text, first, error_if, within_limit}
use Rattle.apl_model.specs.Made.{kinds_differ}

-- a position that is characters
abbrev pub is_text_position : Option Array → Bool
is_text_position None = false
is_text_position (Some p) = is_text p

-- v names a place of an axis of length n
abbrev pub is_place : ℤ → ℕ → ℤ → Bool
is_place o n v = int_le o v && int_lt v (o +ℤ pos n)

-- each value of the position names a place of its axis
abbrev pub in_axis : ℤ → ℕ → Option Array → Bool
in_axis o n None = true
in_axis o n (Some p) = list_all (is_place o n) p.cells

-- each position lies in its axis
abbrev pub in_axes : ℤ → List ℕ → List (Option Array) → Bool
in_axes o (n ∷ ns) (p ∷ ps) = in_axis o n p && in_axes o ns ps
in_axes o ns ps = true

-- the axes that one position gives: its shape, or the whole axis
abbrev pub axes_of : ℕ → Option Array → List ℕ
axes_of n None = n ∷ []
axes_of n (Some p) = p.shape

-- the positions' shapes joined
abbrev pub positions_shape : List ℕ → List (Option Array) → List ℕ
positions_shape (n ∷ ns) (p ∷ ps) = axes_of n p ++ positions_shape ns ps
positions_shape ns ps = []

-- the place that one position names at its part of the index
abbrev pub place_of : ℤ → Option Array → List ℕ → List ℕ
place_of o None is = is
place_of o (Some p) is = unsigned_abs (cell_at p is -ℤ o) ∷ []

-- the index that is read: each position at its part of the result's index
abbrev pub positions_index : ℤ → List ℕ → List (Option Array) → List ℕ → List ℕ
positions_index o (n ∷ ns) (p ∷ ps) is =
    let k = length (axes_of n p) in
    place_of o p (take k is) ++ positions_index o ns ps (drop k is)
positions_index o ns ps is = []

-- ---- A[I;J]

-- the array that is read at each combination of places
abbrev pub subscript : ℤ → Array → List (Option Array) → Answer
subscript o a ps =
    let ns = positions_shape a.shape ps in
    error_if error.Rank (not (length ps == rank a))
    (error_if error.Domain (list_any is_text_position ps)
    (error_if error.Index (not (in_axes o a.shape ps))
    (within_limit ns (λ _. Ok (gathered ns (positions_index o a.shape ps) a)))))

-- ---- A[I;J]←B

-- one place replaced; a single B goes to all
abbrev pub value_at : Array → List ℕ → ℤ
value_at b is = if is_single b then first b else cell_at b is

-- the cells after the places of these indices were replaced, one after the other
abbrev pub replaced : ℤ → Array → List (Option Array) → Array → List (List ℕ) → List ℤ → List ℤ
replaced o a ps b [] cells = cells
replaced o a ps b (is ∷ more) cells =
    replaced o a ps b more (slice_set cells (place_at a.shape (positions_index o a.shape ps is)) (value_at b is))

-- the places are replaced one after the other in row-major order of the positions' shape, so the last one stays
abbrev pub replacement : ℤ → Array → List (Option Array) → Array → Answer
replacement o a ps b =
    let ns = positions_shape a.shape ps in
    error_if error.Rank (not (length ps == rank a) || (not (is_single b) && not (rank b == length ns)))
    (error_if error.Length (not (is_single b) && not (pointwise nat_eq b.shape ns))
    (error_if error.Domain (list_any is_text_position ps || kinds_differ a b)
    (error_if error.Index (not (in_axes o a.shape ps))
    (within_limit ns (λ _. Ok (record a { cells = replaced o a ps b (indices ns) a.cells }))))))
