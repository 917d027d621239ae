-- What is taken of an array, axis by axis.
use Rattle.std.specs.Prelude.{ℕ, ◌==◌, ℤ, pos, List, [], ◌∷◌, length, map, replicate, unsigned_abs, Option, if◌then◌else◌}
use Rattle.std.specs.Option.{option_map}
use Rattle.apl_base.specs.Array.{Array}
use Rattle.apl_base.specs.Elements.{all_defined, tabulated}
use Rattle.apl_base.specs.Selection.{upward}
use Rattle.apl_model.specs.Made.{taken_shape, taken_place, taken_places, read_or_fill, with_shape}

-- the axes of which a vector of so many numbers takes
abbrev pub axes_to_take : ℕ → List ℕ → List ℕ
axes_to_take count ns = if length ns == 0 then replicate count 1 else ns

-- the array that A takes of B
abbrev pub taken_array : Array → Array → Array
taken_array a b =
    tabulated b.kind (map unsigned_abs a.cells)
    (λ is. read_or_fill (with_shape b (taken_shape a b)) (all_defined (taken_places (taken_shape a b) a.cells is)))

-- what is taken of an axis of length n
abbrev pub taken_on : ℕ → ℤ → List (Option ℤ)
taken_on n a = map (λ i. option_map pos (taken_place n a i)) (upward 0 (unsigned_abs a))

-- and so of each axis
abbrev pub taken_along : List ℕ → List ℤ → List (List (Option ℤ))
taken_along (n ∷ ns) (a ∷ counts) = taken_on n a ∷ taken_along ns counts
taken_along ns counts = []
