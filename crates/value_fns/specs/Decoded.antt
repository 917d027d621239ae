-- The number whose digits are the elements of one array, in bases that are those of another.
use Rattle.std.specs.Prelude.{◌≡◌, ◌==◌, ◌&&◌, not, false, ℕ, ℤ, pos, Option, Some, None, if◌then◌else◌}
use Rattle.apl_base.specs.Array.{Array}
use Rattle.apl_model.specs.Whole.{count, first, is_single}
use Rattle.apl_model.specs.Made.{decoded, matched}

-- one of both is single, or they have as many elements
abbrev pub AreOfOneLength : Array → Array → Type 0
AreOfOneLength a b = (not (is_single a) && not (is_single b) && not (count a == count b)) ≡ false

-- the number, where there is one: a single array extends to the other's size
abbrev pub decoded_of : Array → Array → Option ℤ
decoded_of a b =
    let n = if is_single a then count b else count a in
    decoded (Some (pos 0)) (matched a n) (matched b n)

-- the cell of an array that has one alone
abbrev pub only_of : Array → Option ℤ
only_of a = if is_single a then Some (first a) else None

-- how many cells of it are fetched for so many places, where its only one is fetched at the beginning
abbrev pub spent : Array → ℕ → ℕ
spent a places = if is_single a then 1 else places

-- how many for one place more
abbrev pub once_more : Array → ℕ
once_more a = if is_single a then 0 else 1
