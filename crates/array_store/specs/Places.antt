-- Places that lie a step apart, and the cells there.
use Rattle.std.specs.Prelude.{ℕ, ◌<◌, ℤ, pos, ◌+ℤ◌, ◌*ℤ◌, ◌≤ℤ◌, ◌<ℤ◌, unsigned_abs, List, map, slice_index_or}
use Rattle.apl_base.specs.Selection.{upward}

-- each of `count` places, `from`, `from + step` and so on, is one of `n`
pub record PlacesWithin (n : ℕ) (from step : ℤ) (count : ℕ) : Type 0 where
  pub low : (j : ℕ) → j < count → pos 0 ≤ℤ (from +ℤ (step *ℤ pos j))
  pub high : (j : ℕ) → j < count → (from +ℤ (step *ℤ pos j)) <ℤ pos n

-- the cells at these places
abbrev pub cells_along : List ℤ → ℤ → ℤ → ℕ → List ℤ
cells_along cells from step count = map (λ j. slice_index_or cells (unsigned_abs (from +ℤ (step *ℤ pos j))) (pos 0)) (upward 0 count)
