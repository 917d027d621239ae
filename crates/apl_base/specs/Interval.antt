-- Intervals of cells: none, or those from `lo` to `hi`.
use Rattle.std.specs.Prelude.{ℤ, ◌≤ℤ◌, List, fold}
use Rattle.std.specs.Int.{int_min, int_max}
use Rattle.apl_base.specs.declared.cells.Interval.{Interval}
use Rattle.apl_base.specs.declared.cells.Interval.TheVariants.{Empty, Span}
use Rattle.apl_base.specs.Number.{IsNumber}

-- lo..hi is an interval of numbers that has a number
pub record IsSpan (lo hi : ℤ) : Type 0 where
  pub least : IsNumber lo
  pub order : lo ≤ℤ hi
  pub most : IsNumber hi

-- an interval has nothing in it, or what lies between two numbers
abbrev pub IsInterval : Interval → Type 0
IsInterval Empty = Unit {0}
IsInterval (Span lo hi) = IsSpan lo hi

-- a cell lies in an interval
abbrev pub InInterval : Interval → ℤ → Type 0
InInterval Empty z = ⊥
InInterval (Span lo hi) z = (lo ≤ℤ z) × (z ≤ℤ hi)

-- one interval lies within another
abbrev pub IsWithin : Interval → Interval → Type 0
IsWithin Empty outer = Unit {0}
IsWithin (Span lo hi) Empty = ⊥
IsWithin (Span lo hi) (Span least most) = (least ≤ℤ lo) × (hi ≤ℤ most)

-- the least interval that has the old one and the cell
abbrev pub hull : Interval → ℤ → Interval
hull Empty z = Span z z
hull (Span lo hi) z = Span (int_min lo z) (int_max hi z)

-- from the least of the cells to the greatest; empty where there are none
abbrev pub exact_interval : List ℤ → Interval
exact_interval cells = fold hull Empty cells
