-- Descriptors: how the index of an element leads to a number, by a base and a stride for each axis.
use Rattle.std.specs.Prelude.{◌≡◌, ℕ, ◌<◌, ◌≤◌, ℤ, pos, ◌+ℤ◌, ◌*ℤ◌, ◌≤ℤ◌, ◌<ℤ◌, List, [], ◌∷◌, length}
use Rattle.std.specs.List.{AllByRecursion}
use Rattle.apl_base.specs.Number.{IsNumber}
use Rattle.apl_base.specs.Array.{IsShape, IsIndex, size_of, place_at}
use Rattle.apl_base.specs.declared.cells.Interval.{Interval}
use Rattle.apl_base.specs.declared.cells.Interval.TheVariants.{Empty, Span}

-- what contracts see of a descriptor
pub record DescView : Type 0 where
  pub base : ℤ
  pub strides : List ℤ
  pub shape : List ℕ

-- the sum over the axes of stride times index
abbrev pub dot : List ℤ → List ℕ → ℤ
dot [] is = pos 0
dot (s ∷ ss) [] = pos 0
dot (s ∷ ss) (i ∷ is) = (s *ℤ pos i) +ℤ dot ss is

-- the number at an index
abbrev pub number : DescView → List ℕ → ℤ
number d i = d.base +ℤ dot d.strides i

-- an axis of length 0 or 1 has stride 0
abbrev pub ShortAxesRest : List ℤ → List ℕ → Type 0
ShortAxesRest (s ∷ ss) (n ∷ ns) = (n ≤ 1 → s ≡ pos 0) × ShortAxesRest ss ns
ShortAxesRest ss ns = Unit {0}

-- a base of 0 and strides of 0
pub record IsZero (d : DescView) : Type 0 where
  pub base : d.base ≡ pos 0
  pub strides : AllByRecursion (λ s. s ≡ pos 0) d.strides

-- what every descriptor is: its lengths make a shape, each axis has a stride, every number lies in -M..M,
-- and what no index reaches is 0
pub record IsDesc (d : DescView) : Type 0 where
  pub shape : IsShape d.shape
  pub strides : length d.strides ≡ length d.shape
  pub numbers : (i : List ℕ) → IsIndex d.shape i → IsNumber (number d i)
  pub short : ShortAxesRest d.strides d.shape
  pub empty : size_of d.shape ≡ 0 → IsZero d

-- a descriptor whose numbers are the places of a shape in row-major order
pub record IsWhole (lengths : List ℕ) (d : DescView) : Type 0 where
  pub lawful : IsDesc d
  pub shape : d.shape ≡ lengths
  pub places : (i : List ℕ) → IsIndex lengths i → number d i ≡ pos (place_at lengths i)

-- the new descriptor has these lengths, and at each index the number that the old one has at the index read
pub record Selects (old new : DescView) (lengths : List ℕ) (read : List ℕ → List ℕ) : Type 0 where
  pub shape : new.shape ≡ lengths
  pub index : (i : List ℕ) → IsIndex lengths i → IsIndex old.shape (read i)
  pub number : (i : List ℕ) → IsIndex lengths i → number new i ≡ number old (read i)

-- every place of a run, one from `from` on and a step apart, lies on an axis of n elements
pub record RunFits (n from : ℕ) (step : ℤ) (count : ℕ) : Type 0 where
  pub low : (j : ℕ) → j < count → pos 0 ≤ℤ (pos from +ℤ (step *ℤ pos j))
  pub high : (j : ℕ) → j < count → (pos from +ℤ (step *ℤ pos j)) <ℤ pos n

-- a number that the descriptor gives at some index
abbrev pub Gives : DescView → ℤ → Type 0
Gives d z = (i : List ℕ) × IsIndex d.shape i × (number d i ≡ z)

-- the numbers of a descriptor lie between its least and its greatest one
pub record Spans (d : DescView) (lo hi : ℤ) : Type 0 where
  pub least : Gives d lo
  pub greatest : Gives d hi
  pub from : (i : List ℕ) → IsIndex d.shape i → lo ≤ℤ number d i
  pub to : (i : List ℕ) → IsIndex d.shape i → number d i ≤ℤ hi

-- the interval from the least to the greatest number of a descriptor, or none where it has no number
abbrev pub IsRangeOf : DescView → Interval → Type 0
IsRangeOf d Empty = size_of d.shape ≡ 0
IsRangeOf d (Span lo hi) = Spans d lo hi
