-- Walks over the numbers of a descriptor in row-major order, by rows: numbers that lie a step apart.
use Rattle.std.specs.Prelude.{◌≡◌, ◌≢◌, ℕ, ◌+◌, ◌-◌, ◌*◌, ◌%◌, ◌<◌, ◌≤◌, ◌⊎◌, ℤ, pos, ◌+ℤ◌, ◌-ℤ◌, ◌*ℤ◌, List, [], ◌∷◌, length, take, drop}
use Rattle.std.specs.Int.{int_wrap}
use mir.Syntax.{w128}
use Rattle.apl_base.specs.Array.{IsIndex, size_of, place_at, index_at}
use Rattle.array_desc.specs.Desc.{DescView, dot, number}

-- what contracts see of a walk: the descriptor, and the place at which the walk stands
pub record WalkView : Type 0 where
  pub desc : DescView
  pub place : ℕ

-- the number at a place of the row-major order
abbrev pub number_on : DescView → ℕ → ℤ
number_on d p = number d (index_at d.shape p)

-- how many elements a row has: the length of the last axis, or 1 where there is no axis
abbrev pub row_length : List ℕ → ℕ
row_length [] = 1
row_length (n ∷ []) = n
row_length (n ∷ m ∷ ns) = row_length (m ∷ ns)

-- how many elements lie from a place to the end of its row
abbrev pub left_in_row : List ℕ → ℕ → ℕ
left_in_row ns p = row_length ns - p % row_length ns

-- the last axes, from axis `outer` on, are one run of so many numbers that lie a step apart
pub record IsRun (d : DescView) (outer run : ℕ) (step : ℤ) : Type 0 where
  pub axes : outer ≤ length d.shape
  pub row : (outer < length d.shape) ⊎ (length d.shape ≡ 0)
  pub size : run ≡ size_of (drop outer d.shape)
  pub numbers : (i : List ℕ) → IsIndex (drop outer d.shape) i
      → dot (drop outer d.strides) i ≡ step *ℤ pos (place_at (drop outer d.shape) i)

-- an axis of n elements and a run behind it are one run with this step: one of them has one element, or the stride
-- of the axis is what the run spans
pub data Joins (stride : ℤ) (n run : ℕ) (step joined : ℤ) : Type 0 where
  one_behind : run ≡ 1 → joined ≡ stride → Joins stride n run step joined
  one_before : n ≤ 1 → joined ≡ step → Joins stride n run step joined
  goes_on : run ≢ 1 → stride ≡ int_wrap w128 (step *ℤ pos run) → joined ≡ step → Joins stride n run step joined

-- a walk over such runs stands at an index of the axes before them and so many elements behind its first one,
-- which has this number
pub record Stands (d : DescView) (outer run : ℕ) (index : List ℕ) (done place : ℕ) (first : ℤ) : Type 0 where
  pub is : IsIndex (take outer d.shape) index
  pub at : place ≡ place_at (take outer d.shape) index * run + done
  pub left : done < run
  pub number : first ≡ d.base +ℤ dot (take outer d.strides) index

-- what holds of the fields of a walk, as long as a place is left
pub record Walks (d : DescView) (outer run : ℕ) (step : ℤ) (index : List ℕ) (done place : ℕ) (first : ℤ) : Type 0 where
  pub runs : IsRun d outer run step
  pub stands : Stands d outer run index done place first

-- where another index follows an index, the new one is that, and the number has gone on with it
pub record Carries (ss : List ℤ) (ns old new : List ℕ) (before after : ℤ) : Type 0 where
  pub is : place_at ns old + 1 < size_of ns → IsIndex ns new
  pub next : place_at ns old + 1 < size_of ns → place_at ns new ≡ place_at ns old + 1
  pub number : place_at ns old + 1 < size_of ns
      → after ≡ int_wrap w128 (before +ℤ (dot ss new -ℤ dot ss old))
