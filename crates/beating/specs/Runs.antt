-- Arithmetic progressions.
use Rattle.std.specs.Prelude.{◌≡◌, ℕ, ◌<◌, ℤ, pos, ◌+ℤ◌, ◌*ℤ◌, unsigned_abs, List, [], ◌∷◌, length, slice_index_or, Option, Some, None}
use Rattle.apl_base.specs.declared.cells.Kind.TheVariants.{Num}
use Rattle.apl_base.specs.Elements.{tabulated}
use Rattle.array_desc.specs.Desc.{DescView, number}
use Rattle.array_store.specs.Stores.{StoreView, cell_of}
use Rattle.beating.specs.declared.runs.Run.{Run}

-- number j of a run
abbrev pub run_value : Run → ℕ → ℤ
run_value r j = r.from +ℤ (r.step *ℤ pos j)

-- the numbers are `n` from one on and a step apart. Fewer than two have step 0, and none begin at 0
pub record IsRunOf (numbers : List ℤ) (r : Run) : Type 0 where
  pub count : r.n ≡ length numbers
  pub each : (j : ℕ) → j < length numbers → slice_index_or numbers j (pos 0) ≡ run_value r j
  pub step : length numbers < 2 → r.step ≡ pos 0
  pub from : length numbers ≡ 0 → r.from ≡ pos 0

-- the progression that the numbers are, or none where they are none
abbrev pub IsRunIfAny : List ℤ → Option Run → Type 0
IsRunIfAny numbers None = (r : Run) → ¬ (IsRunOf numbers r)
IsRunIfAny numbers (Some r) = IsRunOf numbers r

-- numbers are a progression in one way only
abbrev pub OneRun : Type 0
OneRun = (numbers : List ℤ) (r s : Run) → IsRunOf numbers r → IsRunOf numbers s → r ≡ s

-- the numbers of a descriptor, in row-major order
abbrev pub numbers_of : DescView → List ℤ
numbers_of d = (tabulated Num d.shape (number d)).cells

-- the cell that a vector's descriptor leads to at a place
abbrev pub vector_cell : StoreView → ℕ → DescView → ℕ → ℤ
vector_cell store owner d j = cell_of store owner (unsigned_abs (number d (j ∷ [])))
