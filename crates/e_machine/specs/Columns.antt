-- Columns of elements that are pending for a block of places, one after the other in one list of cells.
use Rattle.std.specs.Prelude.{◌≡◌, ℕ, ◌+◌, ◌*◌, ◌<◌, ℤ, List, [], ◌∷◌, length, Option, None, Some}
use Rattle.std.specs.List.{AllByRecursion}
use Rattle.apl_base.specs.declared.cells.Kind.{Kind}
use Rattle.apl_base.specs.declared.cells.Elem.{Elem}
use Rattle.apl_base.specs.Number.{IsNumber, IsCell}
use Rattle.apl_base.specs.Scalar.{number}
use Rattle.scalar_table.specs.Columns.{cell_in, element_in}
use Rattle.scalar_table.specs.Row.{IsElement}
use Rattle.e_machine.specs.declared.columns.Columns.{Columns}

-- in columns of n cells, of these kinds and the newest of them last, the elements at place q: the newest first, as the
-- kinds stand
abbrev pub pending_at : ℕ → List ℤ → List Kind → ℕ → List Elem
pending_at n cells [] q = []
pending_at n cells (kind ∷ older) q = element_in kind cells (length older * n + q) ∷ pending_at n cells older q

-- the elements that are pending at place q of a block of n places
abbrev pub pending_in : ℕ → Columns → ℕ → List Elem
pending_in n columns q = pending_at n columns.cells.items columns.kinds q

-- each column has a cell for each of n places, lawful for its kind
pub record AreColumns (n : ℕ) (columns : Columns) : Type 0 where
  pub count : length columns.cells.items ≡ length columns.kinds * n
  pub lawful : (q : ℕ) → q < n → AllByRecursion IsElement (pending_in n columns q)

-- ---- one column among the cells

-- the n cells from a place on are lawful for a kind
abbrev pub AreCellsAt : Kind → List ℤ → ℕ → ℕ → Type 0
AreCellsAt kind cells start n = (q : ℕ) → q < n → IsCell kind (cell_in cells (start + q))

-- the n cells from a place on have become these values, which are numbers, and those before it stay
pub record AreValuesAt (value : ℕ → Option Elem) (old new : List ℤ) (start n : ℕ) : Type 0 where
  pub older : (j : ℕ) → j < start → cell_in new j ≡ cell_in old j
  pub values : (q : ℕ) → q < n → value q ≡ Some (number (cell_in new (start + q)))
  pub numbers : (q : ℕ) → q < n → IsNumber (cell_in new (start + q))

-- what a function over n cells from a place on answers: nothing where they have become its values, else a place of them
-- that has none
abbrev pub IsColumnAt : (ℕ → Option Elem) → List ℤ → List ℤ → ℕ → ℕ → Option ℕ → Type 0
IsColumnAt value old new start n None = AreValuesAt value old new start n
IsColumnAt value old new start n (Some k) = (k < n) × (value k ≡ None)
