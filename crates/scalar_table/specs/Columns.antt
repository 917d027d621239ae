-- Scalar functions over columns: cells of one kind, one after the other.
use Rattle.std.specs.Prelude.{◌≡◌, ℕ, ◌<◌, ℤ, pos, List, length, slice_index_or, Option, Some, None, IsSome}
use Rattle.apl_base.specs.declared.cells.Kind.{Kind}
use Rattle.apl_base.specs.declared.cells.Elem.{Elem}
use Rattle.apl_base.specs.Elements.{element}
use Rattle.apl_base.specs.Scalar.{number}

-- the cell of a column at a place
abbrev pub cell_in : List ℤ → ℕ → ℤ
cell_in column k = slice_index_or column k (pos 0)

-- the element of a column of this kind at a place
abbrev pub element_in : Kind → List ℤ → ℕ → Elem
element_in kind column k = element kind (cell_in column k)

-- each place of a column has a value, and the column is just these numbers
abbrev pub HasValues : (ℕ → Option Elem) → List ℤ → Type 0
HasValues value column = (k : ℕ) → k < length column → value k ≡ Some (number (cell_in column k))

-- a place of a column of so many places has no value, and each before it has one
pub record IsFirstWithout (value : ℕ → Option Elem) (many k : ℕ) : Type 0 where
  pub within : k < many
  pub without : value k ≡ None
  pub before : (j : ℕ) → j < k → IsSome (value j)

-- what a function over a column answers: nothing where the column has become its values, else the first place without one
abbrev pub IsColumn : (ℕ → Option Elem) → List ℤ → Option ℕ → Type 0
IsColumn value column None = HasValues value column
IsColumn value column (Some k) = IsFirstWithout value (length column) k
