-- An array's text element by element: each with what stands before it and behind it in its row.
use Rattle.std.specs.Prelude.{ℕ, suc, ◌-◌, ◌<◌, ◌≤◌, ◌==◌, nat_lt, ℤ, List, [], ◌∷◌, ◌++◌, length, max, slice_index_or, slice_set, if◌then◌else◌}
use Rattle.apl_base.specs.declared.cells.Kind.{Kind}
use Rattle.apl_model.specs.Printed.{between_cells, cell_text, newline, right_justified}
use Rattle.apl_print.specs.declared.grids.Grid.{Grid}
use Rattle.apl_print.specs.declared.grids.Spot.{Spot}

-- ---- rows and columns: an array of rank below 2 is one row

abbrev pub columns_in : List ℕ → ℕ
columns_in lengths = slice_index_or lengths (length lengths - 1) 1

abbrev pub rows_in : List ℕ → ℕ
rows_in lengths = if nat_lt (length lengths) 2 then 1 else slice_index_or lengths (length lengths - 2) 1

-- how an array of this kind and of these lengths is laid out
abbrev pub grid_of : Kind → List ℕ → Grid
grid_of kind lengths = record { kind = kind; rows = rows_in lengths; columns = columns_in lengths }

-- the text of an array of these lengths that has no elements: an empty line below two axes, else nothing
abbrev pub text_of_none : List ℕ → List ℕ
text_of_none lengths = if nat_lt (length lengths) 2 then newline else []

-- ---- one element

-- where the first element stands
abbrev pub start : Spot
start = record { row = 0; column = 0 }

-- there are rows and columns, and the element stands in one of them
pub record IsSpot (g : Grid) (at : Spot) : Type 0 where
  pub rows : 0 < g.rows
  pub row : at.row ≤ g.rows
  pub column : at.column < g.columns

-- how many rows of its plane stand above it: behind a plane's last row another plane begins
abbrev pub rows_above : Grid → Spot → ℕ
rows_above g at = if at.row == g.rows then 0 else at.row

-- where the element after this one stands
abbrev pub next_spot : Grid → Spot → Spot
next_spot g at =
    if suc at.column == g.columns
    then record { row = suc (rows_above g at); column = 0 }
    else record { row = rows_above g at; column = suc at.column }

-- what stands before it: in its row a separator, and before a further plane an empty line
abbrev pub text_before : Grid → Spot → List ℕ
text_before g at =
    if at.column == 0
    then (if at.row == g.rows then newline else [])
    else between_cells g.kind

-- what stands behind it: the end of its row
abbrev pub text_behind : Grid → Spot → List ℕ
text_behind g at = if suc at.column == g.columns then newline else []

-- a cell's text at the right end of its column
abbrev pub field_text : Grid → List ℕ → Spot → ℤ → List ℕ
field_text g widths at c = right_justified (slice_index_or widths at.column 0) (cell_text g.kind c)

abbrev pub element_text : Grid → List ℕ → Spot → ℤ → List ℕ
element_text g widths at c = text_before g at ++ (field_text g widths at c ++ text_behind g at)

-- ---- elements one after the other

abbrev pub elements_text : Grid → List ℕ → Spot → List ℤ → List ℕ
elements_text g widths at [] = []
elements_text g widths at (c ∷ cs) = element_text g widths at c ++ elements_text g widths (next_spot g at) cs

-- where the element after them stands
abbrev pub spot_after : Grid → Spot → List ℤ → Spot
spot_after g at [] = at
spot_after g at (c ∷ cs) = spot_after g (next_spot g at) cs

-- ---- the widths of the columns

abbrev pub next_column : Grid → ℕ → ℕ
next_column g column = if suc column == g.columns then 0 else suc column

-- the widths after a cell of a column, and after cells from a column on
abbrev pub widened_by : Grid → ℕ → List ℕ → ℤ → List ℕ
widened_by g column widths c = slice_set widths column (max (slice_index_or widths column 0) (length (cell_text g.kind c)))

abbrev pub widened : Grid → ℕ → List ℕ → List ℤ → List ℕ
widened g column widths [] = widths
widened g column widths (c ∷ cs) = widened g (next_column g column) (widened_by g column widths c) cs

abbrev pub column_after : Grid → ℕ → List ℤ → ℕ
column_after g column [] = column
column_after g column (c ∷ cs) = column_after g (next_column g column) cs
