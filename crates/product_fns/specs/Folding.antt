-- Reductions over cells that stand in row-major order: columns of n elements that lie q places apart.
use Rattle.std.specs.Prelude.{◌≡◌, ℕ, suc, ◌+◌, ◌*◌, ◌/◌, ◌%◌, ◌<◌, ◌==◌, ℤ, List, [], ◌∷◌, map, length, drop, slice_index, All, Option, Some, None, if◌then◌else◌}
use Rattle.std.specs.Option.{option_and_then}
use Rattle.apl_base.specs.declared.cells.Kind.{Kind}
use Rattle.apl_base.specs.declared.cells.Kind.TheVariants.{Num}
use Rattle.apl_base.specs.declared.cells.Elem.{Elem}
use Rattle.apl_base.specs.declared.rows.Dya.{Dya}
use Rattle.apl_base.specs.Array.{Array, size_of}
use Rattle.apl_base.specs.Elements.{element}
use Rattle.apl_base.specs.Selection.{upward}
use Rattle.apl_base.specs.Number.{IsCell, IsNumber}
use Rattle.apl_base.specs.Scalar.{identity_of}
use Rattle.array_store.specs.Stores.{StoreView}
use Rattle.drag_along.specs.declared.leaves.Leaf.{Leaf}
use Rattle.drag_along.specs.Nodes.{leaf_kind}
use Rattle.leaf_names.specs.Variables.{array_of}
use Rattle.apl_model.specs.Product.{reduced}
use Rattle.scalar_table.specs.Columns.{cell_in, element_in}

-- b1 op (b2 op (.. (bn op r)))
abbrev pub folded : (Elem → Elem → Option Elem) → List Elem → Elem → Option Elem
folded op [] r = Some r
folded op (b ∷ bs) r = option_and_then (op b) (folded op bs r)

-- n elements that lie q places apart, from a first one on
abbrev pub column_of : Kind → List ℤ → ℕ → ℕ → ℕ → List Elem
column_of kind cells first q n = map (λ k. element_in kind cells (first + k * q)) (upward 0 n)

-- a reduction of n elements of a kind gives a number, but for one element, which goes without an application
abbrev pub reduced_kind : Kind → ℕ → Kind
reduced_kind kind n = if n == 1 then kind else Num

-- what is reduced: n rows of q cells for each q results, one group behind the other
pub record Rows : Type 0 where
  pub f : Dya
  pub kind : Kind
  pub cells : List ℤ
  pub n : ℕ
  pub q : ℕ

-- along an axis of an array
abbrev pub rows_along : Dya → ℕ → Array → Rows
rows_along f axis b = record {
  f = f;
  kind = b.kind;
  cells = b.cells;
  n = slice_index b.shape axis;
  q = size_of (drop (suc axis) b.shape);
}

-- the result at a place
abbrev pub result_at : Rows → ℕ → Option Elem
result_at r p = reduced r.f (column_of r.kind r.cells ((p / r.q) * (r.n * r.q) + p % r.q) r.q r.n)

-- these are the results at the first places, as many as there are
abbrev pub AreResults : Rows → List ℤ → Type 0
AreResults r results = (j : ℕ) → j < length results → result_at r j ≡ Some (element (reduced_kind r.kind r.n) (cell_in results j))

-- one of so many results is undefined
pub record HasUndefined (r : Rows) (many : ℕ) : Type 0 where
  pub j : ℕ
  pub within : j < many
  pub none : result_at r j ≡ None

-- ---- one group, whose first element stands at this place

-- these are its results
pub record IsReduced (r : Rows) (first : ℕ) (results : List ℤ) : Type 0 where
  pub many : length results ≡ r.q
  pub values : (j : ℕ) → j < r.q → reduced r.f (column_of r.kind r.cells (first + j) r.q r.n) ≡ Some (element (reduced_kind r.kind r.n) (cell_in results j))
  pub lawful : All (IsCell (reduced_kind r.kind r.n)) results

-- one of them is undefined
pub record IsUndefined (r : Rows) (first : ℕ) : Type 0 where
  pub j : ℕ
  pub within : j < r.q
  pub none : reduced r.f (column_of r.kind r.cells (first + j) r.q r.n) ≡ None

-- the rows of a leaf
abbrev pub rows_of : StoreView → Dya → Leaf → ℕ → ℕ → Rows
rows_of store f leaf n q = record { f = f; kind = leaf_kind leaf; cells = (array_of store leaf).cells; n = n; q = q }

-- the same for rows of one cell: this element is the result
pub record IsLine (r : Rows) (first : ℕ) (result : Elem) : Type 0 where
  pub value : reduced r.f (column_of r.kind r.cells first r.q r.n) ≡ Some result
  pub kind : result.kind ≡ reduced_kind r.kind r.n
  pub lawful : IsCell result.kind result.cell

-- there is none
abbrev pub HasNoLine : Rows → ℕ → Type 0
HasNoLine r first = reduced r.f (column_of r.kind r.cells first r.q r.n) ≡ None

-- ---- all groups

-- these are all results, each a cell of their kind
pub record AreAllResults (r : Rows) (results : List ℤ) : Type 0 where
  pub values : AreResults r results
  pub lawful : All (IsCell (reduced_kind r.kind r.n)) results

-- each is the identity of the function
pub record IsIdentity (f : Dya) (results : List ℤ) : Type 0 where
  pub value : ℤ
  pub is : identity_of f ≡ Some value
  pub number : IsNumber value
  pub each : (j : ℕ) → j < length results → cell_in results j ≡ value
