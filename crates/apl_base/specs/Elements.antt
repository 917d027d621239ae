-- Whole arrays: their elements, the indices of a shape, and arrays that are made index by index.
use Rattle.std.specs.Prelude.{ℕ, ℤ, List, [], ◌∷◌, map, Option, Some}
use Rattle.std.specs.Option.{option_map, option_and_then}
use Rattle.apl_base.specs.declared.cells.Kind.{Kind}
use Rattle.apl_base.specs.declared.cells.Kind.TheVariants.{Num}
use Rattle.apl_base.specs.declared.cells.Elem.{Elem}
use Rattle.apl_base.specs.Array.{Array, size_of, index_at, cell_at}
use Rattle.apl_base.specs.Selection.{upward}

-- ---- elements

-- a cell, and of which kind it is
abbrev pub element : Kind → ℤ → Elem
element kind cell = record { kind = kind; cell = cell }

-- the elements of an array in row-major order
abbrev pub elements : Array → List Elem
elements a = map (element a.kind) a.cells

-- the results of scalar functions as an array: each is a number
abbrev pub numbers : List ℕ → List Elem → Array
numbers shape results = record { kind = Num; shape = shape; cells = map (λ e. e.cell) results }

-- the values, where all are defined
abbrev pub all_defined : {X : Type 0} → List (Option X) → Option (List X)
all_defined [] = Some []
all_defined (x ∷ xs) = option_and_then (λ v. option_map (λ vs. v ∷ vs) (all_defined xs)) x

-- ---- indices

-- the indices of a shape in row-major order
abbrev pub indices : List ℕ → List (List ℕ)
indices ns = map (index_at ns) (upward 0 (size_of ns))

-- the array that has this cell at each index
abbrev pub tabulated : Kind → List ℕ → (List ℕ → ℤ) → Array
tabulated kind ns cell = record {
  kind = kind;
  shape = ns;
  cells = map (λ p. cell (index_at ns p)) (upward 0 (size_of ns));
}

-- the array of this shape that has at each index the element of `a` at the index that is read there
abbrev pub gathered : List ℕ → (List ℕ → List ℕ) → Array → Array
gathered ns read a = tabulated a.kind ns (λ is. cell_at a (read is))
