-- Arrays: a kind, a list of lengths, and the cells in row-major order.
use Rattle.std.specs.Prelude.{◌≡◌, ℕ, ◌+◌, ◌*◌, ◌/◌, ◌%◌, ◌^◌, ◌<◌, ◌≤◌, ℤ, pos, List, [], ◌∷◌, length, slice_index_or}
use Rattle.std.specs.List.{AllByRecursion}
use Rattle.apl_base.specs.declared.cells.Kind.{Kind}
use Rattle.apl_base.specs.Number.{IsCell}

-- how many elements there are: the product of the lengths
abbrev pub size_of : List ℕ → ℕ
size_of [] = 1
size_of (n ∷ ns) = n * size_of ns

-- lengths that make a shape: at most 8, none of them nor their product above 2^40
pub record IsShape (lengths : List ℕ) : Type 0 where
  pub rank : length lengths ≤ 8
  pub each : AllByRecursion (λ n. n ≤ 2 ^ 40) lengths
  pub product : size_of lengths ≤ 2 ^ 40

-- an index of a shape: a number below each length
abbrev pub IsIndex : List ℕ → List ℕ → Type 0
IsIndex [] [] = Unit {0}
IsIndex (n ∷ ns) (i ∷ is) = (i < n) × IsIndex ns is
IsIndex [] (i ∷ is) = ⊥
IsIndex (n ∷ ns) [] = ⊥

-- the place of an index in row-major order, counted from 0
abbrev pub place_at : List ℕ → List ℕ → ℕ
place_at [] is = 0
place_at (n ∷ ns) [] = 0
place_at (n ∷ ns) (i ∷ is) = i * size_of ns + place_at ns is

-- the index at a place of the row-major order
abbrev pub index_at : List ℕ → ℕ → List ℕ
index_at [] p = []
index_at (n ∷ ns) p = (p / size_of ns) ∷ index_at ns (p % size_of ns)

-- a kind, the lengths of the axes, and the cells in row-major order
pub record Array : Type 0 where
  pub kind : Kind
  pub shape : List ℕ
  pub cells : List ℤ

-- an array whose lengths make a shape, with as many cells as their product, each one lawful for its kind
pub record IsArray (a : Array) : Type 0 where
  pub shape : IsShape a.shape
  pub count : length a.cells ≡ size_of a.shape
  pub cells : AllByRecursion (IsCell a.kind) a.cells

-- the cell at an index
abbrev pub cell_at : Array → List ℕ → ℤ
cell_at a i = slice_index_or a.cells (place_at a.shape i) (pos 0)
