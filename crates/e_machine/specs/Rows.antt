-- The cells of a leaf that a row of its descriptor's numbers leads to.
use Rattle.std.specs.Prelude.{◌≡◌, ℕ, ◌<◌, ℤ, pos, ◌+ℤ◌, ◌*ℤ◌, List, length, map}
use Rattle.apl_base.specs.Number.{IsNumber, IsCell}
use Rattle.apl_base.specs.Selection.{upward}
use Rattle.array_store.specs.Stores.{StoreView, holders_of, cells_of, kind_of}
use Rattle.array_store.specs.Places.{PlacesWithin, cells_along}
use Rattle.drag_along.specs.declared.leaves.Leaf.{Leaf}
use Rattle.drag_along.specs.declared.leaves.Leaf.TheVariants.{Stored, Gen}

-- so many numbers, a step apart
abbrev pub numbers_along : ℤ → ℤ → ℕ → List ℤ
numbers_along from step count = map (λ j. from +ℤ (step *ℤ pos j)) (upward 0 count)

-- what a leaf has at them
abbrev pub row_cells : StoreView → Leaf → ℤ → ℤ → ℕ → List ℤ
row_cells store (Stored owner desc kind) from step count = cells_along (cells_of store owner) from step count
row_cells store (Gen desc kind) from step count = numbers_along from step count

-- the owner of a stored leaf is live, of its kind, and has a cell at each of them
pub record CanFetch (store : StoreView) (owner : ℕ) (from step : ℤ) (count : ℕ) : Type 0 where
  pub live : 0 < holders_of store owner
  pub places : PlacesWithin (length (cells_of store owner)) from step count

-- each of them can be read: it is a place of the leaf's owner, or a number that is an element of the leaf's kind
abbrev pub CanRead : StoreView → Leaf → ℤ → ℤ → ℕ → Type 0
CanRead store (Stored owner desc kind) from step count = CanFetch store owner from step count × (kind_of store owner ≡ kind)
CanRead store (Gen desc kind) from step count =
    (j : ℕ) → j < count → IsNumber (from +ℤ (step *ℤ pos j)) × IsCell kind (from +ℤ (step *ℤ pos j))
