-- Cells with the places where they stand, and such pairs in order.
use Rattle.std.specs.Prelude.{◌≡◌, ℕ, suc, ℤ, List, [], ◌∷◌, length}
use Rattle.std.specs.List.{position_or_len}
use Rattle.std.specs.Ordering.{int_cmp, int_eq}
use Rattle.std.specs.List.Sorted.{IsSortedByKey, IsStableByKey}

-- a cell and its place
abbrev pub Placed : Type 0
Placed = ℤ × ℕ

-- cells with their places, counted from p
abbrev pub placed_from : ℕ → List ℤ → List Placed
placed_from p [] = []
placed_from p (c ∷ cells) = (c, p) ∷ placed_from (suc p) cells

-- the cell of one
abbrev pub cell_of : Placed → ℤ
cell_of x = x.0

-- these are the cells with their places in rising order of the cells; equal ones keep their order
pub record IsIndex (cells : List ℤ) (placed : List Placed) : Type 0 where
  pub rises : IsSortedByKey cell_of int_cmp placed
  pub stable : IsStableByKey cell_of int_cmp (placed_from 0 cells) placed
  pub count : length placed ≡ length cells

-- how many of the cells stand before the first that is z
abbrev pub first_place : List ℤ → ℤ → ℕ
first_place cells z = position_or_len (int_eq z) cells
