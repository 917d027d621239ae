-- Positions of a subscript that are an arithmetic progression. A position v names the place v - o, counted from 0,
-- where o is the origin.
use Rattle.std.specs.Prelude.{◌≡◌, ℕ, ◌<◌, ℤ, pos, ◌+ℤ◌, ◌-ℤ◌, ◌≤ℤ◌, ◌<ℤ◌, unsigned_abs, Bool, List, [], ◌∷◌, IsTrue, if◌then◌else◌}
use Rattle.apl_base.specs.Number.{IsNumber}
use Rattle.apl_base.specs.Selection.{subscript_shape, subscript_index}
use Rattle.beating.specs.declared.runs.Run.{Run}
use Rattle.beating.specs.declared.selections.Item.{Item}
use Rattle.beating.specs.Runs.{run_value}
use Rattle.beating.specs.Selecting.{position_of, ItemsFit}

-- numbers, of which fewer than two have step 0; a scalar is one
pub record ArePositions (r : Run) (scalar : Bool) : Type 0 where
  pub numbers : (j : ℕ) → j < r.n → IsNumber (run_value r j)
  pub step : r.n < 2 → r.step ≡ pos 0
  pub one : IsTrue scalar → r.n ≡ 1

-- a position names a place of an axis of n elements
abbrev pub NamesPlace : ℤ → ℕ → ℤ → Type 0
NamesPlace o n v = (o ≤ℤ v) × (v <ℤ (o +ℤ pos n))

-- each of them does
abbrev pub OnAxis : ℤ → ℕ → Run → Type 0
OnAxis o n r = (j : ℕ) → j < r.n → NamesPlace o n (run_value r j)

-- one of them doesn't
abbrev pub LeavesAxis : ℤ → ℕ → Run → Type 0
LeavesAxis o n r = (j : ℕ) × (j < r.n) × ¬ (NamesPlace o n (run_value r j))

-- their shape, and the index of number j
abbrev pub positions_shape : Bool → ℕ → List ℕ
positions_shape scalar n = if scalar then [] else n ∷ []

abbrev pub position_index : Bool → ℕ → List ℕ
position_index scalar j = if scalar then [] else j ∷ []

-- an item keeps of an axis of n elements the places that the positions name, in their shape
pub record IsItemOf (o : ℤ) (n : ℕ) (r : Run) (scalar : Bool) (item : Item) : Type 0 where
  pub fits : ItemsFit (item ∷ []) (n ∷ [])
  pub shape : subscript_shape (position_of item ∷ []) (n ∷ []) ≡ positions_shape scalar r.n
  pub places : (j : ℕ) → j < r.n → subscript_index (position_of item ∷ []) (position_index scalar j) ≡ unsigned_abs (run_value r j -ℤ o) ∷ []
