-- Subscripts whose positions are left out, scalars or progressions are selections of an array.
use Rattle.std.specs.Prelude.{◌≡◌, ℕ, ℤ, pos, Bool, true, false, List, [], ◌∷◌, Option, Some, None, Ok}
use Rattle.std.specs.List.{AllByRecursion}
use Rattle.apl_base.specs.declared.cells.Kind.TheVariants.{Num}
use Rattle.apl_base.specs.Array.{Array}
use Rattle.beating.specs.declared.runs.Run.{Run}
use Rattle.beating.specs.declared.selections.Item.{Item}
use Rattle.beating.specs.declared.selections.Item.TheVariants as item
use Rattle.beating.specs.declared.selections.Selection.{Selection}
use Rattle.beating.specs.declared.selections.Selection.TheVariants as select
use Rattle.beating.specs.Runs.{IsRunOf}
use Rattle.beating.specs.Positions.{NamesPlace, OnAxis, positions_shape, IsItemOf}
use Rattle.beating.specs.Selecting.{Fits, selected}
use Rattle.apl_model.specs.Whole.{rank, is_text, first}
use Rattle.apl_model.specs.Subscript.{subscript}
use Rattle.pending_laws.specs.Joins.{IsComplete}

-- numbers in progression: a scalar, or of one axis
pub record AreInProgression (p : Array) (r : Run) (is_scalar : Bool) : Type 0 where
  pub numbers : is_text p ≡ false
  pub run : IsRunOf p.cells r
  pub shape : p.shape ≡ positions_shape is_scalar r.n
  pub complete : IsComplete p

-- the one number of a scalar, as a progression
abbrev pub lone_number : ℤ → Run
lone_number z = record { from = z; step = pos 0; n = 1 }

-- a scalar that is a number is in progression
abbrev pub ScalarsAreInProgression : Type 0
ScalarsAreInProgression =
    (p : Array) → p.kind ≡ Num → IsComplete p → rank p ≡ 0 → AreInProgression p (lone_number (first p)) true

-- and so are numbers of one axis that are a run
abbrev pub RunsAreInProgression : Type 0
RunsAreInProgression =
    (p : Array) (r : Run) → p.kind ≡ Num → IsComplete p → rank p ≡ 1 → IsRunOf p.cells r
    → AreInProgression p r false

-- the item is what such a position keeps of an axis of n elements
pub record KeepsPositions (o : ℤ) (n : ℕ) (p : Array) (kept : Item) : Type 0 where
  pub run : Run
  pub is_scalar : Bool
  pub progression : AreInProgression p run is_scalar
  pub on_axis : OnAxis o n run
  pub places : IsItemOf o n run is_scalar kept

-- a position that is left out keeps the whole axis
abbrev pub IsItemAt : ℤ → ℕ → Option Array → Item → Type 0
IsItemAt o n None kept = kept ≡ item.All
IsItemAt o n (Some p) kept = KeepsPositions o n p kept

-- an item for each axis and its position
abbrev pub AreItems : ℤ → List ℕ → List (Option Array) → List Item → Type 0
AreItems o [] [] [] = Unit {0}
AreItems o (n ∷ ns) (p ∷ ps) (i ∷ items) = IsItemAt o n p i × AreItems o ns ps items
AreItems o ns ps items = ⊥

-- the selection that keeps them
abbrev pub KeepsItems : ℤ → List ℕ → List (Option Array) → Selection → Type 0
KeepsItems o ns ps (select.Index given) = AreItems o ns ps given.items
KeepsItems o ns ps other = ⊥

-- A[I;J]
abbrev pub SubscriptIsSelected : Type 0
SubscriptIsSelected =
    (o : ℤ) (a : Array) (ps : List (Option Array)) (by : Selection) → KeepsItems o a.shape ps by → Fits by a.shape
    → subscript o a ps ≡ Ok (selected by a)

-- each value of a position names a place of its axis
abbrev pub NamesPlaces : ℤ → ℕ → Option Array → Type 0
NamesPlaces o n None = Unit {0}
NamesPlaces o n (Some p) = (is_text p ≡ false) × AllByRecursion (NamesPlace o n) p.cells

-- and so for each axis, each of which has a position
abbrev pub EachNamesPlaces : ℤ → List ℕ → List (Option Array) → Type 0
EachNamesPlaces o [] [] = Unit {0}
EachNamesPlaces o (n ∷ ns) (p ∷ ps) = NamesPlaces o n p × EachNamesPlaces o ns ps
EachNamesPlaces o ns ps = ⊥

-- where there is an answer, the positions name places
abbrev pub SubscriptHasPlaces : Type 0
SubscriptHasPlaces =
    (o : ℤ) (a c : Array) (ps : List (Option Array)) → subscript o a ps ≡ Ok c
    → EachNamesPlaces o a.shape ps
