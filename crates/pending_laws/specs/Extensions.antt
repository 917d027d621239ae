-- An operand of one element over a shape, and the two operands of an outer product: what their join means is what
-- the language gives.
use Rattle.std.specs.Prelude.{◌≡◌, ℕ, ◌⊎◌, List, Ok}
use Rattle.apl_base.specs.declared.faults.Place.{Place}
use Rattle.apl_base.specs.declared.rows.Dya.{Dya}
use Rattle.apl_base.specs.Array.{Array, size_of}
use Rattle.apl_base.specs.Elements.{elements}
use Rattle.beating.specs.declared.selections.Selection.TheVariants as select
use Rattle.beating.specs.Selecting.{Fits, selected}
use Rattle.drag_along.specs.Meaning.{Means, combined2}
use Rattle.apl_model.specs.Lift.{fitting_shape, spread_to, lift2}
use Rattle.apl_model.specs.Made.{with_shape}
use Rattle.apl_model.specs.Product.{outer}
use Rattle.pending_laws.specs.Joins.{meaning_of, IsComplete}

-- the elements of an extension are those of the operand as the lift spreads it
abbrev pub ExtensionIsSpread : Type 0
ExtensionIsSpread =
    (a : Array) (ns : List ℕ) → Fits (select.Extend ns) a.shape
    → elements (selected (select.Extend ns) a) ≡ spread_to (size_of ns) a

-- over another shape of one element it is the same cell
abbrev pub ExtensionToOneElement : Type 0
ExtensionToOneElement =
    (a : Array) (ns : List ℕ) → IsComplete a → size_of a.shape ≡ 1 → size_of ns ≡ 1
    → selected (select.Extend ns) a ≡ with_shape a ns

-- an operand over a shape: the operand itself where this is its shape, or its extension
abbrev pub IsOver : List ℕ → Array → Array → Type 0
IsOver ns a c = ((a.shape ≡ ns) × (c ≡ a)) ⊎ (Fits (select.Extend ns) a.shape × (c ≡ selected (select.Extend ns) a))

-- `A f B` whose operands fit a shape is the join of both over this shape
abbrev pub ExtendedJoinIsTheLift : Type 0
ExtendedJoinIsTheLift =
    (f : Dya) (place : Place) (a b c d : Array) (ns : List ℕ) → IsComplete a → IsComplete b
    → fitting_shape a.shape b.shape ≡ Ok ns → IsOver ns a c → IsOver ns b d
    → combined2 f place (Means c) (Means d) ≡ meaning_of place (lift2 f a b)

-- `A∘.f B` is the lift of A and B, both over the joined shape
abbrev pub OuterIsTheLift : Type 0
OuterIsTheLift =
    (f : Dya) (a b : Array) → Fits (select.OuterLeft b.shape) a.shape
    → lift2 f (selected (select.OuterLeft b.shape) a) (selected (select.OuterRight a.shape) b) ≡ outer f a b

-- and so the join of these
abbrev pub OuterJoinIsTheProduct : Type 0
OuterJoinIsTheProduct =
    (f : Dya) (place : Place) (a b : Array) → Fits (select.OuterLeft b.shape) a.shape
    → combined2 f place (Means (selected (select.OuterLeft b.shape) a))
    (Means (selected (select.OuterRight a.shape) b)) ≡ meaning_of place (outer f a b)
