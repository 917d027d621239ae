-- Which operand of a scalar function is extended, and to which shape.
use Rattle.std.specs.Prelude.{◌≡◌, ◌⊎◌, ℕ, false, List, Ok}
use Rattle.apl_base.specs.Array.{size_of}
use Rattle.array_store.specs.Stores.{StoreView}
use Rattle.drag_along.specs.Segments.{SegmentView, IsSegment}
use Rattle.drag_along.specs.Meaning.{entry}
use Rattle.beating.specs.declared.selections.Selection.TheVariants.{Extend}
use Rattle.beating.specs.Selecting.{selected_meaning}
use Rattle.apl_model.specs.Lift.{fitting_shape}
use Rattle.pending_steps.specs.declared.fits.Fit.{Fit}
use Rattle.pending_steps.specs.declared.fits.Fit.TheVariants.{Alike, LeftExtends, RightExtends}

-- the shapes fit so
abbrev pub IsFit : List ℕ → List ℕ → Fit → Type 0
IsFit left right Alike = left ≡ right
IsFit left right LeftExtends = (size_of left ≡ 1) × (fitting_shape left right ≡ Ok right)
IsFit left right RightExtends = (size_of right ≡ 1) × (fitting_shape left right ≡ Ok left)

-- an operand over the shape that both fit: itself where it has the shape, or extended to it
abbrev pub IsWidened : StoreView → List ℕ → SegmentView → SegmentView → Type 0
IsWidened store ns s w =
    ((s.shape ≡ ns) × (w ≡ s))
    ⊎ ((size_of s.shape ≡ 1) × (entry store w ≡ selected_meaning (Extend ns) (entry store s)))

-- the operand that extends can't fail
abbrev pub ExtendsSafe : Fit → SegmentView → SegmentView → Type 0
ExtendsSafe Alike left right = Unit {0}
ExtendsSafe LeftExtends left right = left.may_fail ≡ false
ExtendsSafe RightExtends left right = right.may_fail ≡ false

-- both operands over the shape that both fit
pub record AreWidened (store : StoreView) (left right wide tall : SegmentView) : Type 0 where
  pub shape : List ℕ
  pub left_segment : IsSegment left
  pub right_segment : IsSegment right
  pub fit : fitting_shape left.shape right.shape ≡ Ok shape
  pub left_wide : IsWidened store shape left wide
  pub right_wide : IsWidened store shape right tall
