-- The checks before places of an array are written.
use Rattle.std.specs.Prelude.{◌≡◌, ◌≢◌, ◌⊎◌, ℕ, ℤ, Bool, true, false, List, length, Option, Some, None}
use Rattle.std.specs.List.{list_any}
use Rattle.apl_base.specs.declared.faults.ErrorKind.{ErrorKind}
use Rattle.apl_base.specs.declared.faults.ErrorKind.TheVariants as error
use Rattle.apl_base.specs.Array.{Array, IsShape}
use Rattle.drag_along.specs.declared.leaves.Leaf.{Leaf}
use Rattle.drag_along.specs.Nodes.{leaf_shape}
use Rattle.apl_model.specs.Made.{kinds_differ}
use Rattle.apl_model.specs.Subscript.{is_text_position, in_axes, positions_shape}
use Rattle.apl_model.specs.Whole.{is_single}

-- how many lengths a position gives
abbrev pub axes_given : Option Leaf → ℕ
axes_given None = 1
axes_given (Some leaf) = length (leaf_shape leaf)

-- the value has one element, or the shape that is selected
abbrev pub FitsSelected : Array → List ℕ → Type 0
FitsSelected b ns = (is_single b ≡ true) ⊎ ((is_single b ≡ false) × (b.shape ≡ ns))

-- every check is passed, and this is the shape that is selected
pub record CanReplace (o : ℤ) (a : Array) (ps : List (Option Array)) (b : Array) (ns : List ℕ) : Type 0 where
  pub selected : ns ≡ positions_shape a.shape ps
  pub shape : IsShape ns
  pub count : length ps ≡ length a.shape
  pub fits : FitsSelected b ns
  pub numbers : list_any is_text_position ps ≡ false
  pub kinds : kinds_differ a b ≡ false
  pub on_axes : in_axes o a.shape ps ≡ true

-- how a value fits the lengths that are selected, or the error
abbrev pub IsFit : Array → List ℕ → Option ErrorKind → Type 0
IsFit b ns None = FitsSelected b ns
IsFit b ns (Some kind) =
    (is_single b ≡ false)
    × (((kind ≡ error.Rank) × (length b.shape ≢ length ns)) ⊎ ((kind ≡ error.Length) × (length b.shape ≡ length ns) × (b.shape ≢ ns)))
