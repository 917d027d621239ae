-- How a subscript is answered.
use Rattle.std.specs.Prelude.{◌≡◌, ◌-◌, ℕ, ℤ, Bool, List, length, map, slice_get, Option, Some, Ok, Err}
use Rattle.apl_base.specs.declared.faults.ErrorKind.TheVariants as error
use Rattle.apl_base.specs.Array.{Array, IsShape}
use Rattle.apl_base.specs.Selection.{subscript_shape}
use Rattle.beating.specs.declared.selections.Item.{Item}
use Rattle.beating.specs.declared.selections.Selection.TheVariants.{Index}
use Rattle.drag_along.specs.Segments.{SegmentView}
use Rattle.drag_along.specs.Meaning.{Meaning}
use Rattle.beating.specs.declared.runs.Run.{Run}
use Rattle.beating.specs.declared.selections.Selection.{Selection}
use Rattle.apl_base.specs.declared.faults.ErrorKind.{ErrorKind}
use Rattle.beating.specs.Positions.{ArePositions}
use Rattle.beating.specs.Selecting.{Fits, selected, position_of}
use Rattle.apl_model.specs.Subscript.{subscript}
use Rattle.pending_laws.specs.Subscripts.{AreInProgression, KeepsItems}
use Rattle.indexing_steps.specs.Operands.{AreOperands}
use Rattle.indexing_steps.specs.declared.choices.Choice.{Choice}
use Rattle.indexing_steps.specs.declared.choices.Choice.TheVariants.{Select, Gather, Refuse}

-- numbers in progression that are a position, as lawful ones
pub record IsProgression (p : Array) (r : Run) (is_scalar : Bool) : Type 0 where
  pub progression : AreInProgression p r is_scalar
  pub lawful : ArePositions r is_scalar

-- the choice for an array of this shape: the selection that keeps the positions, or their error
abbrev pub IsChoice : ℤ → List ℕ → List (Option Array) → Choice → Type 0
IsChoice origin ns ps (Select by) = KeepsItems origin ns ps by × Fits by ns
IsChoice origin ns ps Gather = Unit {0}
IsChoice origin ns ps (Refuse kind) = (a : Array) → a.shape ≡ ns → subscript origin a ps ≡ Err kind

-- the selection by these items, where the lengths that they keep make a shape, and else LIMIT ERROR
abbrev pub IsFitted : List ℕ → List Item → Choice → Type 0
IsFitted ns items (Select (Index given)) = (given.items ≡ items) × IsShape (subscript_shape (map position_of items) ns)
IsFitted ns items (Refuse kind) = (kind ≡ error.Limit) × ¬ (IsShape (subscript_shape (map position_of items) ns))
IsFitted ns items other = ⊥

-- among these entries the subscript is this selection of the newest
pub record IsSelection (origin : ℤ) (mask : List Bool) (stack : List SegmentView) (pending : List Meaning) (by : Selection) : Type 0 where
  pub array : Array
  pub positions : List (Option Array)
  pub operands : AreOperands mask pending array positions
  pub answer : subscript origin array positions ≡ Ok (selected by array)
  pub fits : (s : SegmentView) → slice_get stack (length stack - 1) ≡ Some s → Fits by s.shape

-- among these entries the subscript is this error
pub record IsRefusal (origin : ℤ) (mask : List Bool) (pending : List Meaning) (kind : ErrorKind) : Type 0 where
  pub array : Array
  pub positions : List (Option Array)
  pub operands : AreOperands mask pending array positions
  pub answer : subscript origin array positions ≡ Err kind

-- the choice for the newest entries
abbrev pub IsChosen : ℤ → List Bool → List SegmentView → List Meaning → Choice → Type 0
IsChosen origin mask stack pending (Select by) = IsSelection origin mask stack pending by
IsChosen origin mask stack pending Gather = Unit {0}
IsChosen origin mask stack pending (Refuse kind) = IsRefusal origin mask pending kind
