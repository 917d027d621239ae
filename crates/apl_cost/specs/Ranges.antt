-- The interval beside an array: one table, from what gives the array to the interval in which its cells lie.
use Rattle.std.specs.Prelude.{ℕ, ◌==◌, nat_le, ℤ, ◌-ℤ◌, unsigned_abs, Bool, true, false, not, ◌&&◌, ◌||◌, List, [], ◌∷◌, fold, Option, Some, None, if◌then◌else◌}
use Rattle.std.specs.List.{list_all}
use Rattle.std.specs.Ordering.{int_eq}
use Rattle.apl_base.specs.declared.cells.Interval.{Interval}
use Rattle.apl_base.specs.declared.rows.Dya.{Dya}
use Rattle.apl_base.specs.declared.rows.Mon.{Mon}
use Rattle.apl_base.specs.Array.{Array, size_of}
use Rattle.apl_base.specs.Interval.{hull, exact_interval}
use Rattle.apl_model.specs.declared.functions.DyaFn.{DyaFn}
use Rattle.apl_model.specs.declared.functions.DyaFn.TheVariants as dyadic_fn
use Rattle.apl_model.specs.declared.functions.MonFn.{MonFn}
use Rattle.apl_model.specs.declared.functions.MonFn.TheVariants as monadic_fn
use Rattle.apl_model.specs.Made.{taken_shape}
use Rattle.apl_model.specs.Subscript.{positions_shape}
use Rattle.apl_model.specs.Whole.{rank, is_char}
use Rattle.value_range.specs.declared.sides.Side.{Side}
use Rattle.value_range.specs.Interval.{ranged1, ranged2}

-- an array with an interval beside it
pub record RangedArray : Type 0 where
  pub array : Array
  pub interval : Interval
  -- the interval from when it is bound to a name or printed on
  pub kept : Interval

-- the array alone
abbrev pub array_of : RangedArray → Array
array_of v = v.array

-- what is known of its elements: their kind, and where their cells lie
abbrev pub side_of : RangedArray → Side
side_of v = record { kind = v.array.kind; interval = v.interval }

-- the exact interval of an array: from its least to its greatest cell, or empty
abbrev pub exact_of : Array → Interval
exact_of a = exact_interval a.cells

-- ---- what gives an array

-- what the interval of an array goes by
pub data Source : Type 0 where
  -- a literal, a label
  literal_source : Source
  -- a name, a call's result: the interval that is kept with the variable
  name_source : Interval → Source
  -- a selection: the array selected from
  selection_source : RangedArray → Source
  -- a scalar function of one argument; one of two, or an outer product
  scalar1_source : Mon → RangedArray → Source
  scalar2_source : Dya → RangedArray → RangedArray → Source
  -- an assignment, an output, a bound argument, and the variable that is set: the value
  bound_source : RangedArray → Source
  -- the variable of an indexed assignment: whether nothing is selected, its old interval, and the value
  written_source : Bool → Interval → RangedArray → Source
  -- an indexed assignment's value: the value
  write_source : RangedArray → Source
  -- every other function
  other_source : Source

-- the interval beside the array that the source gives
abbrev pub interval_of : Source → Array → Interval
interval_of literal_source a = exact_of a
interval_of (name_source kept) a = kept
interval_of (selection_source b) a = b.interval
interval_of (scalar1_source f b) a = (ranged1 f (side_of b)).range
interval_of (scalar2_source f b c) a = (ranged2 f (side_of b) (side_of c)).range
interval_of (bound_source v) a = v.kept
interval_of (written_source true old v) a = old
interval_of (written_source false old v) a = fold hull old v.array.cells
interval_of (write_source v) a = v.interval
interval_of other_source a = exact_of a

-- What is kept where the array is bound: of a scalar function's or an outer product's value, and of selections from
-- one, the exact interval of that function's whole value; else the array's own.
abbrev pub kept_of : Source → Array → Interval
kept_of (scalar1_source f b) a = exact_of a
kept_of (scalar2_source f b c) a = exact_of a
kept_of (selection_source b) a = b.kept
kept_of source a = interval_of source a

-- the array of the source, with its interval
abbrev pub ranged : Source → Array → RangedArray
ranged source a = record { array = a; interval = interval_of source a; kept = kept_of source a }

-- the value as it is bound
abbrev pub bound : RangedArray → RangedArray
bound v = ranged (bound_source v) v.array

-- ---- which functions are selections

-- the counts, one for each axis, are at most the lengths
abbrev pub counts_fit : List ℕ → List ℤ → Bool
counts_fit (n ∷ ns) (a ∷ counts) = nat_le (unsigned_abs a) n && counts_fit ns counts
counts_fit [] [] = true
counts_fit ns counts = false

-- `f B`: scalar functions, and the selections `⌽ ⊖ ⍉`
abbrev pub source1 : MonFn → RangedArray → Source
source1 (monadic_fn.Scalar f) b = scalar1_source f b
source1 (monadic_fn.Reverse axis) b = selection_source b
source1 monadic_fn.Transpose b = selection_source b
source1 f b = other_source

-- `A f B`: scalar functions, and the selections `↑` with counts that fit, `↓` and `A⍉B`
abbrev pub source2 : DyaFn → RangedArray → RangedArray → Source
source2 (dyadic_fn.Scalar f) a b = scalar2_source f a b
source2 dyadic_fn.Take a b = if counts_fit (taken_shape a.array b.array) a.array.cells then selection_source b else other_source
source2 dyadic_fn.Skip a b = selection_source b
source2 dyadic_fn.Transpose a b = selection_source b
source2 f a b = other_source

-- each number is the one before it and this step
abbrev pub goes_on : ℤ → ℤ → List ℤ → Bool
goes_on step y [] = true
goes_on step y (z ∷ zs) = int_eq (z -ℤ y) step && goes_on step z zs

-- the numbers are in arithmetic progression
abbrev pub is_progression : List ℤ → Bool
is_progression (y ∷ z ∷ zs) = goes_on (z -ℤ y) z zs
is_progression zs = true

-- a position that is left out, a scalar, or a number vector in arithmetic progression
abbrev pub is_run : Option Array → Bool
is_run None = true
is_run (Some p) = rank p == 0 || (rank p == 1 && not (is_char p.kind) && is_progression p.cells)

-- `A[I;J]`: a selection where each position is one of these
abbrev pub subscript_source : RangedArray → List (Option Array) → Source
subscript_source a ps = if list_all is_run ps then selection_source a else other_source

-- `A[I;J]←B`: whether nothing is selected
abbrev pub selects_nothing : Array → List (Option Array) → Bool
selects_nothing a ps = size_of (positions_shape a.shape ps) == 0

-- the variable of `A[I;J]←B`, where it is set; where it isn't, nothing is written
abbrev pub written : Option RangedArray → List (Option Array) → RangedArray → Array → RangedArray
written (Some old) ps b a = ranged (written_source (selects_nothing old.array ps) old.kept b) a
written None ps b a = ranged other_source a
