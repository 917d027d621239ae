-- Pending entries, and what functions that only rearrange make of them.
use Rattle.std.specs.Prelude.{◌≡◌, ℕ, ℤ, Bool, true, false, List, [], ◌∷◌, ◌++◌, Option, None, Result, Ok, Err}
use Rattle.apl_base.specs.declared.faults.ErrorKind.{ErrorKind}
use Rattle.apl_base.specs.declared.faults.Place.{Place}
use Rattle.apl_base.specs.Array.{Array}
use Rattle.apl_model.specs.declared.functions.DyaFn.{DyaFn}
use Rattle.apl_model.specs.Evaluation.{dyadic_value}
use Rattle.apl_compile.specs.declared.codes.Op.TheVariants as op
use Rattle.array_store.specs.Stores.{StoreView}
use Rattle.drag_along.specs.Segments.{SegmentView}
use Rattle.drag_along.specs.Meaning.{Meaning, Means, entry}
use Rattle.value_stack.specs.Stacks.{entries}
use Rattle.pending_steps.specs.declared.halts.Halt.{Halt}
use Rattle.pending_steps.specs.declared.halts.Halt.TheVariants as halt
use Rattle.leaf_steps.specs.Origins.{StepsFrom}
use Rattle.selection_choices.specs.declared.choices.Choice.{Choice}
use Rattle.selection_choices.specs.Choices.{chosen, IsOfShape, Errs, ChoosesOrTakesMore}

-- the newest entry, an array of this shape, gave way to what a choice makes of it
pub record ChoosesNewest (c : Choice) (ns : List ℕ) (before after : List Meaning) : Type 0 where
  pub older : List Meaning
  pub array : Array
  pub of_shape : IsOfShape ns array
  pub was : before ≡ older ++ Means array ∷ []
  pub is : after ≡ older ++ Means (chosen c array) ∷ []

-- the newest entry went, and the one below it, an array of this shape, gave way to what a choice makes of it
pub record ChoosesSecond (c : Choice) (ns : List ℕ) (before after : List Meaning) : Type 0 where
  pub older : List Meaning
  pub array : Array
  pub newest : Meaning
  pub of_shape : IsOfShape ns array
  pub was : before ≡ older ++ Means array ∷ newest ∷ []
  pub is : after ≡ older ++ Means (chosen c array) ∷ []

-- the newest entry went; the others stay, and mean what they meant
pub record LetsGo (old new : StoreView) (before after : List SegmentView) : Type 0 where
  pub newest : SegmentView
  pub stack : before ≡ after ++ newest ∷ []
  pub means : entries old before ≡ entries new after ++ entry old newest ∷ []

-- the newest entry means an array, and with this on its left the function makes such a choice of arrays of a shape
pub record ChoosesByNewest (origin : ℤ) (f : DyaFn) (ns : List ℕ) (pending : List Meaning) (c : Option Choice) : Type 0 where
  pub older : List Meaning
  pub left : Array
  pub is : pending ≡ older ++ Means left ∷ []
  pub chooses : ChoosesOrTakesMore (dyadic_value origin f left) f left ns c

-- the newest entry means an array, and with this on its left the function is an error for arrays of a shape
pub record ErrsByNewest (origin : ℤ) (f : DyaFn) (ns : List ℕ) (pending : List Meaning) (kind : ErrorKind) : Type 0 where
  pub older : List Meaning
  pub left : Array
  pub is : pending ≡ older ++ Means left ∷ []
  pub errs : Errs (dyadic_value origin f left) ns kind

-- the selection was the function's step; or all entries mean what they meant, and counts are taken that don't fit
abbrev pub SelectsOrTakesMore : ℤ → DyaFn → Place → List ℕ → Bool → List Meaning → List Meaning → Type 0
SelectsOrTakesMore origin f place ns true before after = StepsFrom origin (record { place = place; op = op.Dya f }) 2 1 before after
SelectsOrTakesMore origin f place ns false before after = (after ≡ before) × ChoosesByNewest origin f ns before None

-- it goes on, or is at an error of evaluation, and then this is so: what is pending can be let go
abbrev pub ReachesSelected : Result Bool Halt → Type 0 → Type 0
ReachesSelected (Ok selected) P = P
ReachesSelected (Err (halt.Error kind place)) P = P
ReachesSelected (Err (halt.WsFull live asked)) P = Unit {0}
ReachesSelected (Err halt.NoMemory) P = Unit {0}
