-- What a function makes of an array that it only rearranges, as the shape of the array and what stands left of the
-- function tell.
use Rattle.std.specs.Prelude.{◌≡◌, ℕ, ◌==◌, List, length, replicate, Option, Some, None, Ok, Err, if◌then◌else◌}
use Rattle.apl_base.specs.declared.faults.ErrorKind.{ErrorKind}
use Rattle.apl_base.specs.Array.{Array}
use Rattle.apl_base.specs.Selection.{CountsFit}
use Rattle.beating.specs.declared.selections.Selection.{Selection}
use Rattle.beating.specs.declared.selections.Selection.TheVariants as select
use Rattle.beating.specs.Selecting.{Fits, selected}
use Rattle.drag_along.specs.Meaning.{Meaning, Means, Faults}
use Rattle.apl_model.specs.declared.functions.DyaFn.{DyaFn}
use Rattle.apl_model.specs.declared.functions.DyaFn.TheVariants as dyadic_fn
use Rattle.apl_model.specs.declared.functions.MonFn.{MonFn}
use Rattle.apl_model.specs.declared.functions.MonFn.TheVariants as monadic_fn
use Rattle.apl_model.specs.Whole.{Answer}
use Rattle.pending_laws.specs.Joins.{IsComplete}
use Rattle.selection_choices.specs.declared.choices.Choice.{Choice}
use Rattle.selection_choices.specs.declared.choices.Choice.TheVariants as choice

-- it may be made of an array of this shape
abbrev pub ChoiceFits : Choice → List ℕ → Type 0
ChoiceFits choice.Same ns = Unit {0}
ChoiceFits (choice.Select by) ns = Fits by ns
ChoiceFits (choice.Widen to by) ns = Fits (select.Extend to) ns × Fits by to

-- what is made of an array
abbrev pub chosen : Choice → Array → Array
chosen choice.Same b = b
chosen (choice.Select by) b = selected by b
chosen (choice.Widen to by) b = selected by (selected (select.Extend to) b)

-- and of what an expression means
abbrev pub chosen_meaning : Choice → Meaning → Meaning
chosen_meaning c (Means b) = Means (chosen c b)
chosen_meaning c (Faults place) = Faults place

-- ---- which functions, and when

-- a function of one argument that only rearranges it
abbrev pub SelectsOne : MonFn → Type 0
SelectsOne (monadic_fn.Reverse axis) = Unit {0}
SelectsOne monadic_fn.Transpose = Unit {0}
SelectsOne f = ⊥

-- a function of two arguments that only rearranges the right one, where its counts fit
abbrev pub SelectsTwo : DyaFn → Type 0
SelectsTwo dyadic_fn.Transpose = Unit {0}
SelectsTwo dyadic_fn.Take = Unit {0}
SelectsTwo dyadic_fn.Skip = Unit {0}
SelectsTwo f = ⊥

-- an array of this shape, with a cell for each element
pub record IsOfShape (ns : List ℕ) (b : Array) : Type 0 where
  pub shape : b.shape ≡ ns
  pub complete : IsComplete b

-- of each array of a shape the function gives what this choice makes of it
pub record Chooses (f : Array → Answer) (ns : List ℕ) (c : Choice) : Type 0 where
  pub fits : ChoiceFits c ns
  pub answer : (b : Array) → IsOfShape ns b → f b ≡ Ok (chosen c b)

-- for each array of a shape the function is this error
abbrev pub Errs : (Array → Answer) → List ℕ → ErrorKind → Type 0
Errs f ns kind = (b : Array) → IsOfShape ns b → f b ≡ Err kind

-- the axes of which so many counts are taken: a scalar has one of length 1 for each
abbrev pub axes_under : ℕ → List ℕ → List ℕ
axes_under n ns = if length ns == 0 then replicate n 1 else ns

-- a selection from these axes, which a scalar is extended to
abbrev pub choice_from : List ℕ → Selection → List ℕ → Choice
choice_from axes by ns = if length ns == 0 then choice.Widen axes by else choice.Select by

-- the choice, or none where counts are taken that don't fit
abbrev pub ChoosesOrTakesMore : (Array → Answer) → DyaFn → Array → List ℕ → Option Choice → Type 0
ChoosesOrTakesMore answer f a ns (Some c) = Chooses answer ns c
ChoosesOrTakesMore answer f a ns None = (f ≡ dyadic_fn.Take) × ¬ (CountsFit (axes_under (length a.cells) ns) a.cells)
