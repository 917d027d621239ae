-- The numbers of a left argument.
use Rattle.std.specs.Prelude.{◌≡◌, ℕ, ℤ, List, length}
use Rattle.apl_base.specs.Array.{Array}
use Rattle.apl_model.specs.declared.functions.DyaFn.{DyaFn}
use Rattle.apl_model.specs.declared.functions.DyaFn.TheVariants as dyadic_fn
use Rattle.pending_laws.specs.Selections.{IsNumberList}
use Rattle.selection_choices.specs.Choices.{axes_under}

-- an argument that is a list of these numbers
pub record Lists (numbers : List ℤ) (a : Array) : Type 0 where
  pub list : IsNumberList a
  pub cells : a.cells ≡ numbers

-- how many numbers a function asks for that are given n, over an array of this shape
abbrev pub asked_for : DyaFn → ℕ → List ℕ → ℕ
asked_for dyadic_fn.Transpose n ns = length ns
asked_for f n ns = length (axes_under n ns)
