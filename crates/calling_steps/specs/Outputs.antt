-- What an output leaves, in the pending entries and in the sink, and why it is not whole.
use Rattle.std.specs.Prelude.{◌≡◌, ◌⊎◌, ℕ, List, [], ◌∷◌, ◌++◌, map, Option, encode_utf8_all}
use Rattle.apl_base.specs.Array.{Array}
use Rattle.apl_outside.specs.Bytes.{Gains}
use Rattle.apl_model.specs.Printed.{array_text}
use Rattle.apl_print.specs.Bytes.{GainsPrefix}
use Rattle.drag_along.specs.Meaning.{Meaning, Means}
use Rattle.pending_steps.specs.declared.halts.Halt.TheVariants as halt
use Rattle.pending_steps.specs.Steps.{IsNotComputed}
use Rattle.calling_steps.specs.declared.outputs.OutputHalt.{OutputHalt}
use Rattle.calling_steps.specs.declared.outputs.OutputHalt.TheVariants as output

-- these arrays are pending, this one the newest
abbrev pub on_top : List Array → Array → List Meaning
on_top older array = map (λ a. Means a) older ++ Means array ∷ []

-- the bytes of an array's text
abbrev pub bytes_of : Array → List ℕ
bytes_of array = encode_utf8_all (array_text array)

-- the text of the newest array went out, and the array stays
pub record Shows (there here : List Meaning) (before after : Option (List ℕ)) : Type 0 where
  pub older : List Array
  pub array : Array
  pub were : there ≡ on_top older array
  pub are : here ≡ on_top older array
  pub text : Gains before after (bytes_of array)

-- the text of the newest array went out, and the array went
pub record Prints (there here : List Meaning) (before after : Option (List ℕ)) : Type 0 where
  pub older : List Array
  pub array : Array
  pub were : there ≡ on_top older array
  pub are : here ≡ map (λ a. Means a) older
  pub text : Gains before after (bytes_of array)

-- of the text of the newest array a front went out
pub record PrintsFront (there : List Meaning) (before after : Option (List ℕ)) : Type 0 where
  pub older : List Array
  pub array : Array
  pub were : there ≡ on_top older array
  pub front : GainsPrefix before after (bytes_of array)

-- Why an output is not whole: before it an entry is not computed, and nothing went out; memory is wanting, and nothing or
-- a front went out; or the sink failed.
abbrev pub IsNotOutput : ℕ → List Meaning → Option (List ℕ) → Option (List ℕ) → OutputHalt → Type 0
IsNotOutput limit there before after (output.Halted (halt.Error kind place)) =
    IsNotComputed limit there (halt.Error kind place) × (after ≡ before)
IsNotOutput limit there before after (output.Halted (halt.WsFull live asked)) =
    IsNotComputed limit there (halt.WsFull live asked) × (after ≡ before)
IsNotOutput limit there before after (output.Halted halt.NoMemory) = (after ≡ before) ⊎ PrintsFront there before after
IsNotOutput limit there before after output.OutFault = PrintsFront there before after
