-- How the answers of the readers stand to refusals.
use Rattle.std.specs.Prelude.{◌≡◌, ℕ, Option, Some, Result, Ok, Err}
use Rattle.apl_base.specs.declared.faults.Refusal.{Refusal}
use Rattle.apl_model.specs.Refusal.{IsFirst}
use Rattle.apl_model.specs.declared.faults.ReadFault.{ReadFault}
use Rattle.apl_model.specs.declared.faults.ReadFault.TheVariants.{Refused, NoMemory}

-- a fact of the refusal, where the answer is one
abbrev pub IfRefused : {A : Type 0} → Result A ReadFault → (Refusal → Type 0) → Type 0
IfRefused (Ok a) P = Unit {0}
IfRefused (Err (Refused refusal)) P = P refusal
IfRefused (Err NoMemory) P = Unit {0}

-- where the script is refused, it is by this refusal
abbrev pub IsRefusedAs : ReadFault → Option Refusal → Type 0
IsRefusedAs (Refused refusal) first = first ≡ Some refusal
IsRefusedAs NoMemory first = Unit {0}

-- where the script is refused, it is by the first of the refusals that there are
abbrev pub IsRefusedFirst : ReadFault → (Refusal → Type 0) → Type 0
IsRefusedFirst (Refused refusal) Refuses = IsFirst Refuses refusal
IsRefusedFirst NoMemory Refuses = Unit {0}

-- where the script is refused, it is in this column
abbrev pub IsInColumn : ReadFault → ℕ → Type 0
IsInColumn (Refused refusal) column = refusal.column ≡ column
IsInColumn NoMemory column = Unit {0}
