-- What comes of a part of a run, whatever its states and its values are.
use Rattle.std.specs.Prelude.{ℤ}
use Rattle.apl_base.specs.declared.faults.ErrorKind.{ErrorKind}
use Rattle.apl_base.specs.declared.faults.Place.{Place}

-- a value, an error and its place, or that no turn was left; each with the state that it leaves
pub data Outcome (S A : Type 0) : Type 0 where
  done : A → S → Outcome S A
  fails : ErrorKind → Place → S → Outcome S A
  spent : S → Outcome S A

-- what follows a value; every other outcome ends the whole
abbrev pub and_then : {S A B : Type 0} → Outcome S A → (A → S → Outcome S B) → Outcome S B
and_then (done a s) next = next a s
and_then (fails kind place s) next = fails kind place s
and_then (spent s) next = spent s

-- where a run of lines goes: on to the next, or to the line of a number
pub data Flow : Type 0 where
  onwards : Flow
  to_line : ℤ → Flow
