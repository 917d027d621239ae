-- What a step on the pending entries leaves, and why it halts, where its instruction asks for the origin.
use Rattle.std.specs.Prelude.{◌≡◌, ◌⊎◌, ℕ, ℤ, List, ◌++◌, length, map}
use Rattle.apl_base.specs.declared.faults.ErrorKind.{ErrorKind}
use Rattle.apl_base.specs.declared.faults.Place.{Place}
use Rattle.apl_base.specs.Array.{Array}
use Rattle.drag_along.specs.Meaning.{Meaning, Means}
use Rattle.apl_model.specs.Evaluation.{State, Calls}
use Rattle.apl_model.specs.Outcome.{fails, Flow}
use Rattle.apl_compile.specs.declared.codes.Instruction.{Instruction}
use Rattle.standing.specs.Stand.{Stand, going, ended, stand_on}
use Rattle.standing.specs.Laws.{Takes, Ends}
use Rattle.pending_steps.specs.declared.halts.Halt.{Halt}
use Rattle.pending_steps.specs.declared.halts.Halt.TheVariants as halt
use Rattle.pending_steps.specs.Steps.{IsNotComputed}

-- where evaluation goes on, this is its origin
abbrev pub HasOrigin : ℤ → Stand → Type 0
HasOrigin origin (going vs to s) = s.variables.origin ≡ origin
HasOrigin origin (ended o) = Unit {0}

-- so many of the newest entries gave way to so many others, as an instruction does it in evaluation with this origin,
-- whatever stands below them
pub record StepsFrom (origin : ℤ) (i : Instruction) (takes gives : ℕ) (before after : List Meaning) : Type 0 where
  pub older : List Meaning
  pub taken : List Meaning
  pub given : List Meaning
  pub was : before ≡ older ++ taken
  pub is : after ≡ older ++ given
  pub operands : length taken ≡ takes
  pub values : length given ≡ gives
  pub step : (calls : Calls) (z : Stand) → HasOrigin origin z → Takes calls i (stand_on z taken) (stand_on z given)

-- all entries mean arrays, and at the newest of them the instruction is this error where evaluation has this origin
pub record RefusesFrom (origin : ℤ) (i : Instruction) (takes : ℕ) (pending : List Meaning) (kind : ErrorKind) (place : Place) : Type 0 where
  pub older : List Array
  pub operands : List Array
  pub are : pending ≡ map (λ a. Means a) older ++ map (λ a. Means a) operands
  pub number : length operands ≡ takes
  pub ends : (calls : Calls) (vs : List Array) (to : Flow) (s : State) → s.variables.origin ≡ origin
      → Ends calls i (stand_on (going vs to s) (map (λ a. Means a) operands)) (fails kind place s)

-- why a step halts: an entry is not computed, or no entry faults, and it is at the error of its own instruction
abbrev pub IsHaltedFrom : ℤ → Instruction → ℕ → ℕ → List Meaning → Halt → Type 0
IsHaltedFrom origin i takes limit pending (halt.Error kind place) =
    IsNotComputed limit pending (halt.Error kind place) ⊎ RefusesFrom origin i takes pending kind place
IsHaltedFrom origin i takes limit pending (halt.WsFull live asked) = IsNotComputed limit pending (halt.WsFull live asked)
IsHaltedFrom origin i takes limit pending halt.NoMemory = Unit {0}
