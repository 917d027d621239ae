-- What code prints and enters stays, and it takes no more turns than there are.
use Rattle.std.specs.Prelude.{◌≡◌, ℕ, List, ◌++◌, Option}
use Rattle.apl_base.specs.declared.faults.Place.{Place}
use Rattle.apl_base.specs.Array.{Array}
use Rattle.apl_model.specs.Call.{Routine, call_within}
use Rattle.apl_model.specs.Evaluation.{State, Ended, Calls, of_arrays}
use Rattle.apl_model.specs.Immediate.{of_states}
use Rattle.apl_model.specs.Outcome.{Outcome, Flow}
use Rattle.apl_model_laws.specs.Turns.{state_of, TakesTurns}
use Rattle.apl_model_laws.specs.Printing.{BeginsWith}
use Rattle.apl_compile.specs.declared.codes.Code.{Code}
use Rattle.apl_compile.specs.declared.codes.Instruction.{Instruction}
use Rattle.apl_compile.specs.Execution.{comes}
use Rattle.apl_compile.specs.Running.{code_meaning}
use Rattle.standing.specs.Stand.{going, runs_from}

-- a run from s to t takes back nothing that was printed or entered, and takes its turns from those that are left
pub record Grows (s t : State) : Type 0 where
  pub printed : BeginsWith t.printed s.printed
  pub entered : List Ended
  pub ended : t.ended ≡ s.ended ++ entered
  pub turns : TakesTurns s t

-- each call does so
abbrev pub CallsGrow : Calls → Type 0
CallsGrow calls = (f : List ℕ) (place : Place) (left right : Option Array) (s : State) → Grows s (state_of (calls f place left right s))

-- and code, whatever it comes to
abbrev pub CodeGrows : Type 0
CodeGrows =
    (calls : Calls) (code : List Instruction) (vs : List Array) (to : Flow) (s : State) (o : Outcome State Flow) → CallsGrow calls
    → runs_from (of_arrays calls) code (going vs to s) ≡ comes o → Grows s (state_of o)

-- and the calls of functions by their codes, however many more may be pending
abbrev pub FunctionsGrow : Type 0
FunctionsGrow = (routines : List (Routine Code)) (n : ℕ) → CallsGrow (call_within of_states (code_meaning of_states of_arrays) routines n)
