-- What a call answers, and the lines of its function; and what makes a program sound.
use Rattle.std.specs.Prelude.{◌≡◌, ◌⊎◌, ℕ, suc, ◌<◌, ◌≤◌, ℤ, pos, List, length, map, slice_get, Some, Result, Ok, Err}
use Rattle.std.specs.List.{AllByRecursion, IsDistinct}
use Rattle.apl_base.specs.declared.faults.ErrorKind.{ErrorKind}
use Rattle.apl_base.specs.declared.faults.ErrorKind.TheVariants as error
use Rattle.apl_base.specs.declared.faults.Place.{Place}
use Rattle.apl_base.specs.Array.{Array}
use Rattle.drag_along.specs.Meaning.{Means}
use Rattle.apl_model.specs.Call.{RoutineLine, run_lines}
use Rattle.apl_model.specs.Environment.{is_same_name}
use Rattle.apl_model.specs.Evaluation.{State, Calls, of_arrays}
use Rattle.apl_model.specs.Immediate.{of_states}
use Rattle.apl_model.specs.Outcome.{Outcome, done}
use Rattle.apl_model.specs.declared.outlines.OutlineBody.{OutlineBody}
use Rattle.apl_model.specs.declared.outlines.OutlineItem.TheVariants as outline
use Rattle.apl_model.specs.declared.scripts.Header.{Header}
use Rattle.apl_compile.specs.declared.codes.Code.{Code}
use Rattle.apl_compile.specs.declared.codes.Instruction.{Instruction}
use Rattle.apl_compile.specs.Program.{ProgramView}
use Rattle.apl_compile.specs.Running.{code_meaning}
use Rattle.name_table.specs.Laws.{declared_by}
use Rattle.pending_steps.specs.declared.halts.Halt.{Halt}
use Rattle.pending_steps.specs.declared.halts.Halt.TheVariants as halt
use Rattle.pending_steps.specs.Steps.{IsNotComputed}
use Rattle.machine_state.specs.declared.machines.Machine.{Machine}
use Rattle.machine_state.specs.Steps.{pending}
use Rattle.calling_steps.specs.declared.flows.Flow.{Flow}
use Rattle.calling_steps.specs.Calls.{labels_in, most_calls}
use Rattle.entry_steps.specs.Sound.{IsSoundCode}
use Rattle.d_machine.specs.declared.breaks.Break.{Break}
use Rattle.d_machine.specs.Answers.{Scene}
use Rattle.d_machine.specs.Running.{AnswersInstruction, AreCallsAt, BreaksOff, IsAt, Stays}

-- ---- lines

-- what comes of the lines of a body
abbrev pub AnswersLines : Scene → Scene → Outcome State (Unit {0}) → Result (Unit {0}) Break → Type 0
AnswersLines start now outcome (Ok ran) = (s : State) × (outcome ≡ done tt s) × IsAt start now s
AnswersLines start now outcome (Err b) = BreaksOff start now outcome b

-- the run of these lines from the first on, wherever the run of which it is a part began
pub record RunsLines (p : ProgramView) (body : List (RoutineLine Code)) (old new : Scene) (answer : Result (Unit {0}) Break) : Type 0 where
  pub answers : (calls : Calls) (start : Scene) (s : State) → AreCallsAt p old.machine calls → IsAt start old s
      → AnswersLines start new (run_lines of_states (code_meaning of_states of_arrays) calls body s.turns (pos 1) s) answer
  pub stays : Stays old new

-- the line of this number, counted from 1, stands at that place among so many
abbrev pub IsLineAt : ℤ → ℕ → ℕ → Type 0
IsLineAt number count at = (number ≡ pos (suc at)) × (at < count)

-- no line has this number
abbrev pub IsNoLine : ℤ → ℕ → Type 0
IsNoLine number count = (at : ℕ) → number ≡ pos (suc at) → count ≤ at

-- ---- calls

-- a call as an instruction, of the entries above any number and wherever the statement goes so far
abbrev pub AnswersCall : ProgramView → Instruction → Scene → Scene → Result (Unit {0}) Break → Type 0
AnswersCall p i old new (Ok done_there) = (base : ℕ) (to : Flow) → AnswersInstruction p base i old new to (Ok to)
AnswersCall p i old new (Err b) = (base : ℕ) (to : Flow) → AnswersInstruction p base i old new to (Err b)

-- a name that heads no definition is this error at its place, where all entries mean arrays
pub record IsUnknown (m : Machine) (place : Place) (kind : ErrorKind) (at : Place) : Type 0 where
  pub same : at ≡ place
  pub arrays : List Array
  pub are : pending m ≡ map (λ a. Means a) arrays
  pub why : ((kind ≡ error.Depth) × (most_calls ≤ length m.names.frames)) ⊎ ((kind ≡ error.Value) × (length m.names.frames < most_calls))

-- why the call of such a name halts: an entry is not computed, or it is at that error
abbrev pub IsNoCall : Machine → Place → Halt → Type 0
IsNoCall m place (halt.Error kind at) = IsNotComputed m.store.limit (pending m) (halt.Error kind at) ⊎ IsUnknown m place kind at
IsNoCall m place (halt.WsFull live asked) = IsNotComputed m.store.limit (pending m) (halt.WsFull live asked)
IsNoCall m place halt.NoMemory = Unit {0}

-- ---- programs

-- each code of the program is sound, and the names of each definition differ
pub record IsSoundProgram (p : ProgramView) : Type 0 where
  pub codes : AllByRecursion (λ c. IsSoundCode c.instructions) p.codes
  pub definitions : (at opened closed : ℕ) (header : Header) (body : List OutlineBody)
      → slice_get p.outline.items at ≡ Some (outline.Definition opened closed header body)
      → IsDistinct is_same_name (declared_by header (labels_in body))
