-- How a part of a statement's run answers, and what it leaves, wherever the run began.
use Rattle.std.specs.Prelude.{◌≡◌, ℕ, ◌+◌, ◌-◌, ◌<◌, ◌≤◌, false, List, [], ◌∷◌, ◌++◌, length, map, Option, Result, Ok, Err, IsTrue, encode_utf8_all, min, ◌^◌}
use Rattle.apl_base.specs.Array.{Array}
use Rattle.apl_outside.specs.Bytes.{Gains}
use Rattle.apl_outside.specs.Faults.{Rose}
use Rattle.apl_print.specs.Bytes.{GainsPrefix}
use Rattle.drag_along.specs.Meaning.{Meaning, Means}
use Rattle.apl_model.specs.Call.{call_within, on_turn}
use Rattle.apl_model.specs.Evaluation.{State, Calls, of_arrays}
use Rattle.apl_model.specs.Frames.{with_ended}
use Rattle.apl_model.specs.Immediate.{of_states}
use Rattle.apl_model.specs.Outcome.{Outcome, done, fails, spent, Flow as EvaluationFlow}
use Rattle.apl_model_laws.specs.Turns.{state_of}
use Rattle.apl_compile.specs.declared.codes.Instruction.{Instruction}
use Rattle.apl_compile.specs.Execution.{comes, code_flow}
use Rattle.apl_compile.specs.Lawful.{Operands}
use Rattle.apl_compile.specs.Program.{ProgramView}
use Rattle.apl_compile.specs.Running.{code_meaning, routines_in}
use Rattle.standing.specs.Stand.{going, stand_on, runs_from}
use Rattle.standing.specs.Laws.{Takes}
use Rattle.entry_steps.specs.Changing.{IsAsMany, IsBefore}
use Rattle.pending_steps.specs.declared.halts.Halt.{Halt}
use Rattle.pending_steps.specs.declared.halts.Halt.TheVariants as halt
use Rattle.machine_state.specs.declared.machines.Machine.{Machine}
use Rattle.machine_state.specs.StandsFor.{variables}
use Rattle.machine_state.specs.Steps.{pending, IsLawfulBeside, IsSameCount}
use Rattle.calling_steps.specs.declared.flows.Flow.{Flow}
use Rattle.calling_steps.specs.declared.outputs.OutputHalt.{OutputHalt}
use Rattle.calling_steps.specs.declared.outputs.OutputHalt.TheVariants as output
use Rattle.calling_steps.specs.Branches.{flow_of}
use Rattle.calling_steps.specs.Calls.{EndsAll}
use Rattle.d_machine.specs.declared.answers.Stop.{Stop}
use Rattle.d_machine.specs.declared.answers.Stop.TheVariants as stop
use Rattle.d_machine.specs.declared.breaks.Break.{Break}
use Rattle.d_machine.specs.declared.breaks.Break.TheVariants as break
use Rattle.d_machine.specs.declared.turns.Begin.{Begin}
use Rattle.d_machine.specs.Answers.{Scene, TracesAll, StopsBefore, TellsOperations, operations}

-- a machine beside what its sinks tell, and how often they have failed
abbrev pub scene : Machine → Option (List ℕ) → ℕ → Option (List ℕ) → ℕ → Scene
scene machine out out_faults trace trace_faults =
    record { machine = machine; out = out; out_faults = out_faults; trace = trace; trace_faults = trace_faults }

-- the break that a halt is
abbrev pub break_of : Halt → Break
break_of (halt.Error kind place) = break.Error kind place
break_of (halt.WsFull live asked) = break.Stop (stop.WsFull live asked)
break_of halt.NoMemory = break.Stop stop.NoMemory

-- the break that an output is that is not whole
abbrev pub break_of_output : OutputHalt → Break
break_of_output (output.Halted h) = break_of h
break_of_output output.OutFault = break.Stop stop.OutFault

-- ---- where a run has come

-- what no part of a run changes, and that counts of faults never fall
pub record Stays (old new : Scene) : Type 0 where
  pub origin : new.machine.origin ≡ old.machine.origin
  pub limit : new.machine.store.limit ≡ old.machine.store.limit
  pub traced : new.machine.traced ≡ old.machine.traced
  pub untraced : old.machine.traced ≡ false → (new.machine.costs.items ≡ old.machine.costs.items) × (new.trace ≡ old.trace)
  pub out_faults : old.out_faults ≤ new.out_faults
  pub trace_faults : old.trace_faults ≤ new.trace_faults

-- A run that began at one scene has come to another, where evaluation is at this state, which is told from the beginning
-- on: all that it printed went out, and the trace has an entry for each statement that ended.
pub record IsAt (start now : Scene) (s : State) : Type 0 where
  pub since : Stays start now
  pub variables : variables now.machine ≡ s.variables
  pub turns : now.machine.turns_left ≡ s.turns
  pub begun : now.machine.begun ≡ s.begun
  pub printed : Gains start.out now.out (encode_utf8_all s.printed)
  pub traced : IsTrue start.machine.traced → TracesAll start now s.ended

-- The run was stopped before it came to this state, for this cause.
abbrev pub IsCutOff : Scene → Scene → State → Stop → Type 0
IsCutOff start now s stop.Spent = ⊥
IsCutOff start now s (stop.WsFull live asked) = (start.machine.store.limit < live + asked) × StopsBefore Gains start now s
IsCutOff start now s stop.NoMemory = StopsBefore GainsPrefix start now s
IsCutOff start now s stop.OutFault = Rose start.out_faults now.out_faults × StopsBefore GainsPrefix start now s
IsCutOff start now s stop.TraceFault =
    IsTrue start.machine.traced × Rose start.trace_faults now.trace_faults × StopsBefore GainsPrefix start now s

-- ---- what a part of a run answers

-- where it goes no further: the outcome is that error, or it is spent, and the run has come there; or it was cut off
-- before
abbrev pub BreaksOff : {A : Type 0} → Scene → Scene → Outcome State A → Break → Type 0
BreaksOff start now outcome (break.Error kind place) = (s : State) × (outcome ≡ fails kind place s) × IsAt start now s
BreaksOff start now outcome (break.Stop stop.Spent) = (s : State) × (outcome ≡ spent s) × IsAt start now s
BreaksOff start now outcome (break.Stop (stop.WsFull live asked)) = IsCutOff start now (state_of outcome) (stop.WsFull live asked)
BreaksOff start now outcome (break.Stop stop.NoMemory) = IsCutOff start now (state_of outcome) stop.NoMemory
BreaksOff start now outcome (break.Stop stop.OutFault) = IsCutOff start now (state_of outcome) stop.OutFault
BreaksOff start now outcome (break.Stop stop.TraceFault) = IsCutOff start now (state_of outcome) stop.TraceFault

-- what comes of a statement
abbrev pub AnswersFlow : Scene → Scene → Outcome State EvaluationFlow → Result Flow Break → Type 0
AnswersFlow start now outcome (Ok to) = (s : State) × (outcome ≡ done (flow_of to) s) × IsAt start now s
AnswersFlow start now outcome (Err b) = BreaksOff start now outcome b

-- this is so unless the run was cut off
abbrev pub UnlessCutOff : {A : Type 0} → Result A Break → Type 0 → Type 0
UnlessCutOff (Ok a) P = P
UnlessCutOff (Err (break.Error kind place)) P = P
UnlessCutOff (Err (break.Stop stop.Spent)) P = P
UnlessCutOff (Err (break.Stop (stop.WsFull live asked))) P = Unit {0}
UnlessCutOff (Err (break.Stop stop.NoMemory)) P = Unit {0}
UnlessCutOff (Err (break.Stop stop.OutFault)) P = Unit {0}
UnlessCutOff (Err (break.Stop stop.TraceFault)) P = Unit {0}

-- this is so where it ends, well or by an error
abbrev pub WhereItEnds : {A : Type 0} → Result A Break → Type 0 → Type 0
WhereItEnds (Ok a) P = P
WhereItEnds (Err (break.Error kind place)) P = P
WhereItEnds (Err (break.Stop why)) P = Unit {0}

-- what calls mean in a program where so many are pending as the machine has frames
abbrev pub AreCallsAt : ProgramView → Machine → Calls → Type 0
AreCallsAt p m calls =
    calls ≡ call_within of_states (code_meaning of_states of_arrays) (routines_in p) (256 - length m.names.frames)

-- all entries are arrays
abbrev pub AreAllArrays : List Meaning → Type 0
AreAllArrays entries = (arrays : List Array) × (entries ≡ map (λ a. Means a) arrays)

-- the run of this code, wherever the run of which it is a part began
pub record RunsCode (p : ProgramView) (code : List Instruction) (old new : Scene) (answer : Result Flow Break) : Type 0 where
  pub answers : (calls : Calls) (start : Scene) (s : State) → AreCallsAt p old.machine calls → IsAt start old s
      → AnswersFlow start new (code_flow (of_arrays calls) code s) answer
  pub stays : Stays old new

-- a turn of the statement that has this code and stands on this line, wherever the run of which it is a part began
pub record TakesTurn (p : ProgramView) (line : ℕ) (code : List Instruction) (old new : Scene) (answer : Result Flow Break) : Type 0 where
  pub answers : (calls : Calls) (start : Scene) (s : State) → AreCallsAt p old.machine calls → IsAt start old s
      → AnswersFlow start new (on_turn of_states line (code_flow (of_arrays calls) code) s) answer
  pub stays : Stays old new
  -- where it ends, the entries that came tell of every operation
  pub operations : IsTrue old.machine.traced → WhereItEnds answer (TellsOperations old new)

-- the end of a statement that began so is entered
abbrev pub EntersEnd : Begin → Scene → Scene → Type 0
EntersEnd began old new = (start : Scene) (s : State) → IsAt start old s → IsAt start new (with_ended began.line began.number s)

-- or the run is cut off before
abbrev pub EndIsCutOff : Begin → Scene → Scene → Stop → Type 0
EndIsCutOff began old new why =
    (start : Scene) (s : State) → IsAt start old s → IsCutOff start new (with_ended began.line began.number s) why

-- since it began the entries tell of every operation
abbrev pub TellsSince : Begin → Scene → Type 0
TellsSince began new =
    (old : Scene) → began.operations ≡ min (operations old.machine) (2 ^ 64 - 1) → began.entries ≡ length old.machine.costs.items
    → TellsOperations old new

-- what a stop leaves of the machine: where it is spent, all calls ended
abbrev pub LeavesStopped : Stop → Machine → Machine → Type 0
LeavesStopped stop.Spent old new = EndsAll old new × IsSameCount old new
LeavesStopped (stop.WsFull live asked) old new = new ≡ old
LeavesStopped stop.NoMemory old new = new ≡ old
LeavesStopped stop.OutFault old new = new ≡ old
LeavesStopped stop.TraceFault old new = new ≡ old

-- where it is spent, the machine is lawful
abbrev pub IsLawfulStop : Stop → Machine → Type 0
IsLawfulStop stop.Spent m = IsLawfulBeside m
IsLawfulStop (stop.WsFull live asked) m = Unit {0}
IsLawfulStop stop.NoMemory m = Unit {0}
IsLawfulStop stop.OutFault m = Unit {0}
IsLawfulStop stop.TraceFault m = Unit {0}

-- as many statements have begun and may begin, together, as before
abbrev pub AreSameTurns : Machine → Machine → Type 0
AreSameTurns old new = new.begun + new.turns_left ≡ old.begun + old.turns_left

-- as many calls are pending, and as many statements have begun and may begin, together, as before
pub record IsSameCall (old new : Machine) : Type 0 where
  pub depth : length new.names.frames ≡ length old.names.frames
  pub turns : AreSameTurns old new

-- the line on which a code ends
abbrev pub last_line : List Instruction → ℕ
last_line [] = 0
last_line (i ∷ []) = i.place.line
last_line (i ∷ j ∷ is) = last_line (j ∷ is)

-- ---- one instruction

-- an instruction was done: evaluation goes on from the entries that were there to those that are, and so does the run
pub record Performs (p : ProgramView) (i : Instruction) (old new : Scene) (before after : Flow) (below : List Array) (mine : List Meaning) (next : Operands) : Type 0 where
  pub left : List Meaning
  pub all : pending new.machine ≡ map (λ a. Means a) below ++ left
  pub many : IsAsMany next left
  pub goes : (calls : Calls) (start : Scene) (s : State) → AreCallsAt p old.machine calls → IsAt start old s
      → (t : State) × IsAt start new t × Takes calls i (stand_on (going [] (flow_of before) s) mine) (stand_on (going [] (flow_of after) t) left)

-- an instruction answered that the run goes no further, whatever code follows
abbrev pub Breaks : ProgramView → Instruction → Scene → Scene → Flow → List Meaning → Break → Type 0
Breaks p i old new to mine b =
    (calls : Calls) (start : Scene) (s : State) (rest : List Instruction) (o : Outcome State EvaluationFlow)
    → AreCallsAt p old.machine calls → IsAt start old s
    → runs_from (of_arrays calls) (i ∷ rest) (stand_on (going [] (flow_of to) s) mine) ≡ comes o
    → BreaksOff start new o b

-- what an instruction answers, of the entries above so many
abbrev pub AnswersInstruction : ProgramView → ℕ → Instruction → Scene → Scene → Flow → Result Flow Break → Type 0
AnswersInstruction p base i old new to (Ok after) =
    (below : List Array) (mine : List Meaning) (next : Operands) → length below ≡ base → IsBefore i.op (pending old.machine) below mine next
    → Performs p i old new to after below mine next
AnswersInstruction p base i old new to (Err b) =
    (below : List Array) (mine : List Meaning) (next : Operands) → length below ≡ base → IsBefore i.op (pending old.machine) below mine next
    → Breaks p i old new to mine b
