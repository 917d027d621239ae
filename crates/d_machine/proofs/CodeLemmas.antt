-- What the run of a code leaves of the counts and the trace, told of the machine alone.
use Rattle.std.proofs.Common.{◌≡◌, ◌+◌, ◌-◌, List, length, Ok, Err, refl, sym, ap, ◌∙◌, arith}
use Rattle.std.specs.Prelude.{Result}
use Rattle.apl_model.specs.Call.{call_within}
use Rattle.apl_model.specs.Evaluation.{State, Calls, of_arrays}
use Rattle.apl_model.specs.Immediate.{of_states}
use Rattle.apl_model.specs.Outcome.{Outcome, Flow as EvaluationFlow}
use Rattle.apl_model_laws.specs.Turns.{state_of}
use Rattle.apl_compile.specs.declared.codes.Instruction.{Instruction}
use Rattle.apl_compile.specs.Execution.{code_flow}
use Rattle.apl_compile.specs.Program.{ProgramView}
use Rattle.apl_compile.specs.Running.{code_meaning, routines_in}
use Rattle.standing.specs.Growing.{Grows, CallsGrow}
use Rattle.standing.proofs.GrowingLemmas.{growing, flow_leads}
use Rattle.machine_state.specs.declared.machines.Machine.{Machine}
use Rattle.machine_state.specs.StandsFor.{beginning}
use Rattle.d_machine.specs.declared.answers.Stop.TheVariants as stop
use Rattle.d_machine.specs.declared.breaks.Break.{Break}
use Rattle.d_machine.specs.declared.breaks.Break.TheVariants as break
use Rattle.calling_steps.specs.declared.flows.Flow.{Flow}
use Rattle.d_machine.specs.Answers.{Scene}
use Rattle.d_machine.specs.Running.{IsAt, AnswersFlow, AreSameTurns, RunsCode, UnlessCutOff}
use Rattle.d_machine.proofs.RunLemmas.{at_beginning, calls_grow}

-- a code takes back nothing
pub flow_grows : (calls : Calls) → CallsGrow calls → (code : List Instruction) (s : State) → Grows s (state_of (code_flow (of_arrays calls) code s))
flow_grows calls grow code s =
    (flow_leads Grows growing calls (λ f place left right t. record { to = grow f place left right t }) (record { instructions = code }) s).to

-- what came of a run from one scene to another, with all that evaluation's state tells
pub record Came (old new : Scene) : Type 0 where
  pub state : State
  pub here : IsAt old new state
  pub turns : AreSameTurns old.machine new.machine

came_as : (old new : Scene) (o : Outcome State EvaluationFlow) (t : State) → state_of o ≡ t → Grows (beginning old.machine) (state_of o) → IsAt old new t → Came old new
came_as old new o t e grows is =
    let same : t.turns + t.begun ≡ old.machine.turns_left + old.machine.begun = ap (λ (x : State). x.turns + x.begun) (sym e) ∙ grows.turns.turns in
    record { state = t; here = is; turns = omega (arith, same, is.turns, is.begun) }

came_unless : (old new : Scene) (o : Outcome State EvaluationFlow) (answer : Result Flow Break) → Grows (beginning old.machine) (state_of o) → AnswersFlow old new o answer → UnlessCutOff answer (Came old new)
came_unless old new o (Ok to) grows a = came_as old new o a.0 (ap state_of a.1) grows a.2
came_unless old new o (Err (break.Error kind place)) grows a = came_as old new o a.0 (ap state_of a.1) grows a.2
came_unless old new o (Err (break.Stop stop.Spent)) grows a = came_as old new o a.0 (ap state_of a.1) grows a.2
came_unless old new o (Err (break.Stop (stop.WsFull live asked))) grows a = tt
came_unless old new o (Err (break.Stop stop.NoMemory)) grows a = tt
came_unless old new o (Err (break.Stop stop.OutFault)) grows a = tt
came_unless old new o (Err (break.Stop stop.TraceFault)) grows a = tt

-- the calls of a program where so many are pending
abbrev calls_there : ProgramView → Machine → Calls
calls_there p m = call_within of_states (code_meaning of_states of_arrays) (routines_in p) (256 - length m.names.frames)

pub code_came : (p : ProgramView) (code : List Instruction) (old new : Scene) (answer : Result Flow Break) → RunsCode p code old new answer → UnlessCutOff answer (Came old new)
code_came p code old new answer runs =
    came_unless old new (code_flow (of_arrays (calls_there p old.machine)) code (beginning old.machine)) answer
    (flow_grows (calls_there p old.machine) (calls_grow p old.machine (calls_there p old.machine) refl) code (beginning old.machine))
    (runs.answers (calls_there p old.machine) old (beginning old.machine) refl (at_beginning old))

-- what follows where the run was not cut off
pub unless_so : {A : Type 0} (r : Result A Break) (P Q : Type 0) → (P → Q) → UnlessCutOff r P → UnlessCutOff r Q
unless_so (Ok a) P Q so p = so p
unless_so (Err (break.Error kind place)) P Q so p = so p
unless_so (Err (break.Stop stop.Spent)) P Q so p = so p
unless_so (Err (break.Stop (stop.WsFull live asked))) P Q so p = tt
unless_so (Err (break.Stop stop.NoMemory)) P Q so p = tt
unless_so (Err (break.Stop stop.OutFault)) P Q so p = tt
unless_so (Err (break.Stop stop.TraceFault)) P Q so p = tt
