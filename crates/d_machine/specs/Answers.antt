-- What the run of a statement answers, and what it leaves in the machine, in the sink for what is printed and in the
-- sink for the trace: that of the statement's evaluation.
use Rattle.std.specs.Prelude.{◌≡◌, ℕ, ◌+◌, ◌-◌, ◌^◌, ◌<◌, ◌≤◌, false, List, ◌++◌, map, sum_by, Option, Result, Ok, Err, IsTrue, encode_utf8_all}
use Rattle.std.specs.List.{flat_map}
use Rattle.apl_outside.specs.Bytes.{Gains}
use Rattle.apl_outside.specs.Faults.{Rose}
use Rattle.apl_model.specs.Evaluation.{State, Ended}
use Rattle.apl_model.specs.Immediate.{unwound}
use Rattle.apl_model.specs.Outcome.{Outcome, done, fails, spent, Flow}
use Rattle.apl_model_laws.specs.Turns.{state_of}
use Rattle.apl_print.specs.declared.costs.Cost.{Cost}
use Rattle.apl_print.specs.Bytes.{GainsPrefix}
use Rattle.apl_print.specs.Lines.{cost_line}
use Rattle.machine_state.specs.declared.machines.Machine.{Machine}
use Rattle.apl_model.specs.Tree.{Script, Statement}
use Rattle.apl_compile.specs.Program.{ProgramView, program_of}
use Rattle.machine_state.specs.StandsFor.{IsAtRest, beginning, variables}
use Rattle.standing.specs.Statements.{IsStatementAt, evaluated}
use Rattle.d_machine.specs.declared.answers.Step.{Step}
use Rattle.d_machine.specs.declared.answers.Step.TheVariants as step
use Rattle.d_machine.specs.declared.answers.Stop.{Stop}
use Rattle.d_machine.specs.declared.answers.Stop.TheVariants as stop

-- a machine beside the two sinks: what each of them tells, and how often it has failed
pub record Scene : Type 0 where
  pub machine : Machine
  pub out : Option (List ℕ)
  pub out_faults : ℕ
  pub trace : Option (List ℕ)
  pub trace_faults : ℕ

-- ---- the trace

-- the statements that entries of the trace tell of
abbrev pub statements_in : List Cost → List Ended
statements_in costs = map (λ c. record { line = c.line; begun = c.begun }) costs

-- the lines of entries
abbrev pub lines_of : List Cost → List ℕ
lines_of costs = encode_utf8_all (flat_map cost_line costs)

-- the elements fetched and made and the functions applied, as counted
abbrev pub operations : Machine → ℕ
operations m = m.store.counts.fetched + m.store.counts.made + m.store.counts.applied

-- an entry came for each statement that ended, in order, and the lines of all went out
pub record TracesAll (old new : Scene) (ended : List Ended) : Type 0 where
  pub gained : List Cost
  pub costs : new.machine.costs.items ≡ old.machine.costs.items ++ gained
  pub statements : statements_in gained ≡ ended
  pub lines : Gains old.trace new.trace (lines_of gained)

-- the entries that came tell of every operation, unless a count may stand at its end
abbrev pub TellsOperations : Scene → Scene → Type 0
TellsOperations old new =
    (gained : List Cost) → new.machine.costs.items ≡ old.machine.costs.items ++ gained → operations new.machine < 2 ^ 64 - 1
    → operations new.machine ≡ operations old.machine + sum_by (λ c. c.ops) gained

-- entries came for the first of these statements; of their lines this went out
pub record TracesFirst (Out : Option (List ℕ) → Option (List ℕ) → List ℕ → Type 0) (old new : Scene) (ended : List Ended) : Type 0 where
  pub gained : List Cost
  pub others : List Ended
  pub costs : new.machine.costs.items ≡ old.machine.costs.items ++ gained
  pub statements : statements_in gained ++ others ≡ ended
  pub lines : Out old.trace new.trace (lines_of gained)

-- ---- how a run ends

-- the run came to this state of evaluation: the names mean its variables, what it printed went out, and nothing is
-- pending
pub record ComesTo (old new : Scene) (s : State) : Type 0 where
  pub rest : IsAtRest new.machine
  pub variables : variables new.machine ≡ s.variables
  pub turns : new.machine.turns_left ≡ s.turns
  pub begun : new.machine.begun ≡ s.begun
  pub printed : Gains old.out new.out (encode_utf8_all s.printed)
  pub traced : IsTrue old.machine.traced → TracesAll old new s.ended

-- it came there by ending, well or by an error, so that no operation belongs to a statement that was cut off
pub record EndsAt (old new : Scene) (s : State) : Type 0 where
  pub comes : ComesTo old new s
  pub operations : IsTrue old.machine.traced → TellsOperations old new

-- the run was stopped on its way to this state: some of what it prints went out, from the front, and of the trace this
pub record StopsBefore (Out : Option (List ℕ) → Option (List ℕ) → List ℕ → Type 0) (old new : Scene) (s : State) : Type 0 where
  pub printed : GainsPrefix old.out new.out (encode_utf8_all s.printed)
  pub traced : IsTrue old.machine.traced → TracesFirst Out old new s.ended

-- The answer is what evaluation comes to. An error and a spent budget end all calls. Want of room, of memory, and a
-- fault of a sink stop the run; that memory is wanting has no stated cause.
abbrev pub AgreesWith : Scene → Scene → Outcome State Flow → Result Step Stop → Type 0
AgreesWith old new outcome (Ok step.Done) = (flow : Flow) × (s : State) × (outcome ≡ done flow s) × EndsAt old new s
AgreesWith old new outcome (Ok (step.Error kind place)) = (s : State) × (outcome ≡ fails kind place s) × EndsAt old new (unwound s)
AgreesWith old new outcome (Err stop.Spent) = (s : State) × (outcome ≡ spent s) × ComesTo old new (unwound s)
AgreesWith old new outcome (Err (stop.WsFull live asked)) =
    (old.machine.store.limit < live + asked) × StopsBefore Gains old new (state_of outcome)
AgreesWith old new outcome (Err stop.NoMemory) = StopsBefore GainsPrefix old new (state_of outcome)
AgreesWith old new outcome (Err stop.OutFault) =
    Rose old.out_faults new.out_faults × StopsBefore GainsPrefix old new (state_of outcome)
AgreesWith old new outcome (Err stop.TraceFault) =
    IsTrue old.machine.traced × Rose old.trace_faults new.trace_faults × StopsBefore GainsPrefix old new (state_of outcome)

-- ---- the whole

-- what the run of the statement of this number leaves, for every script from which the program is compiled
pub record RunsStatement (p : ProgramView) (at : ℕ) (old new : Scene) (answer : Result Step Stop) : Type 0 where
  pub agrees : (script : Script) (line : ℕ) (statement : Statement) → p ≡ program_of script → IsStatementAt script at line statement
      → AgreesWith old new (evaluated script line statement (beginning old.machine)) answer
  pub origin : new.machine.origin ≡ old.machine.origin
  pub limit : new.machine.store.limit ≡ old.machine.store.limit
  pub traced : new.machine.traced ≡ old.machine.traced
  -- without a trace nothing is entered or written for one
  pub untraced : old.machine.traced ≡ false → (new.machine.costs.items ≡ old.machine.costs.items) × (new.trace ≡ old.trace)
  -- counts of faults never fall
  pub out_faults : old.out_faults ≤ new.out_faults
  pub trace_faults : old.trace_faults ≤ new.trace_faults
