-- Instructions that change entries alone: what they find, what they leave, and why one halts.
use Rattle.std.specs.Prelude.{◌≡◌, ℕ, ◌+◌, ◌<◌, ◌≤◌, List, [], ◌++◌, length, map, Some, Result, OnOk, IfErr}
use Rattle.apl_base.specs.Array.{Array}
use Rattle.drag_along.specs.Meaning.{Meaning, Means}
use Rattle.apl_model.specs.Evaluation.{State, Calls}
use Rattle.apl_model.specs.Outcome.{fails, Flow as EvaluationFlow}
use Rattle.apl_compile.specs.declared.codes.Instruction.{Instruction}
use Rattle.apl_compile.specs.declared.codes.Op.{Op}
use Rattle.apl_compile.specs.Lawful.{Operands, just, result_or_none, ended as at_the_end, after}
use Rattle.standing.specs.Stand.{going, stand_on}
use Rattle.standing.specs.Laws.{Takes, Ends}
use Rattle.pending_steps.specs.declared.halts.Halt.{Halt}
use Rattle.pending_steps.specs.declared.halts.Halt.TheVariants as halt
use Rattle.machine_state.specs.declared.machines.Machine.{Machine}
use Rattle.machine_state.specs.StandsFor.{variables}
use Rattle.pending_steps.specs.Steps.{Reaches}
use Rattle.machine_state.specs.Steps.{pending, IsSameRun, Keeps}

-- there are so many entries
abbrev pub IsAsMany : Operands → List Meaning → Type 0
IsAsMany (just n) mine = length mine ≡ n
IsAsMany result_or_none mine = length mine ≤ 1
IsAsMany at_the_end mine = ⊥

-- the entries are arrays below, and above them a statement's own, as many as the instruction finds
pub record IsBefore (what : Op) (entries : List Meaning) (below : List Array) (mine : List Meaning) (next : Operands) : Type 0 where
  pub all : entries ≡ map (λ a. Means a) below ++ mine
  pub found : Operands
  pub many : IsAsMany found mine
  pub leaves : after what found ≡ Some next

-- they are so above so many
pub record IsReady (what : Op) (base : ℕ) (entries : List Meaning) : Type 0 where
  pub below : List Array
  pub number : length below ≡ base
  pub mine : List Meaning
  pub next : Operands
  pub before : IsBefore what entries below mine next

-- an instruction on entries alone was done: where evaluation has the variables of the machine, it goes on so
pub record Changes (i : Instruction) (old new : Machine) (below : List Array) (mine : List Meaning) (next : Operands) : Type 0 where
  pub left : List Meaning
  pub all : pending new ≡ map (λ a. Means a) below ++ left
  pub many : IsAsMany next left
  pub goes : (calls : Calls) (to : EvaluationFlow) (s : State) → s.variables ≡ variables old
      → Takes calls i (stand_on (going [] to s) mine) (stand_on (going [] to s) left)

-- so it was, whatever is below
abbrev pub ChangesAll : Instruction → Machine → Machine → Type 0
ChangesAll i old new =
    (below : List Array) (mine : List Meaning) (next : Operands) → IsBefore i.op (pending old) below mine next
    → Changes i old new below mine next

-- why it was not done: evaluation ends there as that error; or room or memory is wanting
abbrev pub IsHaltedBefore : Instruction → Machine → Halt → Type 0
IsHaltedBefore i m (halt.Error kind place) =
    (below : List Array) (mine : List Meaning) (next : Operands) → IsBefore i.op (pending m) below mine next
    → (calls : Calls) (to : EvaluationFlow) (s : State) → s.variables ≡ variables m
    → Ends calls i (stand_on (going [] to s) mine) (fails kind place s)
IsHaltedBefore i m (halt.WsFull live asked) = m.store.limit < live + asked
IsHaltedBefore i m halt.NoMemory = Unit {0}

-- what comes of an instruction on entries, with all of this
pub record ChangesOrHalts (i : Instruction) (old new : Machine) (result : Result (Unit {0}) Halt) : Type 0 where
  pub changes : OnOk result (ChangesAll i old new)
  pub keeps : Reaches result (Keeps old new)
  pub halted : IfErr result (IsHaltedBefore i old)
  pub run : IsSameRun old new
