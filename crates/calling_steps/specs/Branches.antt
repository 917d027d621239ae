-- Where a branch leads, and what it leaves of the pending entries.
use Rattle.std.specs.Prelude.{◌≡◌, List, map}
use Rattle.apl_base.specs.declared.faults.Place.{Place}
use Rattle.apl_base.specs.Array.{Array}
use Rattle.apl_model.specs.Evaluation.{State, branch_to}
use Rattle.apl_model.specs.Outcome.{done, fails, onwards, to_line, Flow as EvaluationFlow}
use Rattle.drag_along.specs.Meaning.{Meaning, Means}
use Rattle.pending_steps.specs.declared.halts.Halt.{Halt}
use Rattle.pending_steps.specs.declared.halts.Halt.TheVariants as halt
use Rattle.calling_steps.specs.declared.flows.Flow.{Flow}
use Rattle.calling_steps.specs.declared.flows.Flow.TheVariants as flow
use Rattle.calling_steps.specs.Outputs.{on_top}

-- where evaluation goes
abbrev pub flow_of : Flow → EvaluationFlow
flow_of flow.Onwards = onwards
flow_of (flow.Line number) = to_line number

-- a branch with this array leads there
abbrev pub LeadsTo : Place → Array → Flow → Type 0
LeadsTo place array to = (s : State) → branch_to place array s ≡ done (flow_of to) s

-- the newest array went, and a branch with it leads there
pub record Branches (place : Place) (to : Flow) (there here : List Meaning) : Type 0 where
  pub older : List Array
  pub array : Array
  pub were : there ≡ on_top older array
  pub are : here ≡ map (λ a. Means a) older
  pub leads : LeadsTo place array to

-- why a branch with this array leads nowhere: it is an error, or memory is wanting
abbrev pub IsNoBranch : Place → Array → Halt → Type 0
IsNoBranch place array (halt.Error kind at) = (s : State) → branch_to place array s ≡ fails kind at s
IsNoBranch place array (halt.WsFull live asked) = ⊥
IsNoBranch place array halt.NoMemory = Unit {0}
