-- The run of some items of a script from a state on, and what holds of it.
use Rattle.std.specs.Prelude.{◌≡◌, List, [], ◌++◌, map}
use Rattle.std.specs.List.{filter_map}
use Rattle.apl_model.specs.Agreement.{mapped_run}
use Rattle.apl_model.specs.Call.{calls_of}
use Rattle.apl_model.specs.Evaluation.{State, statement_flow}
use Rattle.apl_model.specs.Immediate.{Ending, well, reported, out_of_turns, Run, definitions_of, of_states, report, routine, run_steps, step_of}
use Rattle.apl_model.specs.Tree.{Item, Script}

-- the run of these items of a script, where so much was reported before
abbrev pub run_of : Script → List Item → Ending → State → Run State
run_of script items ending s =
    let definitions = definitions_of script.items in
    run_steps of_states (statement_flow (calls_of of_states statement_flow (map routine definitions)))
    (map (λ d. d.header.f) definitions) (report script) (filter_map step_of items) ending s

-- ---- what was printed and ended before

-- the same state, where all this was printed and had ended before
abbrev pub behind : State → State → State
behind before s = record s { printed = before.printed ++ s.printed; ended = before.ended ++ s.ended }

-- the same state, where what is printed and what ends is told from here on
abbrev pub from_here : State → State
from_here s = record s { printed = []; ended = [] }

-- a run does the same whatever was printed and ended before
abbrev pub RunsBehind : Type 0
RunsBehind =
    (script : Script) (items : List Item) (ending : Ending) (before s : State)
    → run_of script items ending (behind before s) ≡ mapped_run (behind before) (run_of script items ending s)

-- one state is another with more printed and more that ended, behind what was there
pub record Grows (s t : State) : Type 0 where
  pub from : State
  pub printed : t.printed ≡ s.printed ++ from.printed
  pub ended : t.ended ≡ s.ended ++ from.ended

-- a run takes back nothing of either
abbrev pub RunsGrow : Type 0
RunsGrow =
    (script : Script) (items : List Item) (ending : Ending) (s : State)
    → Grows s (run_of script items ending s).state

-- ---- items and others

-- a run goes on, unless no turn is left
abbrev pub go_on : Run State → (Ending → State → Run State) → Run State
go_on r next = elim (r.ending) [
  | well ↦ next well r.state
  | reported ↦ next reported r.state
  | out_of_turns ↦ r
]

-- the run of items and others is that of the items, and then that of the others
abbrev pub RunsJoined : Type 0
RunsJoined =
    (script : Script) (xs ys : List Item) (ending : Ending) (s : State) → ¬ (ending ≡ out_of_turns)
    → run_of script (xs ++ ys) ending s ≡ go_on (run_of script xs ending s) (run_of script ys)
