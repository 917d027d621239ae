-- Evaluation takes no more turns than it is given.
use Rattle.std.specs.Prelude.{◌≡◌, ℕ, ◌+◌, ◌≤◌, List, length, Option}
use Rattle.apl_base.specs.declared.faults.Place.{Place}
use Rattle.apl_base.specs.Array.{Array}
use Rattle.apl_model.specs.Call.{Routine, call_within}
use Rattle.apl_model.specs.Evaluation.{State, Calls, value_of, positions_of, statement_flow}
use Rattle.apl_model.specs.Outcome.{Outcome, done, fails, spent}
use Rattle.apl_model.specs.Immediate.{of_states, run_items, immediate, out_of_turns}
use Rattle.apl_model.specs.Tree.{Tree, Positions, Statement, Script, Item}

-- where an outcome leaves the run
abbrev pub state_of : {A : Type 0} → Outcome State A → State
state_of (done a s) = s
state_of (fails kind place s) = s
state_of (spent s) = s

-- a part of a run from s to t takes its turns from those that are left
pub record TakesTurns (s t : State) : Type 0 where
  -- the turns left and the statements begun are as many together as before
  pub turns : t.turns + t.begun ≡ s.turns + s.begun
  -- no statement is begun twice
  pub begun : s.begun ≤ t.begun
  -- no more statements end than begin
  pub ended : length t.ended + s.begun ≤ length s.ended + t.begun

-- from each state on
abbrev pub KeepsTurns : {A : Type 0} → (State → Outcome State A) → Type 0
KeepsTurns act = (s : State) → TakesTurns s (state_of (act s))

-- each call does
abbrev pub CallsKeepTurns : Calls → Type 0
CallsKeepTurns calls = (f : List ℕ) (place : Place) (left right : Option Array) → KeepsTurns (calls f place left right)

-- an expression, a slot and positions do where the calls do
abbrev pub ExpressionsKeepTurns : Type 0
ExpressionsKeepTurns = (calls : Calls) → CallsKeepTurns calls → (t : Tree) → KeepsTurns (value_of calls t)

-- and so do positions
abbrev pub PositionsKeepTurns : Type 0
PositionsKeepTurns = (calls : Calls) → CallsKeepTurns calls → (qs : Positions) → KeepsTurns (positions_of calls qs)

-- and so does a statement
abbrev pub StatementsKeepTurns : Type 0
StatementsKeepTurns = (calls : Calls) → CallsKeepTurns calls → (t : Statement) → KeepsTurns (statement_flow calls t)

-- the calls of functions do, however many more may be pending
abbrev pub FunctionsKeepTurns : Type 0
FunctionsKeepTurns = (routines : List (Routine Statement)) (n : ℕ) → CallsKeepTurns (call_within of_states statement_flow routines n)

-- a run of n turns begins as many statements as it takes turns, and no more end
pub record IsWithinTurns (n : ℕ) (s : State) : Type 0 where
  pub turns : s.turns + s.begun ≡ n
  pub ended : length s.ended ≤ s.begun

-- a run of any items does
abbrev pub RunsKeepTurns : Type 0
RunsKeepTurns = (script : Script) (items : List Item) (n : ℕ) → IsWithinTurns n (run_items script items n).state

-- so immediate evaluation with n turns ends at most n statements
abbrev pub ImmediateEndsAtMost : Type 0
ImmediateEndsAtMost = (script : Script) (n : ℕ) → length (immediate script n).ended ≤ n

-- ---- a run that is spent has no turns left

-- where an outcome is spent, its state has no turns
abbrev pub IsSpentOut : {A : Type 0} → Outcome State A → Type 0
IsSpentOut (done a s) = Unit {0}
IsSpentOut (fails kind place s) = Unit {0}
IsSpentOut (spent s) = s.turns ≡ 0

-- from each state on
abbrev pub SpendsAll : {A : Type 0} → (State → Outcome State A) → Type 0
SpendsAll act = (s : State) → IsSpentOut (act s)

-- each call does
abbrev pub CallsSpendAll : Calls → Type 0
CallsSpendAll calls = (f : List ℕ) (place : Place) (left right : Option Array) → SpendsAll (calls f place left right)

-- an expression is spent only with no turns left, where that holds of the calls
abbrev pub ExpressionsSpendAll : Type 0
ExpressionsSpendAll = (calls : Calls) → CallsSpendAll calls → (t : Tree) → SpendsAll (value_of calls t)

-- so are positions
abbrev pub PositionsSpendAll : Type 0
PositionsSpendAll = (calls : Calls) → CallsSpendAll calls → (qs : Positions) → SpendsAll (positions_of calls qs)

-- and so is a statement
abbrev pub StatementsSpendAll : Type 0
StatementsSpendAll = (calls : Calls) → CallsSpendAll calls → (t : Statement) → SpendsAll (statement_flow calls t)

-- it holds of the calls of functions, however many more may be pending
abbrev pub FunctionsSpendAll : Type 0
FunctionsSpendAll = (routines : List (Routine Statement)) (n : ℕ) → CallsSpendAll (call_within of_states statement_flow routines n)

-- a run of n turns that ends without one has begun n statements
pub record IsAllSpent (n : ℕ) (s : State) : Type 0 where
  pub turns : s.turns ≡ 0
  pub begun : s.begun ≡ n

-- a run that ends out of turns is all spent
abbrev pub RunsSpendAll : Type 0
RunsSpendAll = (script : Script) (items : List Item) (n : ℕ) →
    let r = run_items script items n in r.ending ≡ out_of_turns → IsAllSpent n r.state
