-- A run with more turns goes on where one with fewer is spent.
use Rattle.std.specs.Prelude.{◌≡◌, ℕ, ◌+◌, List, Option}
use Rattle.apl_base.specs.declared.faults.Place.{Place}
use Rattle.apl_base.specs.Array.{Array}
use Rattle.apl_model.specs.Call.{Routine, call_within}
use Rattle.apl_model.specs.Evaluation.{State, statement_flow}
use Rattle.apl_model.specs.Outcome.{Outcome, done, fails, spent}
use Rattle.apl_model.specs.Immediate.{of_states, Run, Ending, well, reported, out_of_turns, run_items}
use Rattle.apl_model.specs.Tree.{Statement, Script, Item}
use Rattle.apl_model_laws.specs.Printing.{BeginsWith}
use Rattle.apl_model_laws.specs.Turns.{state_of}

-- the same state, with k more turns left
abbrev pub with_more : ℕ → State → State
with_more k s = record s { turns = s.turns + k }

-- what comes of a part of a run with k more turns: the same, where the turns were enough; where they were spent,
-- what is printed begins with what was printed
abbrev pub IsContinued : {A : Type 0} → ℕ → Outcome State A → Outcome State A → Type 0
IsContinued k (done a s) o = o ≡ done a (with_more k s)
IsContinued k (fails kind place s) o = o ≡ fails kind place (with_more k s)
IsContinued k (spent s) o = BeginsWith (state_of o).printed s.printed

-- a part of a run goes on with more turns, from each state
abbrev pub GoesOn : {A : Type 0} → (State → Outcome State A) → Type 0
GoesOn act = (k : ℕ) (s : State) → IsContinued k (act s) (act (with_more k s))

-- the calls of functions go on, however many more may be pending
abbrev pub FunctionsGoOn : Type 0
FunctionsGoOn = (routines : List (Routine Statement)) (n : ℕ) (f : List ℕ) (place : Place) (left right : Option Array) →
    GoesOn (call_within of_states statement_flow routines n f place left right)

-- the run with k more turns: the same, where the turns were enough
abbrev pub IsContinuedBy : Ending → ℕ → Run State → Run State → Type 0
IsContinuedBy well k r q = q ≡ record r { state = with_more k r.state }
IsContinuedBy reported k r q = q ≡ record r { state = with_more k r.state }
IsContinuedBy out_of_turns k r q = BeginsWith q.state.printed r.state.printed

-- and so does a run of any items
abbrev pub RunsGoOn : Type 0
RunsGoOn = (script : Script) (items : List Item) (n k : ℕ) →
    let r = run_items script items n in IsContinuedBy r.ending k r (run_items script items (n + k))
