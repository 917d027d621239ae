-- What is printed doesn't depend on what was printed before, and only grows.
use Rattle.std.specs.Prelude.{◌≡◌, ℕ, List, ◌++◌, Option, encode_utf8_all}
use Rattle.apl_base.specs.declared.faults.Place.{Place}
use Rattle.apl_base.specs.Array.{Array}
use Rattle.apl_model.specs.Agreement.{mapped_outcome}
use Rattle.apl_model.specs.Call.{Routine, call_within}
use Rattle.apl_model.specs.Evaluation.{State, Calls, value_of, positions_of, statement_flow}
use Rattle.apl_model.specs.Outcome.{Outcome}
use Rattle.apl_model.specs.Immediate.{of_states, run_items}
use Rattle.apl_model.specs.Tree.{Tree, Positions, Statement, Script, Item}
use Rattle.apl_model_laws.specs.Turns.{state_of}

-- ---- what was printed before

-- the same state, after this text too
abbrev pub onto : List ℕ → State → State
onto text s = record s { printed = text ++ s.printed }

-- an outcome after this text too
abbrev pub outcome_onto : {A : Type 0} → List ℕ → Outcome State A → Outcome State A
outcome_onto text o = mapped_outcome (onto text) (λ a. a) o

-- a part of a run does the same whatever was printed before, and prints behind it
abbrev pub PrintsBehind : {A : Type 0} → (State → Outcome State A) → Type 0
PrintsBehind act = (text : List ℕ) (s : State) → act (onto text s) ≡ outcome_onto text (act s)

-- each call does
abbrev pub CallsPrintBehind : Calls → Type 0
CallsPrintBehind calls = (f : List ℕ) (place : Place) (left right : Option Array) → PrintsBehind (calls f place left right)

-- an expression does, where the calls do
abbrev pub ExpressionsPrintBehind : Type 0
ExpressionsPrintBehind = (calls : Calls) → CallsPrintBehind calls → (t : Tree) → PrintsBehind (value_of calls t)

-- and so do positions
abbrev pub PositionsPrintBehind : Type 0
PositionsPrintBehind = (calls : Calls) → CallsPrintBehind calls → (qs : Positions) → PrintsBehind (positions_of calls qs)

-- and a statement
abbrev pub StatementsPrintBehind : Type 0
StatementsPrintBehind = (calls : Calls) → CallsPrintBehind calls → (t : Statement) → PrintsBehind (statement_flow calls t)

-- the calls of functions do, however many more may be pending
abbrev pub FunctionsPrintBehind : Type 0
FunctionsPrintBehind = (routines : List (Routine Statement)) (n : ℕ) → CallsPrintBehind (call_within of_states statement_flow routines n)

-- ---- what is printed stays

-- one text begins with another
abbrev pub BeginsWith : List ℕ → List ℕ → Type 0
BeginsWith whole front = (rest : List ℕ) × (whole ≡ front ++ rest)

-- a part of a run takes back nothing that was printed before
abbrev pub KeepsPrinted : {A : Type 0} → (State → Outcome State A) → Type 0
KeepsPrinted act = (s : State) → BeginsWith (state_of (act s)).printed s.printed

-- nor does a call
abbrev pub CallsKeepPrinted : Calls → Type 0
CallsKeepPrinted calls = (f : List ℕ) (place : Place) (left right : Option Array) → KeepsPrinted (calls f place left right)

-- nor an expression, where no call does
abbrev pub ExpressionsKeepPrinted : Type 0
ExpressionsKeepPrinted = (calls : Calls) → CallsKeepPrinted calls → (t : Tree) → KeepsPrinted (value_of calls t)

-- nor a statement
abbrev pub StatementsKeepPrinted : Type 0
StatementsKeepPrinted = (calls : Calls) → CallsKeepPrinted calls → (t : Statement) → KeepsPrinted (statement_flow calls t)

-- nor the calls of functions, however many more may be pending
abbrev pub FunctionsKeepPrinted : Type 0
FunctionsKeepPrinted = (routines : List (Routine Statement)) (n : ℕ) → CallsKeepPrinted (call_within of_states statement_flow routines n)

-- what a run prints begins with what the run of its first items prints
abbrev pub RunsBeginWithTheirPrefixes : Type 0
RunsBeginWithTheirPrefixes = (script : Script) (items more : List Item) (n : ℕ) →
    BeginsWith (run_items script (items ++ more) n).state.printed (run_items script items n).state.printed

-- and so do its bytes
abbrev pub BytesBeginWithTheirPrefixes : Type 0
BytesBeginWithTheirPrefixes = (script : Script) (items more : List Item) (n : ℕ) →
    BeginsWith (encode_utf8_all (run_items script (items ++ more) n).state.printed) (encode_utf8_all (run_items script items n).state.printed)
