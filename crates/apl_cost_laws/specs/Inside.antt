-- In every run each cell lies in the interval beside it, and in the one that is kept where its array is bound.
use Rattle.std.specs.Prelude.{ℕ, ℤ, List, Option, Some, None, pos, length}
use Rattle.std.specs.List.{AllByRecursion}
use Rattle.apl_base.specs.declared.faults.Place.{Place}
use Rattle.apl_base.specs.Array.{IsArray}
use Rattle.apl_base.specs.Number.{IsNumber}
use Rattle.apl_model.specs.declared.tokens.Heading.{Heading}
use Rattle.apl_model.specs.declared.tokens.Line.{Line}
use Rattle.apl_model.specs.Call.{Routine, RoutineLine, run_lines, call_within}
use Rattle.apl_model.specs.Environment.{Bindings, Environment}
use Rattle.apl_model.specs.Grammar.{IsExpression, ArePositions, IsStatement}
use Rattle.apl_model.specs.Order.{CallsOf, value_in, positions_in}
use Rattle.apl_model.specs.Outcome.{Outcome, done, fails, spent}
use Rattle.apl_model.specs.Script.{IsScript}
use Rattle.apl_model.specs.Tree.{Tree, Positions, Statement, Item, Script}
use Rattle.apl_model_laws.specs.Lawful.{IsOrigin, IsRoutine, IsLawfulItem}
use Rattle.apl_cost.specs.Laws.{LiesIn}
use Rattle.apl_cost.specs.Ranges.{RangedArray}
use Rattle.apl_cost.specs.RangedEvaluation.{RangedState, of_ranged, of_ranged_states, ranged_flow, ranged_items}

-- a lawful array whose cells lie in the interval beside it, and in the one that is kept where it is bound
pub record IsInside (v : RangedArray) : Type 0 where
  pub array : IsArray v.array
  pub interval : LiesIn v.interval v.array
  pub kept : LiesIn v.kept v.array

-- so, where there is one
abbrev pub IsOptionalInside : Option RangedArray → Type 0
IsOptionalInside (Some v) = IsInside v
IsOptionalInside None = Unit {0}

-- each name that is set has such an array
abbrev pub AreInside : Bindings RangedArray → Type 0
AreInside bindings = AllByRecursion (λ (b : List ℕ × Option RangedArray). IsOptionalInside b.1) bindings

-- so all variables, under a lawful origin
pub record AreVariablesInside (e : Environment RangedArray) : Type 0 where
  pub globals : AreInside e.globals
  pub frames : AllByRecursion AreInside e.frames
  pub origin : IsOrigin e.origin

-- what comes of a part of a run: such a value, if there is one, and such variables
abbrev pub IsOutcomeInside : {A : Type 0} → (A → Type 0) → Outcome RangedState A → Type 0
IsOutcomeInside Value (done a s) = Value a × AreVariablesInside s.variables
IsOutcomeInside Value (fails kind place s) = AreVariablesInside s.variables
IsOutcomeInside Value (spent s) = AreVariablesInside s.variables

-- from such variables on
abbrev pub StaysInside : {A : Type 0} → (A → Type 0) → (RangedState → Outcome RangedState A) → Type 0
StaysInside Value act = (s : RangedState) → AreVariablesInside s.variables → IsOutcomeInside Value (act s)

-- calls of such arguments
abbrev pub CallsStayInside : CallsOf RangedState RangedArray → Type 0
CallsStayInside calls = (f : List ℕ) (place : Place) (left right : Option RangedArray) → IsOptionalInside left → IsOptionalInside right →
    StaysInside IsOptionalInside (calls f place left right)

-- the value of each expression of the language is such an array
abbrev pub ExpressionsStayInside : Type 0
ExpressionsStayInside = (hs : List Heading) (calls : CallsOf RangedState RangedArray) → CallsStayInside calls →
    (t : Tree) → IsExpression hs t → StaysInside IsInside (value_in (of_ranged calls) t)

-- and so is that of each position
abbrev pub PositionsStayInside : Type 0
PositionsStayInside = (hs : List Heading) (calls : CallsOf RangedState RangedArray) → CallsStayInside calls →
    (qs : Positions) → ArePositions hs qs → StaysInside (AllByRecursion IsOptionalInside) (positions_in (of_ranged calls) qs)

-- statements leave such variables
abbrev pub StatementsStayInside : Type 0
StatementsStayInside = (hs : List Heading) (calls : CallsOf RangedState RangedArray) → CallsStayInside calls →
    (t : Statement) → IsStatement hs t → StaysInside (λ flow. Unit {0}) (ranged_flow calls t)

-- lines of the language, from any of them on, however many follow
abbrev pub LinesStayInside : Type 0
LinesStayInside = (hs : List Heading) (calls : CallsOf RangedState RangedArray) → CallsStayInside calls →
    (body : List (RoutineLine Statement)) → AllByRecursion (λ (l : RoutineLine Statement). IsStatement hs l.statement) body →
    (n : ℕ) (k : ℤ) → StaysInside (λ u. Unit {0}) (run_lines of_ranged_states ranged_flow calls body n k)

-- calls of functions of the language, however many more may be pending
abbrev pub FunctionsStayInside : Type 0
FunctionsStayInside = (hs : List Heading) (routines : List (Routine Statement)) → AllByRecursion (IsRoutine hs) routines → (n : ℕ) →
    CallsStayInside (call_within of_ranged_states ranged_flow routines n)

-- runs of items of the language
abbrev pub RunsStayInside : Type 0
RunsStayInside = (hs : List Heading) (script : Script) (items : List Item) (n : ℕ) →
    AllByRecursion (IsLawfulItem hs) script.items → AllByRecursion (IsLawfulItem hs) items → AreVariablesInside (ranged_items script items n).state.variables

-- so the run of a script leaves globals whose cells lie in their intervals
abbrev pub ScriptsStayInside : Type 0
ScriptsStayInside = (ls : List Line) (script : Script) → IsScript ls script → IsNumber (pos (length ls)) → (n : ℕ) →
    AreVariablesInside (ranged_items script script.items n).state.variables
