-- What is lawful stays lawful: numbers within -M..M, characters of Unicode, and lengths that make a shape.
use Rattle.std.specs.Prelude.{◌≡◌, ℕ, ◌⊎◌, ◌↔◌, ℤ, pos, ◌≤ℤ◌, unsigned_abs, IsTrue, List, length, map, Option, Some, None, Ok, Err}
use Rattle.std.specs.List.{AllByRecursion}
use Rattle.apl_base.specs.declared.faults.Place.{Place}
use Rattle.apl_base.specs.declared.rows.Dya.{Dya}
use Rattle.apl_base.specs.Array.{Array, IsArray, IsShape}
use Rattle.apl_base.specs.Number.{IsNumber}
use Rattle.apl_base.specs.Selection.{AreAxes, axes_rank}
use Rattle.apl_model.specs.declared.functions.Axis.{Axis}
use Rattle.apl_model.specs.declared.functions.DyaFn.{DyaFn}
use Rattle.apl_model.specs.declared.functions.MonFn.{MonFn}
use Rattle.apl_model.specs.declared.tokens.Heading.{Heading}
use Rattle.apl_model.specs.declared.tokens.Line.{Line}
use Rattle.apl_model.specs.declared.trees.Literal.{Literal}
use Rattle.apl_model.specs.Call.{Routine, RoutineLine, call_within}
use Rattle.apl_model.specs.Environment.{Environment, Bindings}
use Rattle.apl_model.specs.Evaluation.{State, Calls, literal_array, monadic_value, dyadic_value, value_of, positions_of, statement_flow}
use Rattle.apl_model.specs.Outcome.{Outcome, done, fails, spent}
use Rattle.apl_model.specs.Grammar.{IsLiteral, IsExpression, ArePositions, IsStatement, IsCommand}
use Rattle.apl_model.specs.Immediate.{of_states, routine, run_items, immediate}
use Rattle.apl_model.specs.Made.{are_axes}
use Rattle.apl_model.specs.Product.{reduce, outer, inner}
use Rattle.apl_model.specs.Script.{headings, IsScript}
use Rattle.apl_model.specs.Subscript.{subscript, replacement}
use Rattle.apl_model.specs.Tree.{Tree, Positions, Statement, Item, statement_item, command_item, definition_item, Script}
use Rattle.apl_model.specs.Whole.{Answer, is_shape}

-- an index origin
abbrev pub IsOrigin : ℤ → Type 0
IsOrigin o = (o ≡ pos 0) ⊎ (o ≡ pos 1)

-- what a function gives is lawful, where it gives an array
abbrev pub IsAnswer : Answer → Type 0
IsAnswer (Ok a) = IsArray a
IsAnswer (Err e) = Unit {0}

-- an array, where there is one
abbrev pub IsOptional : Option Array → Type 0
IsOptional (Some a) = IsArray a
IsOptional None = Unit {0}

-- the test of a shape is true exactly of lengths that make one
abbrev pub ShapesAreTested : Type 0
ShapesAreTested = (ns : List ℕ) → IsTrue (is_shape ns) ↔ IsShape ns

-- and that of axes exactly of numbers that are 0 to k - 1 for some k
abbrev pub AxesAreTested : Type 0
AxesAreTested = (zs : List ℤ) → IsTrue (are_axes zs) ↔
    (AllByRecursion (λ z. pos 0 ≤ℤ z) zs × AreAxes (axes_rank (map unsigned_abs zs)) (map unsigned_abs zs))

-- ---- of lawful arguments each function gives a lawful array, or an error

abbrev pub LiteralsAreLawful : Type 0
LiteralsAreLawful = (l : Literal) → IsLiteral l → IsArray (literal_array l)

abbrev pub MonadicValuesAreLawful : Type 0
MonadicValuesAreLawful = (o : ℤ) → IsOrigin o → (f : MonFn) (b : Array) → IsArray b → IsAnswer (monadic_value o f b)

abbrev pub DyadicValuesAreLawful : Type 0
DyadicValuesAreLawful = (o : ℤ) → IsOrigin o → (f : DyaFn) (a b : Array) → IsArray a → IsArray b → IsAnswer (dyadic_value o f a b)

abbrev pub ReductionsAreLawful : Type 0
ReductionsAreLawful = (o : ℤ) (f : Dya) (axis : Axis) (b : Array) → IsArray b → IsAnswer (reduce o f axis b)

abbrev pub OuterProductsAreLawful : Type 0
OuterProductsAreLawful = (f : Dya) (a b : Array) → IsArray a → IsArray b → IsAnswer (outer f a b)

abbrev pub InnerProductsAreLawful : Type 0
InnerProductsAreLawful = (f g : Dya) (a b : Array) → IsArray a → IsArray b → IsAnswer (inner f g a b)

abbrev pub SubscriptsAreLawful : Type 0
SubscriptsAreLawful = (o : ℤ) (a : Array) (ps : List (Option Array)) → IsArray a → IsAnswer (subscript o a ps)

abbrev pub ReplacementsAreLawful : Type 0
ReplacementsAreLawful = (o : ℤ) (a : Array) (ps : List (Option Array)) (b : Array) → IsArray a → IsArray b → IsAnswer (replacement o a ps b)

-- ---- evaluation over lawful variables

-- each name that is set has a lawful array
abbrev pub AreBindings : Bindings Array → Type 0
AreBindings bindings = AllByRecursion (λ (b : List ℕ × Option Array). IsOptional b.1) bindings

pub record IsEnvironment (e : Environment Array) : Type 0 where
  pub globals : AreBindings e.globals
  pub frames : AllByRecursion AreBindings e.frames
  pub origin : IsOrigin e.origin

-- what comes of a part of a run: a lawful value, if there is one, and lawful variables
abbrev pub IsOutcome : {A : Type 0} → (A → Type 0) → Outcome State A → Type 0
IsOutcome Value (done a s) = Value a × IsEnvironment s.variables
IsOutcome Value (fails kind place s) = IsEnvironment s.variables
IsOutcome Value (spent s) = IsEnvironment s.variables

-- from lawful variables on
abbrev pub KeepsLawful : {A : Type 0} → (A → Type 0) → (State → Outcome State A) → Type 0
KeepsLawful Value act = (s : State) → IsEnvironment s.variables → IsOutcome Value (act s)

-- a call of lawful arguments gives a lawful result, if it gives one
abbrev pub CallsAreLawful : Calls → Type 0
CallsAreLawful calls = (f : List ℕ) (place : Place) (left right : Option Array) → IsOptional left → IsOptional right → KeepsLawful IsOptional (calls f place left right)

-- the value of an expression of the language is lawful
abbrev pub ExpressionsAreLawful : Type 0
ExpressionsAreLawful = (hs : List Heading) (calls : Calls) → CallsAreLawful calls → (t : Tree) → IsExpression hs t → KeepsLawful IsArray (value_of calls t)

-- and so is that of each position
abbrev pub PositionsAreLawful : Type 0
PositionsAreLawful = (hs : List Heading) (calls : Calls) → CallsAreLawful calls → (qs : Positions) → ArePositions hs qs → KeepsLawful (AllByRecursion IsOptional) (positions_of calls qs)

-- a statement of the language leaves lawful variables
abbrev pub StatementsAreLawful : Type 0
StatementsAreLawful = (hs : List Heading) (calls : Calls) → CallsAreLawful calls → (t : Statement) → IsStatement hs t → KeepsLawful (λ flow. Unit {0}) (statement_flow calls t)

-- a function whose lines are those of the language, and so few that a number of the language counts them
pub record IsRoutine (hs : List Heading) (r : Routine Statement) : Type 0 where
  pub lines : AllByRecursion (λ (l : RoutineLine Statement). IsStatement hs l.statement) r.body
  pub few : IsNumber (pos (length r.body))

-- the calls of such functions are lawful, however many more may be pending
abbrev pub FunctionsAreLawful : Type 0
FunctionsAreLawful = (hs : List Heading) (routines : List (Routine Statement)) → AllByRecursion (IsRoutine hs) routines →
    (n : ℕ) → CallsAreLawful (call_within of_states statement_flow routines n)

-- an item of the language
abbrev pub IsLawfulItem : List Heading → Item → Type 0
IsLawfulItem hs (statement_item line s) = IsStatement hs s
IsLawfulItem hs (command_item line c) = IsCommand c
IsLawfulItem hs (definition_item d) = IsRoutine hs (routine d)

-- a run of such items of a script of such items leaves lawful variables
abbrev pub RunsAreLawful : Type 0
RunsAreLawful = (hs : List Heading) (script : Script) (items : List Item) (n : ℕ) → AllByRecursion (IsLawfulItem hs) script.items →
    AllByRecursion (IsLawfulItem hs) items → IsEnvironment (run_items script items n).state.variables

-- the items of a script are items of the language, where a number of the language counts its lines
abbrev pub ScriptsHaveLawfulItems : Type 0
ScriptsHaveLawfulItems = (ls : List Line) (script : Script) → IsScript ls script → IsNumber (pos (length ls)) → AllByRecursion (IsLawfulItem (headings script.items)) script.items

-- so its immediate evaluation leaves lawful globals, and the origin 0 or 1
abbrev pub ImmediateIsLawful : Type 0
ImmediateIsLawful = (ls : List Line) (script : Script) → IsScript ls script → IsNumber (pos (length ls)) →
    (n : ℕ) → AreBindings (immediate script n).globals × IsOrigin (immediate script n).origin
