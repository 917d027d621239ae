-- A statement of a script outside definitions, what comes of its evaluation, and that its code comes to the same.
use Rattle.std.specs.Prelude.{◌≡◌, ℕ, List, ◌∷◌, ◌++◌, length, map, slice_get, Some}
use Rattle.apl_model.specs.Call.{calls_of, on_turn}
use Rattle.apl_model.specs.Evaluation.{State, Calls, of_arrays, statement_flow}
use Rattle.apl_model.specs.Immediate.{definitions_of, of_states, routine}
use Rattle.apl_model.specs.Items.{AreLawful}
use Rattle.apl_model.specs.Outcome.{Outcome, Flow}
use Rattle.apl_model.specs.Tree.{Item, Script, Statement, statement_item}
use Rattle.apl_compile.specs.Laws.{statements_of}
use Rattle.apl_compile.specs.Program.{ProgramView, compiled, program_of}
use Rattle.apl_compile.specs.Running.{code_meaning, routines_in}

-- A statement of the script stands outside definitions, on this line. So many others stand before it, the lines of
-- definitions among them.
pub record IsStatementAt (script : Script) (at line : ℕ) (statement : Statement) : Type 0 where
  pub before : List Item
  pub after : List Item
  pub items : script.items ≡ before ++ statement_item line statement ∷ after
  pub number : at ≡ length (statements_of before)

-- the program is compiled from a script of the language, which has such a statement
pub record HasStatementAt (p : ProgramView) (at : ℕ) : Type 0 where
  pub script : Script
  pub lawful : AreLawful script.items
  pub compiled : p ≡ program_of script
  pub line : ℕ
  pub statement : Statement
  pub there : IsStatementAt script at line statement

-- what comes of its evaluation: it takes a turn, where one is left
abbrev pub evaluated : Script → ℕ → Statement → State → Outcome State Flow
evaluated script line statement s =
    let functions = map routine (definitions_of script.items) in
    on_turn of_states line (statement_flow (calls_of of_states statement_flow functions) statement) s

-- ---- by its code

-- what calls mean in a program
abbrev pub calls_in : ProgramView → Calls
calls_in p = calls_of of_states (code_meaning of_states of_arrays) (routines_in p)

-- the code of this number is that of the statement
abbrev pub StatementHasCode : Type 0
StatementHasCode =
    (script : Script) (at line : ℕ) (statement : Statement) → IsStatementAt script at line statement
    → slice_get (program_of script).codes at ≡ Some (compiled line statement)

-- and it comes to what evaluation comes to
abbrev pub EvaluatedByCode : Type 0
EvaluatedByCode =
    (script : Script) (line : ℕ) (statement : Statement) (s : State)
    → evaluated script line statement s
    ≡ on_turn of_states line (code_meaning of_states of_arrays (calls_in (program_of script)) (compiled line statement)) s
