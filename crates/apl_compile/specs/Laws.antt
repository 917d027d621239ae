-- The laws of code, each of which a public function's contract states.
use Rattle.std.specs.Prelude.{◌≡◌, ℕ, List, ◌∷◌, ◌++◌, map, [], Option, Some, None}
use Rattle.std.specs.List.{filter_map}
use Rattle.apl_base.specs.declared.faults.ErrorKind.{ErrorKind}
use Rattle.apl_base.specs.declared.faults.Place.{Place}
use Rattle.apl_model.specs.Call.{Routine, RoutineLine, States, calls_of}
use Rattle.apl_model.specs.Evaluation.{of_arrays}
use Rattle.apl_model.specs.Immediate.{Run, Step, statement_step, command_step, run_steps, well, routine, step_of, definitions_of, report, of_states, beginning, immediate, told}
use Rattle.apl_model.specs.Order.{CallsOf, Values, value_in, flow_in}
use Rattle.apl_model.specs.Outcome.{Outcome, Flow}
use Rattle.apl_model.specs.Tree.{Tree, Statement, Script, Item, Definition, BodyLine, statement_item, command_item, definition_item}
use Rattle.apl_compile.specs.declared.codes.Code.{Code}
use Rattle.apl_compile.specs.declared.codes.Instruction.{Instruction}
use Rattle.apl_compile.specs.Code.{expression_code, code_on}
use Rattle.apl_compile.specs.Execution.{goes_on, exec, code_flow}
use Rattle.apl_compile.specs.Program.{compiled, outline_line, program_of}
use Rattle.apl_compile.specs.Running.{report_in, routines_in, run_program, steps_in}

-- the code of an expression, with any code after it, does what the expression does, and goes on with its value
abbrev pub CodeDoes : (S V : Type 0) → Type 0
CodeDoes S V = (M : Values S V) (t : Tree) (rest : List Instruction) (vs : List V) (to : Flow) (s : S) →
    exec M (expression_code t ++ rest) vs to s ≡ goes_on (value_in M t s) (λ v u. exec M rest (v ∷ vs) to u)

-- the code of a statement does what the statement does
abbrev pub StatementCodeDoes : (S V : Type 0) → Type 0
StatementCodeDoes S V = (M : Values S V) (line : ℕ) (t : Statement) (s : S) → code_flow M (code_on line t) s ≡ flow_in M t s

-- what a statement means, where this is what calls mean
abbrev pub tree_meaning : {S V : Type 0} → (CallsOf S V → Values S V) → CallsOf S V → Statement → S → Outcome S Flow
tree_meaning values calls t s = flow_in (values calls) t s

-- the run of a script's statements and commands
abbrev pub run_script : {S V : Type 0} → States S V → (CallsOf S V → Values S V) → Script → S → Run S
run_script M values script s =
    let definitions = definitions_of script.items in
    run_steps M (tree_meaning values (calls_of M (tree_meaning values) (map routine definitions)))
    (map (λ d. d.header.f) definitions) (report script) (filter_map step_of script.items) well s

-- a script's routines and steps run by their codes as by their statements
abbrev pub ProgramDoes : (S V : Type 0) → Type 0
ProgramDoes S V = (M : States S V) (values : CallsOf S V → Values S V) (script : Script) (s : S) →
    run_program M values (program_of script) s ≡ run_script M values script s

-- immediate evaluation of a script is the run of its compiled program over arrays
abbrev pub ImmediateIsRun : Type 0
ImmediateIsRun = (script : Script) (n : ℕ) → told (run_program of_states of_arrays (program_of script) (beginning n)) ≡ immediate script n

-- scripts with one compiled program have the same lines, each with its number and text
abbrev pub SameLines : Type 0
SameLines = (script other : Script) → program_of script ≡ program_of other → map outline_line script.lines ≡ map outline_line other.lines

-- scripts with one compiled program have the same reports
abbrev pub OneReport : Type 0
OneReport = (script other : Script) (kind : ErrorKind) (place : Place) → program_of script ≡ program_of other → report script kind place ≡ report other kind place

-- and they are those of the program's outline
abbrev pub ReportsOfOutline : Type 0
ReportsOfOutline = (script : Script) (kind : ErrorKind) (place : Place) → report_in (program_of script).outline kind place ≡ report script kind place

-- ---- a script with its codes

abbrev pub coded_line : BodyLine → RoutineLine Code
coded_line l = record { line = l.line; label = l.label; statement = compiled l.line l.statement }

abbrev pub coded_routine : Definition → Routine Code
coded_routine d = record { header = d.header; body = map coded_line d.body }

abbrev pub coded_step : Item → Option (Step Code)
coded_step (statement_item line t) = Some (statement_step line (compiled line t))
coded_step (command_item line c) = Some (command_step c)
coded_step (definition_item d) = None

-- a program's functions are the script's definitions, each line with the code of its statement
abbrev pub RoutinesAreCoded : Type 0
RoutinesAreCoded = (script : Script) → routines_in (program_of script) ≡ map coded_routine (definitions_of script.items)

-- and its steps are the script's statements and commands
abbrev pub StepsAreCoded : Type 0
StepsAreCoded = (script : Script) → steps_in (program_of script) ≡ filter_map coded_step script.items

-- the statements of an item, and of items, in order, each with its line
abbrev pub statements_at : Item → List (ℕ × Statement)
statements_at (statement_item line t) = (line, t) ∷ []
statements_at (command_item line c) = []
statements_at (definition_item d) = map (λ l. (l.line, l.statement)) d.body

abbrev pub statements_of : List Item → List (ℕ × Statement)
statements_of [] = []
statements_of (i ∷ is) = statements_at i ++ statements_of is

abbrev pub code_at : ℕ × Statement → Code
code_at p = compiled p.0 p.1

-- the codes are those of the statements, one after the other
abbrev pub CodesAreInOrder : Type 0
CodesAreInOrder = (script : Script) → (program_of script).codes ≡ map code_at (statements_of script.items)
