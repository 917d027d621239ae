-- What a compiled program means: its routines, its steps and its reports, which are told by its outline and its codes
-- alone, and its run.
use Rattle.std.specs.Prelude.{ℕ, ◌==◌, List, [], ◌∷◌, drop, length, Option, Some, None}
use Rattle.std.specs.List.{find, filter_map, position}
use Rattle.std.specs.Option.{option_map, unwrap_or}
use Rattle.apl_base.specs.declared.faults.ErrorKind.{ErrorKind}
use Rattle.apl_base.specs.declared.faults.Place.{Place}
use Rattle.apl_model.specs.declared.outlines.Outline.{Outline}
use Rattle.apl_model.specs.declared.outlines.OutlineBody.{OutlineBody}
use Rattle.apl_model.specs.declared.outlines.OutlineItem.{OutlineItem}
use Rattle.apl_model.specs.declared.outlines.OutlineItem.TheVariants as outline
use Rattle.apl_model.specs.declared.outlines.OutlineLine.{OutlineLine}
use Rattle.apl_model.specs.Call.{Routine, RoutineLine, States, calls_of}
use Rattle.apl_model.specs.Immediate.{Run, Step, statement_step, command_step, run_steps, well, prefix_or}
use Rattle.apl_model.specs.Order.{CallsOf, Values}
use Rattle.apl_model.specs.Outcome.{Outcome, Flow}
use Rattle.apl_model.specs.Printed.{plain_prefix, report_text}
use Rattle.apl_compile.specs.declared.codes.Code.{Code}
use Rattle.apl_compile.specs.Execution.{code_flow}
use Rattle.apl_compile.specs.Program.{ProgramView}

-- ---- the codes, dealt out to the items of the outline in order

-- the lines of a body with their codes
abbrev pub lines_with : List OutlineBody → List Code → List (RoutineLine Code)
lines_with (l ∷ ls) (c ∷ cs) = record { line = l.line; label = l.label; statement = c } ∷ lines_with ls cs
lines_with ls cs = []

-- the functions
abbrev pub routines_from : List OutlineItem → List Code → List (Routine Code)
routines_from [] cs = []
routines_from (outline.Statement line ∷ is) cs = routines_from is (drop 1 cs)
routines_from (outline.Command line c ∷ is) cs = routines_from is cs
routines_from (outline.Definition opened closed header body ∷ is) cs =
    record { header = header; body = lines_with body cs } ∷ routines_from is (drop (length body) cs)

-- the statements outside definitions, and the commands
abbrev pub steps_from : List OutlineItem → List Code → List (Step Code)
steps_from [] cs = []
steps_from (outline.Statement line ∷ is) [] = []
steps_from (outline.Statement line ∷ is) (c ∷ cs) = statement_step line c ∷ steps_from is cs
steps_from (outline.Command line c ∷ is) cs = command_step c ∷ steps_from is cs
steps_from (outline.Definition opened closed header body ∷ is) cs = steps_from is (drop (length body) cs)

abbrev pub routines_in : ProgramView → List (Routine Code)
routines_in p = routines_from p.outline.items p.codes

abbrev pub steps_in : ProgramView → List (Step Code)
steps_in p = steps_from p.outline.items p.codes

-- the names that head a definition
abbrev pub function_of : OutlineItem → Option (List ℕ)
function_of (outline.Statement line) = None
function_of (outline.Command line c) = None
function_of (outline.Definition opened closed header body) = Some header.f

abbrev pub functions_of : Outline → List (List ℕ)
functions_of o = filter_map function_of o.items

-- ---- reports

-- the text of the line of this number
abbrev pub line_text_in : List OutlineLine → ℕ → List ℕ
line_text_in lines number = unwrap_or (option_map (λ l. l.text) (find (λ l. l.number == number) lines)) []

-- what stands before the line in a report: for a line of a body the function and the line's number in it
abbrev pub prefix_from : ℕ → List OutlineItem → List ℕ
prefix_from number [] = plain_prefix
prefix_from number (outline.Statement line ∷ is) = prefix_from number is
prefix_from number (outline.Command line c ∷ is) = prefix_from number is
prefix_from number (outline.Definition opened closed header body ∷ is) =
    prefix_or (position (λ l. l.line == number) body) header.f (prefix_from number is)

abbrev pub report_in : Outline → ErrorKind → Place → List ℕ
report_in o kind place = report_text kind (prefix_from place.line o.items) (line_text_in o.lines place.line) place.column

-- ---- the run

module _ {S V : Type 0} (M : States S V) (values : CallsOf S V → Values S V) where
  -- what a code means, where this is what calls mean
  abbrev pub code_meaning : CallsOf S V → Code → S → Outcome S Flow
  code_meaning calls code s = code_flow (values calls) code.instructions s

  -- the run of a program from a state on: its statements and commands in order, each by its code
  abbrev pub run_program : ProgramView → S → Run S
  run_program p s =
      run_steps M (code_meaning (calls_of M code_meaning (routines_in p))) (functions_of p.outline) (report_in p.outline) (steps_in p) well s
