-- The run of a compiled program is that of its script.
use Rattle.std.proofs.Common.{◌≡◌, ℕ, suc, ◌==◌, true, false, not, cond, ◌+◌, List, [], ◌∷◌, ◌++◌, drop, length, nat_lt, map, Option, Some, None, refl, ap, sym, ◌∙◌}
use Rattle.std.specs.List.{find, filter_map, position, position_or_len}
use Rattle.std.specs.Option.{option_map, unwrap_or}
use Rattle.apl_base.specs.declared.faults.ErrorKind.{ErrorKind}
use Rattle.apl_base.specs.declared.faults.Place.{Place}
use Rattle.apl_model.proofs.Agreement.{translated_runs_agree}
use Rattle.apl_model.specs.Agreement.{mapped_line, mapped_routine, mapped_step}
use Rattle.apl_model.specs.Call.{Routine, RoutineLine, calls_of}
use Rattle.apl_model.specs.Evaluation.{State, of_arrays}
use Rattle.apl_base.specs.Array.{Array}
use Rattle.apl_model.specs.Immediate.{Step, statement_step, command_step, run_steps, well, prefix_or, prefix_in, report, routine, routine_line, step_of, definition_in, definitions_of, of_states, beginning, told}
use Rattle.apl_model.specs.Order.{CallsOf, Values, flow_in}
use Rattle.apl_model.specs.Outcome.{Outcome, Flow}
use Rattle.apl_model.specs.Printed.{report_text}
use Rattle.apl_model.specs.Tree.{BodyLine, Definition, Item, Script, Statement, statement_item, command_item, definition_item}
use Rattle.apl_model.specs.declared.tokens.Line.{Line}
use Rattle.apl_compile.specs.declared.codes.Code.{Code}
use Rattle.apl_compile.specs.Execution.{stopping}
use Rattle.apl_compile.specs.Laws.{tree_meaning, CodeDoes, StatementCodeDoes, ProgramDoes, ImmediateIsRun, OneReport, SameLines, ReportsOfOutline}
use Rattle.apl_compile.specs.Program.{outline_of, outline_item, outline_body, outline_line, compiled, codes_of}
use Rattle.apl_compile.specs.Running.{lines_with, routines_from, steps_from, function_of, line_text_in, prefix_from, report_in, code_meaning}
use Rattle.apl_compile.proofs.CodeLemmas.{code_does, statement_does}

pub code_does_law : (S V : Type 0) → CodeDoes S V
code_does_law S V M t rest vs to s = (code_does M t).does rest vs to s

pub statement_code_does : (S V : Type 0) → StatementCodeDoes S V
statement_code_does S V M line t s = ap (stopping M s) (statement_does M t line s)

-- ---- reports

find-outline : (lines : List Line) (number : ℕ) → option_map (λ l. l.text) (find (λ l. l.number == number) (map outline_line lines)) ≡ option_map (λ l. l.text) (find (λ l. l.number == number) lines)
find-outline [] number = refl
find-outline (l ∷ ls) number = elim (l.number == number) as (λ b. option_map (λ l. l.text) (cond b (Some (outline_line l)) (find (λ l. l.number == number) (map outline_line ls))) ≡ option_map (λ l. l.text) (cond b (Some l) (find (λ l. l.number == number) ls))) [ true ↦ refl | false ↦ find-outline ls number ]

place-outline : (ls : List BodyLine) (number : ℕ) → position_or_len (λ l. l.line == number) (map outline_body ls) ≡ position_or_len (λ l. l.line == number) ls
place-outline [] number = refl
place-outline (l ∷ ls) number = ap (λ k. cond (not (l.line == number)) (1 + k) 0) (place-outline ls number)

length-outline : (ls : List BodyLine) → length (map outline_body ls) ≡ length ls
length-outline [] = refl
length-outline (l ∷ ls) = ap suc (length-outline ls)

position-outline : (ls : List BodyLine) (number : ℕ) → position (λ l. l.line == number) (map outline_body ls) ≡ position (λ l. l.line == number) ls
position-outline ls number =
    ap (λ k. cond (nat_lt k (length (map outline_body ls))) (Some k) None) (place-outline ls number)
    ∙ ap (λ n. cond (nat_lt (position_or_len (λ l. l.line == number) ls) n) (Some (position_or_len (λ l. l.line == number) ls)) None) (length-outline ls)

prefix-outline : (items : List Item) (number : ℕ) → prefix_from number (map outline_item items) ≡ prefix_in number (filter_map definition_in items)
prefix-outline [] number = refl
prefix-outline (statement_item line t ∷ is) number = prefix-outline is number
prefix-outline (command_item line c ∷ is) number = prefix-outline is number
prefix-outline (definition_item d ∷ is) number =
    ap (λ k. prefix_or k d.header.f (prefix_from number (map outline_item is))) (position-outline d.body number)
    ∙ ap (prefix_or (position (λ l. l.line == number) d.body) d.header.f) (prefix-outline is number)

pub reports_of_outline : ReportsOfOutline
reports_of_outline script kind place =
    ap (λ p. report_text kind p (line_text_in (outline_of script).lines place.line) place.column) (prefix-outline script.items place.line)
    ∙ ap (λ t. report_text kind (prefix_in place.line (definitions_of script.items)) (unwrap_or t []) place.column) (find-outline script.lines place.line)

pub same_lines : SameLines
same_lines script other same = ap (λ p. p.outline.lines) same

pub one_report : OneReport
one_report script other kind place same =
    sym (reports_of_outline script kind place)
    ∙ ap (λ p. report_in p.outline kind place) same
    ∙ reports_of_outline other kind place

reports-same : (script : Script) → report_in (outline_of script) ≡ report script
reports-same script = λ i kind place. reports_of_outline script kind place i

-- ---- functions and steps

-- a statement and its line
pub record Placed : Type 0 where
  pub line : ℕ
  pub statement : Statement

abbrev pub placed_line : BodyLine → RoutineLine Placed
placed_line l = record { line = l.line; label = l.label; statement = record { line = l.line; statement = l.statement } }

abbrev pub placed_routine : Definition → Routine Placed
placed_routine d = record { header = d.header; body = map placed_line d.body }

abbrev placed_step : Item → Option (Step Placed)
placed_step (statement_item line t) = Some (statement_step line (record { line = line; statement = t }))
placed_step (command_item line c) = Some (command_step c)
placed_step (definition_item d) = None

abbrev pub code_of_placed : Placed → Code
code_of_placed p = compiled p.line p.statement

abbrev pub statement_of_placed : Placed → Statement
statement_of_placed p = p.statement

lines-coded : (ls : List BodyLine) (rest : List Code) → lines_with (map outline_body ls) (map (λ l. compiled l.line l.statement) ls ++ rest) ≡ map (mapped_line code_of_placed) (map placed_line ls)
lines-coded [] rest = refl
lines-coded (l ∷ ls) rest = ap (λ more. record { line = l.line; label = l.label; statement = compiled l.line l.statement } ∷ more) (lines-coded ls rest)

-- behind the codes of a body stand those of what follows
pub codes-behind : (ls : List BodyLine) (rest : List Code) → drop (length (map outline_body ls)) (map (λ l. compiled l.line l.statement) ls ++ rest) ≡ rest
codes-behind [] rest = refl
codes-behind (l ∷ ls) rest = codes-behind ls rest

routines-coded : (items : List Item) → routines_from (map outline_item items) (codes_of items) ≡ map (mapped_routine code_of_placed) (map placed_routine (definitions_of items))
routines-coded [] = refl
routines-coded (statement_item line t ∷ is) = routines-coded is
routines-coded (command_item line c ∷ is) = routines-coded is
routines-coded (definition_item d ∷ is) =
    ap (λ b. record { header = d.header; body = b } ∷ routines_from (map outline_item is) (drop (length (map outline_body d.body)) (map (λ l. compiled l.line l.statement) d.body ++ codes_of is))) (lines-coded d.body (codes_of is))
    ∙ ap (λ cs. mapped_routine code_of_placed (placed_routine d) ∷ routines_from (map outline_item is) cs) (codes-behind d.body (codes_of is))
    ∙ ap (λ rs. mapped_routine code_of_placed (placed_routine d) ∷ rs) (routines-coded is)

steps-coded : (items : List Item) → steps_from (map outline_item items) (codes_of items) ≡ map (mapped_step code_of_placed) (filter_map placed_step items)
steps-coded [] = refl
steps-coded (statement_item line t ∷ is) = ap (λ more. statement_step line (compiled line t) ∷ more) (steps-coded is)
steps-coded (command_item line c ∷ is) = ap (λ more. command_step c ∷ more) (steps-coded is)
steps-coded (definition_item d ∷ is) = ap (steps_from (map outline_item is)) (codes-behind d.body (codes_of is)) ∙ steps-coded is

pub functions-outlined : (items : List Item) → filter_map function_of (map outline_item items) ≡ map (λ d. d.header.f) (definitions_of items)
functions-outlined [] = refl
functions-outlined (statement_item line t ∷ is) = functions-outlined is
functions-outlined (command_item line c ∷ is) = functions-outlined is
functions-outlined (definition_item d ∷ is) = ap (λ ns. d.header.f ∷ ns) (functions-outlined is)

pub lines-plain : (ls : List BodyLine) → map (mapped_line statement_of_placed) (map placed_line ls) ≡ map routine_line ls
lines-plain [] = refl
lines-plain (l ∷ ls) = ap (λ more. routine_line l ∷ more) (lines-plain ls)

pub routines-plain : (ds : List Definition) → map (mapped_routine statement_of_placed) (map placed_routine ds) ≡ map routine ds
routines-plain [] = refl
routines-plain (d ∷ ds) = ap (λ b. record { header = d.header; body = b } ∷ map (mapped_routine statement_of_placed) (map placed_routine ds)) (lines-plain d.body) ∙ ap (λ rs. routine d ∷ rs) (routines-plain ds)

steps-plain : (items : List Item) → map (mapped_step statement_of_placed) (filter_map placed_step items) ≡ filter_map step_of items
steps-plain [] = refl
steps-plain (statement_item line t ∷ is) = ap (λ more. statement_step line t ∷ more) (steps-plain is)
steps-plain (command_item line c ∷ is) = ap (λ more. command_step c ∷ more) (steps-plain is)
steps-plain (definition_item d ∷ is) = steps-plain is

-- ---- the run

abbrev placed_meaning : {S V : Type 0} → (CallsOf S V → Values S V) → CallsOf S V → Placed → S → Outcome S Flow
placed_meaning values calls p s = flow_in (values calls) p.statement s

pub program_does : (S V : Type 0) → ProgramDoes S V
program_does S V M values script s =
    let placed = map placed_routine (definitions_of script.items) in
    let functions = map (λ (d : Definition). d.header.f) (definitions_of script.items) in
    let by_code = λ (f : List (List ℕ)) (report_of : ErrorKind → Place → List ℕ) (routines : List (Routine Code)) (steps : List (Step Code)). run_steps M (code_meaning M values (calls_of M (code_meaning M values) routines)) f report_of steps well s in
    let by_tree = λ (routines : List (Routine Statement)) (steps : List (Step Statement)). run_steps M (tree_meaning values (calls_of M (tree_meaning values) routines)) functions (report script) steps well s in
    ap (λ f. by_code f (report_in (outline_of script)) (routines_from (outline_of script).items (codes_of script.items)) (steps_from (outline_of script).items (codes_of script.items))) (functions-outlined script.items)
    ∙ ap (λ r. by_code functions r (routines_from (outline_of script).items (codes_of script.items)) (steps_from (outline_of script).items (codes_of script.items))) (reports-same script)
    ∙ ap (λ r. by_code functions (report script) r (steps_from (outline_of script).items (codes_of script.items))) (routines-coded script.items)
    ∙ ap (λ r. by_code functions (report script) (map (mapped_routine code_of_placed) placed) r) (steps-coded script.items)
    ∙ translated_runs_agree S V Placed Code code_of_placed M (placed_meaning values) (code_meaning M values) (λ calls p u. statement_code_does S V (values calls) p.line p.statement u) placed functions (report script) (filter_map placed_step script.items) well s
    ∙ sym (translated_runs_agree S V Placed Statement statement_of_placed M (placed_meaning values) (tree_meaning values) (λ calls p u. refl) placed functions (report script) (filter_map placed_step script.items) well s)
    ∙ ap (λ r. by_tree r (map (mapped_step statement_of_placed) (filter_map placed_step script.items))) (routines-plain (definitions_of script.items))
    ∙ ap (λ r. by_tree (map routine (definitions_of script.items)) r) (steps-plain script.items)

pub immediate_is_run : ImmediateIsRun
immediate_is_run script n = ap told (program_does State Array of_states of_arrays script (beginning n))
