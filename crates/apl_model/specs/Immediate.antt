-- Immediate evaluation: what a script prints, how it ends, and the variables that it leaves.
use Rattle.std.specs.Prelude.{ℕ, suc, ◌==◌, nat_lt, ℤ, Bool, true, false, List, [], ◌∷◌, ◌++◌, map, Option, Some, None, encode_utf8_all, if◌then◌else◌}
use Rattle.std.specs.List.{find, join_by, filter_map, position}
use Rattle.std.specs.Option.{option_map, unwrap_or}
use Rattle.apl_base.specs.declared.faults.ErrorKind.{ErrorKind}
use Rattle.apl_base.specs.declared.faults.Place.{Place}
use Rattle.apl_base.specs.Array.{Array}
use Rattle.apl_model.specs.declared.scripts.Command.{Command}
use Rattle.apl_model.specs.declared.scripts.Command.TheVariants.{Vars, Fns, Erase, Origin}
use Rattle.apl_model.specs.declared.tokens.Line.{Line}
use Rattle.apl_model.specs.Call.{Routine, RoutineLine, States, calls_of, on_turn}
use Rattle.apl_model.specs.Environment.{Bindings, no_variables, set_names, erased, without_frames, with_origin}
use Rattle.apl_model.specs.Evaluation.{State, Ended, statement_flow, with_printed, with_variables}
use Rattle.apl_model.specs.Frames.{with_turn, with_ended, with_call, without_call, result_in}
use Rattle.apl_model.specs.Outcome.{Outcome, done, fails, spent, Flow}
use Rattle.apl_model.specs.Printed.{newline, blank, body_prefix, plain_prefix, report_text}
use Rattle.apl_model.specs.Tree.{Script, Item, Definition, BodyLine, Statement, statement_item, command_item, definition_item}

-- ---- names in order

-- one text stands before another in the order of bytes
abbrev pub stands_before : List ℕ → List ℕ → Bool
stands_before xs [] = false
stands_before [] (y ∷ ys) = true
stands_before (x ∷ xs) (y ∷ ys) = if x == y then stands_before xs ys else nat_lt x y

-- one name stands before another in the order of their bytes
abbrev pub bytes_before : List ℕ → List ℕ → Bool
bytes_before a b = stands_before (encode_utf8_all a) (encode_utf8_all b)

-- a name put into names in order
abbrev pub name_in : List ℕ → List (List ℕ) → List (List ℕ)
name_in name [] = name ∷ []
name_in name (n ∷ ns) = if bytes_before n name then n ∷ name_in name ns else name ∷ n ∷ ns

-- the names in the order of their bytes
abbrev pub in_byte_order : List (List ℕ) → List (List ℕ)
in_byte_order [] = []
in_byte_order (n ∷ ns) = name_in n (in_byte_order ns)

-- names in order of bytes, joined by one blank, as one line
abbrev pub names_line : List (List ℕ) → List ℕ
names_line names = join_by (λ n. n) blank (in_byte_order names) ++ newline

-- ---- the script as it is run

-- a line of a body as it is run
abbrev pub routine_line : BodyLine → RoutineLine Statement
routine_line l = record { line = l.line; label = l.label; statement = l.statement }

-- a definition as it is run
abbrev pub routine : Definition → Routine Statement
routine d = record { header = d.header; body = map routine_line d.body }

-- the definition that an item is
abbrev pub definition_in : Item → Option Definition
definition_in (statement_item line s) = None
definition_in (command_item line c) = None
definition_in (definition_item d) = Some d

-- a name that heads a definition is that function in the whole script, also before it
abbrev pub definitions_of : List Item → List Definition
definitions_of items = filter_map definition_in items

-- ---- reports

-- the text of the line of this number, as written
abbrev pub line_text : List Line → ℕ → List ℕ
line_text lines number = unwrap_or (option_map (λ l. l.text) (find (λ l. l.number == number) lines)) []

-- the first of the functions' prefixes, six blanks where the line is in none
abbrev pub prefix_or : Option ℕ → List ℕ → List ℕ → List ℕ
prefix_or (Some k) name others = body_prefix name (suc k)
prefix_or None name others = others

-- what stands before the line in a report: for a line of a body the function and the line's number in it
abbrev pub prefix_in : ℕ → List Definition → List ℕ
prefix_in number [] = plain_prefix
prefix_in number (d ∷ ds) = prefix_or (position (λ l. l.line == number) d.body) d.header.f (prefix_in number ds)

-- the report of an error at its place in the script
abbrev pub report : Script → ErrorKind → Place → List ℕ
report script kind place =
    report_text kind (prefix_in place.line (definitions_of script.items)) (line_text script.lines place.line) place.column

-- ---- items

-- an item as it is run: a statement and its line, or a command
pub data Step (T : Type 0) : Type 0 where
  statement_step : ℕ → T → Step T
  command_step : Command → Step T

-- a definition does nothing where it stands
abbrev pub step_of : Item → Option (Step Statement)
step_of (statement_item line s) = Some (statement_step line s)
step_of (command_item line c) = Some (command_step c)
step_of (definition_item d) = None

-- how a run ends: with no error reported, with one at least, or with no turn left
pub data Ending : Type 0 where
  well : Ending
  reported : Ending
  out_of_turns : Ending

-- how a run ended, and the state that it left
pub record Run (S : Type 0) : Type 0 where
  pub ending : Ending
  pub state : S

module _ {S V T : Type 0} (M : States S V) (flow_of : T → S → Outcome S Flow) (functions : List (List ℕ)) (report_of : ErrorKind → Place → List ℕ) where
  -- after a statement: an error prints its report, and the script goes on; a spent budget ends it. Both end all calls
  abbrev pub after_statement : {A : Type 0} → Ending → Outcome S A → (Ending → S → Run S) → Run S
  after_statement ending (done a s) next = next ending s
  after_statement ending (fails kind place s) next = next reported (M.tell (report_of kind place) (M.unwind s))
  after_statement ending (spent s) next = record { ending = out_of_turns; state = M.unwind s }

  -- Statements and commands in order. Outside a definition a branch has no further effect; commands take no turn.
  abbrev pub run_steps : List (Step T) → Ending → S → Run S
  run_steps [] ending s = record { ending = ending; state = s }
  run_steps (statement_step line st ∷ steps) ending s =
      after_statement ending (on_turn M line (flow_of st) s) (run_steps steps)
  run_steps (command_step c ∷ steps) ending s = run_steps steps ending (M.obey functions c s)

-- ---- the run of a script

-- what a command does; `functions` are the names that head a definition
abbrev pub obeyed : List (List ℕ) → Command → State → State
obeyed functions Vars s = with_printed (names_line (set_names s.variables.globals)) s
obeyed functions Fns s = with_printed (names_line functions) s
obeyed functions (Erase names) s = with_variables (erased names s.variables) s
obeyed functions (Origin o) s = with_variables (with_origin o s.variables) s

-- an error or a spent budget unwinds all frames
abbrev pub unwound : State → State
unwound s = with_variables (without_frames s.variables) s

-- what turns, calls and commands do to the state of a run
abbrev pub of_states : States State Array
of_states = record {
  turns = λ s. s.turns;
  begun = λ s. s.begun;
  begin = with_turn;
  end = with_ended;
  enter = with_call;
  result = λ name s. result_in s.variables name;
  leave = without_call;
  unwind = unwound;
  tell = with_printed;
  obey = obeyed;
}

-- no variables, nothing printed, and n turns
abbrev pub beginning : ℕ → State
beginning n = record { variables = no_variables; printed = []; turns = n; begun = 0; ended = [] }

-- the run of these items of a script, with n turns
abbrev pub run_items : Script → List Item → ℕ → Run State
run_items script items n =
    let definitions = definitions_of script.items in
    run_steps of_states (statement_flow (calls_of of_states statement_flow (map routine definitions)))
    (map (λ d. d.header.f) definitions) (report script) (filter_map step_of items) well (beginning n)

-- what comes of immediate evaluation
pub record Immediate : Type 0 where
  pub bytes : List ℕ
  pub ending : Ending
  pub globals : Bindings Array
  pub origin : ℤ
  pub ended : List Ended

-- what a run comes to: what is printed as bytes
abbrev pub told : Run State → Immediate
told r = record { bytes = encode_utf8_all r.state.printed; ending = r.ending; globals = r.state.variables.globals; origin = r.state.variables.origin; ended = r.state.ended }

-- immediate evaluation of a script with n turns
abbrev pub immediate : Script → ℕ → Immediate
immediate script n = told (run_items script script.items n)
