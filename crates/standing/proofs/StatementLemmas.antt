-- Statements of a script by their codes.
use Rattle.std.proofs.Common.{◌≡◌, ℕ, List, [], ◌∷◌, ◌++◌, length, map, Option, Some, refl, sym, ap, ◌∙◌}
use Rattle.std.specs.Prelude.{slice_get}
use Rattle.std.proofs.lemmas.List.{append_assoc, map-append, length-map}
use Rattle.apl_base.specs.declared.faults.Place.{Place}
use Rattle.apl_base.specs.Array.{Array}
use Rattle.apl_model.proofs.Agreement.{translated_functions_agree}
use Rattle.apl_model.specs.Agreement.{mapped_line, mapped_routine}
use Rattle.apl_model.specs.Call.{Routine, RoutineLine, calls_of, on_turn}
use Rattle.apl_model.specs.Evaluation.{State, Calls, of_arrays, statement_flow}
use Rattle.apl_model.specs.Immediate.{definitions_of, of_states, routine}
use Rattle.apl_model.specs.Outcome.{Outcome, Flow}
use Rattle.apl_model.specs.Tree.{BodyLine, Definition, Item, Script, Statement, statement_item}
use Rattle.apl_compile.specs.declared.codes.Code.{Code}
use Rattle.apl_compile.specs.Laws.{coded_line, coded_routine, code_at, statements_at, statements_of}
use Rattle.apl_compile.specs.Program.{compiled, program_of}
use Rattle.apl_compile.specs.Running.{code_meaning}
use Rattle.apl_compile.proofs.CodedLemmas.{routines_are_coded, codes_are_in_order}
use Rattle.apl_compile.proofs.ProgramLemmas.{Placed, code_of_placed, placed_line, placed_routine, routines-plain, statement_code_does, statement_of_placed}
use Rattle.standing.specs.Statements.{calls_in, StatementHasCode, EvaluatedByCode}

-- ---- the code of a statement

statements-behind : (before after : List Item) → statements_of (before ++ after) ≡ statements_of before ++ statements_of after
statements-behind [] after = refl
statements-behind (i ∷ before) after =
    ap (λ (ps : List (ℕ × Statement)). statements_at i ++ ps) (statements-behind before after)
    ∙ sym (append_assoc (statements_at i) (statements_of before) (statements_of after))

get-behind : {A : Type 0} (before : List A) (a : A) (after : List A) → slice_get (before ++ a ∷ after) (length before) ≡ Some a
get-behind [] a after = refl
get-behind (b ∷ before) a after = get-behind before a after

pub statement_has_code : StatementHasCode
statement_has_code script at line statement h =
    let all : List (ℕ × Statement) = statements_of script.items in
    let split : all ≡ statements_of h.before ++ (line, statement) ∷ statements_of h.after = ap statements_of h.items ∙ statements-behind h.before (statement_item line statement ∷ h.after) in
    ap (λ (cs : List Code). slice_get cs at) (codes_are_in_order script.items)
    ∙ ap (λ (ps : List (ℕ × Statement)). slice_get (map code_at ps) at) split
    ∙ ap (λ (cs : List Code). slice_get cs at) (map-append code_at (statements_of h.before) ((line, statement) ∷ statements_of h.after))
    ∙ ap (λ (n : ℕ). slice_get (map code_at (statements_of h.before) ++ compiled line statement ∷ map code_at (statements_of h.after)) n) (h.number ∙ sym (length-map (statements_of h.before) code_at))
    ∙ get-behind (map code_at (statements_of h.before)) (compiled line statement) (map code_at (statements_of h.after))

-- ---- calls by codes

lines-coded : (ls : List BodyLine) → map coded_line ls ≡ map (mapped_line code_of_placed) (map placed_line ls)
lines-coded [] = refl
lines-coded (l ∷ ls) = ap (λ (more : List (RoutineLine Code)). coded_line l ∷ more) (lines-coded ls)

routines-coded : (ds : List Definition) → map coded_routine ds ≡ map (mapped_routine code_of_placed) (map placed_routine ds)
routines-coded [] = refl
routines-coded (d ∷ ds) =
    ap (λ (b : List (RoutineLine Code)). record { header = d.header; body = b } ∷ map coded_routine ds) (lines-coded d.body)
    ∙ ap (λ (rs : List (Routine Code)). mapped_routine code_of_placed (placed_routine d) ∷ rs) (routines-coded ds)

abbrev by_code : Calls → Code → State → Outcome State Flow
by_code = code_meaning of_states of_arrays

abbrev by_placed : Calls → Placed → State → Outcome State Flow
by_placed calls p s = statement_flow calls p.statement s

calls-agree : (script : Script) (f : List ℕ) (place : Place) (left right : Option Array) (s : State) → calls_in (program_of script) f place left right s ≡ calls_of of_states statement_flow (map routine (definitions_of script.items)) f place left right s
calls-agree script f place left right s =
    let ds : List Definition = definitions_of script.items in
    ap (λ (rs : List (Routine Code)). calls_of of_states by_code rs f place left right s) (routines_are_coded script.items ∙ routines-coded ds)
    ∙ translated_functions_agree State Array Placed Code code_of_placed of_states by_placed by_code (λ calls p u. statement_code_does State Array (of_arrays calls) p.line p.statement u) (map placed_routine ds) 256 f place left right s
    ∙ sym (translated_functions_agree State Array Placed Statement statement_of_placed of_states by_placed statement_flow (λ calls p u. refl) (map placed_routine ds) 256 f place left right s)
    ∙ ap (λ (rs : List (Routine Statement)). calls_of of_states statement_flow rs f place left right s) (routines-plain ds)

calls-same : (script : Script) → calls_in (program_of script) ≡ calls_of of_states statement_flow (map routine (definitions_of script.items))
calls-same script = λ i f place left right s. calls-agree script f place left right s i

code-same : (script : Script) (line : ℕ) (statement : Statement) (calls : Calls) → statement_flow calls statement ≡ by_code calls (compiled line statement)
code-same script line statement calls = λ i s. sym (statement_code_does State Array (of_arrays calls) line statement s) i

pub evaluated_by_code : EvaluatedByCode
evaluated_by_code script line statement s =
    ap (λ (act : State → Outcome State Flow). on_turn of_states line act s) (code-same script line statement (calls_of of_states statement_flow (map routine (definitions_of script.items))))
    ∙ ap (λ (calls : Calls). on_turn of_states line (by_code calls (compiled line statement)) s) (sym (calls-same script))
