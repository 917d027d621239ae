-- What a part of a run does and prints doesn't depend on what was printed before it.
use Rattle.std.proofs.Common.{◌≡◌, ℕ, Bool, true, false, List, [], ◌∷◌, ◌++◌, map, Option, Some, None, Ok, Err, refl, sym, subst, ap, ◌∙◌, append_assoc}
use Rattle.std.specs.Prelude.{encode_utf8_all}
use Rattle.std.specs.List.{filter_map}
use Rattle.std.specs.Option.{option_map}
use Rattle.std.proofs.lemmas.Str.{encodes-append}
use Rattle.apl_base.specs.declared.faults.ErrorKind.{ErrorKind}
use Rattle.apl_base.specs.declared.faults.Place.{Place}
use Rattle.apl_base.specs.Array.{Array}
use Rattle.apl_model.specs.declared.scripts.Command.{Command}
use Rattle.apl_model.specs.declared.scripts.Command.TheVariants.{Vars, Fns, Erase, Origin}
use Rattle.apl_model.specs.Agreement.{CallsAgree, ValuesAgree, StatesAgree, MeaningsAgree}
use Rattle.apl_model.specs.Call.{Routine, on_turn, call_within, calls_of}
use Rattle.apl_model.specs.Frames.{with_call, result_in}
use Rattle.apl_model.specs.Environment.{look_up}
use Rattle.apl_model.specs.Evaluation.{State, at_place, needed, origin_of, with_name, with_printed, replace_in, replace_name, Calls, positions_of, branch_by, branch_to, print_result, of_arrays, statement_flow}
use Rattle.apl_model.specs.Outcome.{Outcome, done, fails, spent, and_then, Flow, onwards}
use Rattle.apl_model.specs.Immediate.{of_states, Step, statement_step, command_step, obeyed, unwound, Ending, reported, well, Run, after_statement, run_steps, run_items, step_of, definitions_of, routine, report, beginning}
use Rattle.apl_model.specs.Printed.{array_text}
use Rattle.apl_model.specs.Tree.{Statement, Item, Definition, statement_item, command_item, definition_item}
use Rattle.apl_model.specs.Whole.{Answer, is_empty, is_text}
use Rattle.apl_model.proofs.Agreement.{option-same, options-same, value-same, calls-kept, call-kept, routines-same, expressions_agree, positions_agree, statements_agree, functions_agree}
use Rattle.apl_model_laws.specs.Printing.{onto, outcome_onto, CallsPrintBehind, ExpressionsPrintBehind, PositionsPrintBehind, StatementsPrintBehind, FunctionsPrintBehind, RunsBeginWithTheirPrefixes, BytesBeginWithTheirPrefixes}
use Rattle.apl_model_laws.proofs.Kept.{Leads, leads_statement, leads_call, run_kept}
use Rattle.apl_model_laws.proofs.Counted.{Grows, printed_kept}

-- each of these does the same after more text
needed_onto : (text : List ℕ) (place : Place) (a : Option Array) (s : State) → needed place a (onto text s) ≡ outcome_onto text (needed place a s)
needed_onto text place (Some a) s = refl
needed_onto text place None s = refl

at_onto : (text : List ℕ) (place : Place) (a : Answer) (s : State) → at_place place a (onto text s) ≡ outcome_onto text (at_place place a s)
at_onto text place (Ok a) s = refl
at_onto text place (Err e) s = refl

replaced_onto : (text name : List ℕ) (place : Place) (a : Answer) (b : Array) (s : State) →
    and_then (at_place place a (onto text s)) (λ x t. done b (with_name name x t)) ≡ outcome_onto text (and_then (at_place place a s) (λ x t. done b (with_name name x t)))
replaced_onto text name place (Ok a) b s = refl
replaced_onto text name place (Err e) b s = refl

printed_onto : (text more : List ℕ) (s : State) → with_printed more (onto text s) ≡ onto text (with_printed more s)
printed_onto text more s = ap (λ (x : List ℕ). record s { printed = x }) (append_assoc text s.printed more)

shown_onto : (text : List ℕ) (a : Option Array) (s : State) → print_result a (onto text s) ≡ outcome_onto text (print_result a s)
shown_onto text (Some a) s = ap (λ t. done onwards t) (printed_onto text (array_text a) s)
shown_onto text None s = refl

branch_onto : (text : List ℕ) (place : Place) (a : Array) (s : State) → branch_to place a (onto text s) ≡ outcome_onto text (branch_to place a s)
branch_onto text place a s = by (is_empty a) (is_text a)
  where
    by : (e c : Bool) → branch_by e c a place (onto text s) ≡ outcome_onto text (branch_by e c a place s)
    by true c = refl
    by false true = refl
    by false false = refl

-- what is done with arrays doesn't depend on what was printed before
arrays_behind : (text : List ℕ) (calls others : Calls) → CallsAgree (onto text) (λ a. a) calls others → ValuesAgree (onto text) (λ a. a) (of_arrays calls) (of_arrays others)
arrays_behind text calls others c = record {
  literal = λ l s. refl;
  name = λ name place s. needed_onto text place (look_up s.variables name) s;
  apply1 = λ f b place s. at_onto text place _ s;
  apply2 = λ f a b place s. at_onto text place _ s;
  reduce = λ f axis b place s. at_onto text place _ s;
  outer = λ f a b place s. at_onto text place _ s;
  inner = λ f g a b place s. at_onto text place _ s;
  index = λ a ps place s. ap (λ qs. (of_arrays others).index a qs place (onto text s)) (options-same ps) ∙ at_onto text place _ s;
  assign = λ name a s. refl;
  replace = λ name ps b place s.
      ap (λ qs. replace_name name qs b place (onto text s)) (options-same ps) ∙ replaced_onto text name place (replace_in (origin_of s) (look_up s.variables name) ps b) b s;
  calls = c;
  print = λ a s. ap (λ t. done a t) (printed_onto text (array_text a) s);
  need = λ place a s. ap (λ x. needed place x (onto text s)) (option-same a) ∙ needed_onto text place a s;
  branch = λ place a s. branch_onto text place a s;
  show = λ a s. ap (λ x. print_result x (onto text s)) (option-same a) ∙ shown_onto text a s;
}

obeyed_onto : (text : List ℕ) (functions : List (List ℕ)) (c : Command) (s : State) → obeyed functions c (onto text s) ≡ onto text (obeyed functions c s)
obeyed_onto text functions Vars s = printed_onto text _ s
obeyed_onto text functions Fns s = printed_onto text _ s
obeyed_onto text functions (Erase names) s = refl
obeyed_onto text functions (Origin o) s = refl

-- and neither does what turns, calls and commands do
states_behind : (text : List ℕ) → StatesAgree (onto text) (λ (a : Array). a) of_states of_states
states_behind text = record {
  turns = λ s. refl;
  begun = λ s. refl;
  begin = λ left s. refl;
  end = λ line number s. refl;
  enter = λ header labels left right s.
      ap (λ l. with_call header labels l (option_map (λ a. a) right) (onto text s)) (option-same left) ∙ ap (λ r. with_call header labels left r (onto text s)) (option-same right);
  result = λ name s. sym (option-same (result_in s.variables name));
  leave = λ s. refl;
  unwind = λ s. refl;
  tell = λ more s. printed_onto text more s;
  obey = λ functions c s. obeyed_onto text functions c s;
}

calls_behind : (text : List ℕ) (calls : Calls) → CallsPrintBehind calls → CallsAgree (onto text) (λ a. a) calls calls
calls_behind text calls h = calls-kept (onto text) calls calls (λ f place left right s. h f place left right text s)

pub expressions_print_behind : ExpressionsPrintBehind
expressions_print_behind calls h t text s =
    expressions_agree State State Array Array (onto text) (λ a. a) (of_arrays calls) (of_arrays calls) (arrays_behind text calls calls (calls_behind text calls h)) t s

pub positions_print_behind : PositionsPrintBehind
positions_print_behind calls h qs text s =
    positions_agree State State Array Array (onto text) (λ a. a) (of_arrays calls) (of_arrays calls) (arrays_behind text calls calls (calls_behind text calls h)) qs s
    ∙ value-same (onto text) (map (option_map (λ a. a))) options-same (positions_of calls qs s)

pub statements_print_behind : StatementsPrintBehind
statements_print_behind calls h t text s =
    statements_agree State State Array Array (onto text) (λ a. a) (of_arrays calls) (of_arrays calls) (arrays_behind text calls calls (calls_behind text calls h)) t s

pub functions_print_behind : FunctionsPrintBehind
functions_print_behind routines n f place left right text s =
    let m : MeaningsAgree (onto text) (λ (a : Array). a) (λ (p : Statement). p) statement_flow statement_flow = record {
      agree = λ calls others c p s. statements_agree State State Array Array (onto text) (λ a. a) (of_arrays calls) (of_arrays others) (arrays_behind text calls others c) p s;
    } in
    let calls : Calls = call_within of_states statement_flow routines n in
    let agree : CallsAgree (onto text) (λ (a : Array). a) calls calls =
    subst (λ (rs : List (Routine Statement)). CallsAgree (onto text) (λ (a : Array). a) calls (call_within of_states statement_flow rs n)) (routines-same routines)
    (functions_agree State State Array Array Statement Statement (onto text) (λ a. a) (λ p. p) of_states of_states statement_flow statement_flow (states_behind text) m routines n) in
    call-kept (onto text) calls calls agree f place left right s

-- ---- a run and the run of its first items

pub steps_joined : (xs ys : List Item) → filter_map step_of (xs ++ ys) ≡ filter_map step_of xs ++ filter_map step_of ys
steps_joined [] ys = refl
steps_joined (statement_item line s ∷ xs) ys = ap (λ l. statement_step line s ∷ l) (steps_joined xs ys)
steps_joined (command_item line c ∷ xs) ys = ap (λ l. command_step c ∷ l) (steps_joined xs ys)
steps_joined (definition_item d ∷ xs) ys = steps_joined xs ys

module _ (S : Type 0) (flow_of : S → State → Outcome State Flow) (functions : List (List ℕ)) (report_of : ErrorKind → Place → List ℕ)
    (means : (st : S) (s : State) → Leads Grows s (flow_of st s)) where
  after_more : {A : Type 0} (ending : Ending) (o : Outcome State A) (next longer : Ending → State → Run State) →
      ((e : Ending) (t : State) → Grows (next e t).state (longer e t).state) →
      Grows (after_statement of_states flow_of functions report_of ending o next).state (after_statement of_states flow_of functions report_of ending o longer).state
  after_more ending (done a s) next longer h = h ending s
  after_more ending (fails kind place s) next longer h = h reported _
  after_more ending (spent s) next longer h = printed_kept.same (unwound s)

  more_steps : (xs ys : List (Step S)) (ending : Ending) (s : State) →
      Grows (run_steps of_states flow_of functions report_of xs ending s).state (run_steps of_states flow_of functions report_of (xs ++ ys) ending s).state
  more_steps [] ys ending s = run_kept S flow_of functions report_of Grows printed_kept means ys ending s
  more_steps (statement_step line st ∷ xs) ys ending s =
      after_more ending (on_turn of_states line (flow_of st) s) (run_steps of_states flow_of functions report_of xs) (run_steps of_states flow_of functions report_of (xs ++ ys)) (more_steps xs ys)
  more_steps (command_step c ∷ xs) ys ending s = more_steps xs ys ending (obeyed functions c s)

pub runs_begin_with_their_prefixes : RunsBeginWithTheirPrefixes
runs_begin_with_their_prefixes script items more n =
    let definitions : List Definition = definitions_of script.items in
    let routines : List (Routine Statement) = map routine definitions in
    let flow : Statement → State → Outcome State Flow = statement_flow (calls_of of_states statement_flow routines) in
    let h = more_steps Statement flow (map (λ d. d.header.f) definitions) (report script)
    (leads_statement Grows printed_kept (calls_of of_states statement_flow routines) (leads_call Statement statement_flow Grows printed_kept (leads_statement Grows printed_kept) routines 256))
    (filter_map step_of items) (filter_map step_of more) well (beginning n) in
    let run : List (Step Statement) → Run State = λ steps. run_steps of_states flow (map (λ d. d.header.f) definitions) (report script) steps well (beginning n) in
    (h.grows.0, ap (λ steps. (run steps).state.printed) (steps_joined items more) ∙ h.grows.1)

pub bytes_begin_with_their_prefixes : BytesBeginWithTheirPrefixes
bytes_begin_with_their_prefixes script items more n =
    let h = runs_begin_with_their_prefixes script items more n in
    (encode_utf8_all h.0, ap encode_utf8_all h.1 ∙ encodes-append (run_items script items n).state.printed h.0)
