-- A run does the same behind what was printed and ended before, and a run of items goes on with the others.
use Rattle.std.proofs.Common.{◌≡◌, Bool, true, false, List, [], ◌∷◌, ◌++◌, map, Option, Some, None, Ok, Err, refl, sym, ap, ◌∙◌, append_assoc, append-nil, ℕ}
use Rattle.std.specs.List.{filter_map}
use Rattle.std.specs.Option.{option_map}
use Rattle.apl_base.specs.declared.faults.ErrorKind.{ErrorKind}
use Rattle.apl_base.specs.declared.faults.Place.{Place}
use Rattle.apl_base.specs.Array.{Array}
use Rattle.apl_model.specs.declared.scripts.Command.{Command}
use Rattle.apl_model.specs.declared.scripts.Command.TheVariants.{Vars, Fns, Erase, Origin}
use Rattle.apl_model.specs.Agreement.{mapped_outcome, CallsAgree, StatesAgree, ValuesAgree}
use Rattle.apl_model.specs.Call.{on_turn, calls_of}
use Rattle.apl_model.specs.Environment.{look_up}
use Rattle.apl_model.specs.Evaluation.{Calls, State, at_place, branch_by, branch_to, needed, of_arrays, origin_of, print_result, replace_in, replace_name, statement_flow, with_name, with_printed}
use Rattle.apl_model.specs.Frames.{result_in, with_call, with_ended}
use Rattle.apl_model.specs.Immediate.{Ending, well, reported, out_of_turns, Run, Step, statement_step, command_step, after_statement, definitions_of, obeyed, of_states, report, routine, run_steps, step_of}
use Rattle.apl_model.specs.Outcome.{Outcome, done, fails, spent, and_then, Flow, onwards}
use Rattle.apl_model.specs.Printed.{array_text}
use Rattle.apl_model.specs.Tree.{Definition}
use Rattle.apl_model.specs.Whole.{Answer, is_empty, is_text}
use Rattle.apl_model.proofs.Agreement.{option-same, options-same, runs_over_values_agree}
use Rattle.run_laws.specs.ItemRuns.{behind, from_here, go_on, run_of, RunsBehind, RunsGrow, RunsJoined}
use Rattle.apl_model_laws.proofs.Behind.{steps_joined}

-- ---- each of these does the same behind what was printed and ended before

abbrev outcome_behind : {A : Type 0} → State → Outcome State A → Outcome State A
outcome_behind b o = mapped_outcome (behind b) (λ a. a) o

needed_behind : (b : State) (place : Place) (a : Option Array) (s : State) → needed place a (behind b s) ≡ outcome_behind b (needed place a s)
needed_behind b place (Some a) s = refl
needed_behind b place None s = refl

at_behind : (b : State) (place : Place) (a : Answer) (s : State) → at_place place a (behind b s) ≡ outcome_behind b (at_place place a s)
at_behind b place (Ok a) s = refl
at_behind b place (Err e) s = refl

replaced_behind : (b : State) (name : List ℕ) (place : Place) (a : Answer) (v : Array) (s : State) →
    and_then (at_place place a (behind b s)) (λ x t. done v (with_name name x t)) ≡ outcome_behind b (and_then (at_place place a s) (λ x t. done v (with_name name x t)))
replaced_behind b name place (Ok a) v s = refl
replaced_behind b name place (Err e) v s = refl

printed_behind : (b : State) (more : List ℕ) (s : State) → with_printed more (behind b s) ≡ behind b (with_printed more s)
printed_behind b more s = ap (λ (x : List ℕ). record (behind b s) { printed = x }) (append_assoc b.printed s.printed more)

ended_behind : (b : State) (line number : ℕ) (s : State) → with_ended line number (behind b s) ≡ behind b (with_ended line number s)
ended_behind b line number s = ap (λ x. record (behind b s) { ended = x }) (append_assoc b.ended s.ended (record { line = line; begun = number } ∷ []))

shown_behind : (b : State) (a : Option Array) (s : State) → print_result a (behind b s) ≡ outcome_behind b (print_result a s)
shown_behind b (Some a) s = ap (λ t. done onwards t) (printed_behind b (array_text a) s)
shown_behind b None s = refl

branch_behind : (b : State) (place : Place) (a : Array) (s : State) → branch_to place a (behind b s) ≡ outcome_behind b (branch_to place a s)
branch_behind b place a s = by (is_empty a) (is_text a)
  where
    by : (e c : Bool) → branch_by e c a place (behind b s) ≡ outcome_behind b (branch_by e c a place s)
    by true c = refl
    by false true = refl
    by false false = refl

-- what is done with arrays
arrays_behind : (b : State) (calls others : Calls) → CallsAgree (behind b) (λ a. a) calls others → ValuesAgree (behind b) (λ a. a) (of_arrays calls) (of_arrays others)
arrays_behind b calls others c = record {
  literal = λ l s. refl;
  name = λ name place s. needed_behind b place (look_up s.variables name) s;
  apply1 = λ f v place s. at_behind b place _ s;
  apply2 = λ f a v place s. at_behind b place _ s;
  reduce = λ f axis v place s. at_behind b place _ s;
  outer = λ f a v place s. at_behind b place _ s;
  inner = λ f g a v place s. at_behind b place _ s;
  index = λ a ps place s. ap (λ qs. (of_arrays others).index a qs place (behind b s)) (options-same ps) ∙ at_behind b place _ s;
  assign = λ name a s. refl;
  replace = λ name ps v place s.
      ap (λ qs. replace_name name qs v place (behind b s)) (options-same ps) ∙ replaced_behind b name place (replace_in (origin_of s) (look_up s.variables name) ps v) v s;
  calls = c;
  print = λ a s. ap (λ t. done a t) (printed_behind b (array_text a) s);
  need = λ place a s. ap (λ x. needed place x (behind b s)) (option-same a) ∙ needed_behind b place a s;
  branch = λ place a s. branch_behind b place a s;
  show = λ a s. ap (λ x. print_result x (behind b s)) (option-same a) ∙ shown_behind b a s;
}

obeyed_behind : (b : State) (functions : List (List ℕ)) (c : Command) (s : State) → obeyed functions c (behind b s) ≡ behind b (obeyed functions c s)
obeyed_behind b functions Vars s = printed_behind b _ s
obeyed_behind b functions Fns s = printed_behind b _ s
obeyed_behind b functions (Erase names) s = refl
obeyed_behind b functions (Origin o) s = refl

-- and what turns, calls and commands do
states_behind : (b : State) → StatesAgree (behind b) (λ (a : Array). a) of_states of_states
states_behind b = record {
  turns = λ s. refl;
  begun = λ s. refl;
  begin = λ left s. refl;
  end = λ line number s. ended_behind b line number s;
  enter = λ header labels left right s.
      ap (λ l. with_call header labels l (option_map (λ a. a) right) (behind b s)) (option-same left) ∙ ap (λ r. with_call header labels left r (behind b s)) (option-same right);
  result = λ name s. sym (option-same (result_in s.variables name));
  leave = λ s. refl;
  unwind = λ s. refl;
  tell = λ more s. printed_behind b more s;
  obey = λ functions c s. obeyed_behind b functions c s;
}

pub runs_behind : RunsBehind
runs_behind script items ending b s =
    runs_over_values_agree State State Array Array (behind b) (λ a. a) of_states of_states of_arrays of_arrays (states_behind b) (arrays_behind b)
    (map routine (definitions_of script.items)) (map (λ (d : Definition). d.header.f) (definitions_of script.items)) (report script) (filter_map step_of items) ending s

-- a run from a state on is that from the state where all is told from there on
pub behind_itself : (s : State) → behind s (from_here s) ≡ s
behind_itself s = ap (λ (x : List ℕ). record s { printed = x; ended = s.ended ++ [] }) (append-nil s.printed) ∙ ap (λ x. record s { ended = x }) (append-nil s.ended)

pub runs_grow : RunsGrow
runs_grow script items ending s =
    let from : State = (run_of script items ending (from_here s)).state in
    let same : (run_of script items ending s).state ≡ behind s from =
    ap (λ t. (run_of script items ending t).state) (sym (behind_itself s)) ∙ ap (λ r. r.state) (runs_behind script items ending s (from_here s)) in
    record { from = from; printed = ap (λ t. t.printed) same; ended = ap (λ t. t.ended) same }

-- ---- items and others

module _ {T : Type 0} (flow_of : T → State → Outcome State Flow) (functions : List (List ℕ)) (report_of : ErrorKind → Place → List ℕ) where
  abbrev run : List (Step T) → Ending → State → Run State
  run = run_steps of_states flow_of functions report_of

  after-joined : (xs ys : List (Step T)) (ending : Ending) → ¬ (ending ≡ out_of_turns) → (o : Outcome State Flow)
      → ((e : Ending) (s : State) → ¬ (e ≡ out_of_turns) → run (xs ++ ys) e s ≡ go_on (run xs e s) (run ys))
      → after_statement of_states flow_of functions report_of ending o (run (xs ++ ys)) ≡ go_on (after_statement of_states flow_of functions report_of ending o (run xs)) (run ys)
  after-joined xs ys ending h (done a s) next = next ending s h
  after-joined xs ys ending h (fails kind place s) next = next reported _ (λ e. cc)
  after-joined xs ys ending h (spent s) next = refl

  run-joined : (xs ys : List (Step T)) (ending : Ending) (s : State) → ¬ (ending ≡ out_of_turns) → run (xs ++ ys) ending s ≡ go_on (run xs ending s) (run ys)
  run-joined [] ys well s h = refl
  run-joined [] ys reported s h = refl
  run-joined [] ys out_of_turns s h = absurd (h refl)
  run-joined (statement_step line st ∷ xs) ys ending s h = after-joined xs ys ending h (on_turn of_states line (flow_of st) s) (run-joined xs ys)
  run-joined (command_step c ∷ xs) ys ending s h = run-joined xs ys ending (obeyed functions c s) h

pub runs_joined : RunsJoined
runs_joined script xs ys ending s h =
    let definitions : List Definition = definitions_of script.items in
    let flow_of = statement_flow (calls_of of_states statement_flow (map routine definitions)) in
    let functions : List (List ℕ) = map (λ (d : Definition). d.header.f) definitions in
    ap (λ steps. run_steps of_states flow_of functions (report script) steps ending s) (steps_joined xs ys)
    ∙ run-joined flow_of functions (report script) (filter_map step_of xs) (filter_map step_of ys) ending s h
