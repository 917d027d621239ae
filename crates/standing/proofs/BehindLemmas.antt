-- A statement does the same whatever was printed and entered before it.
use Rattle.std.proofs.Common.{◌≡◌, ℕ, zero, suc, Bool, true, false, List, [], ◌∷◌, map, Option, Some, None, Ok, Err, refl, sym, subst, ap, ◌∙◌, append_assoc}
use Rattle.std.specs.Option.{option_map}
use Rattle.apl_base.specs.declared.faults.Place.{Place}
use Rattle.apl_base.specs.Array.{Array}
use Rattle.apl_model.specs.declared.scripts.Command.{Command}
use Rattle.apl_model.specs.declared.scripts.Command.TheVariants.{Vars, Fns, Erase, Origin}
use Rattle.apl_model.specs.Agreement.{CallsAgree, ValuesAgree, StatesAgree, MeaningsAgree, mapped_outcome, mapped_flow}
use Rattle.apl_model.specs.Call.{Routine, turn, entered, call_within, calls_of}
use Rattle.apl_model.specs.Frames.{with_call, with_turn, result_in}
use Rattle.apl_model.specs.Environment.{look_up}
use Rattle.apl_model.specs.Evaluation.{State, Ended, at_place, needed, origin_of, with_name, with_printed, replace_in, replace_name, Calls, branch_by, branch_to, print_result, of_arrays, statement_flow}
use Rattle.apl_model.specs.Outcome.{Outcome, done, fails, spent, and_then, onwards}
use Rattle.apl_model.specs.Immediate.{of_states, obeyed, definitions_of, routine}
use Rattle.apl_model.specs.Printed.{array_text}
use Rattle.apl_model.specs.Tree.{Statement}
use Rattle.apl_model.specs.Whole.{Answer, is_empty, is_text}
use Rattle.apl_model.proofs.Agreement.{option-same, options-same, routines-same, statements_agree, functions_agree}
use Rattle.standing.specs.Behind.{behind, EvaluatedBehind}

-- what comes of a part of a run, after this text and these ended statements
abbrev after : {A : Type 0} → List ℕ → List Ended → Outcome State A → Outcome State A
after text earlier o = mapped_outcome (behind text earlier) (λ a. a) o

-- each of these does the same after more text
needed_behind : (text : List ℕ) (earlier : List Ended) (place : Place) (a : Option Array) (s : State) → needed place a (behind text earlier s) ≡ after text earlier (needed place a s)
needed_behind text earlier place (Some a) s = refl
needed_behind text earlier place None s = refl

at_behind : (text : List ℕ) (earlier : List Ended) (place : Place) (a : Answer) (s : State) → at_place place a (behind text earlier s) ≡ after text earlier (at_place place a s)
at_behind text earlier place (Ok a) s = refl
at_behind text earlier place (Err e) s = refl

replaced_behind : (text : List ℕ) (earlier : List Ended) (name : List ℕ) (place : Place) (a : Answer) (b : Array) (s : State) →
    and_then (at_place place a (behind text earlier s)) (λ x t. done b (with_name name x t)) ≡ after text earlier (and_then (at_place place a s) (λ x t. done b (with_name name x t)))
replaced_behind text earlier name place (Ok a) b s = refl
replaced_behind text earlier name place (Err e) b s = refl

printed_behind : (text : List ℕ) (earlier : List Ended) (more : List ℕ) (s : State) → with_printed more (behind text earlier s) ≡ behind text earlier (with_printed more s)
printed_behind text earlier more s = ap (λ (x : List ℕ). record (behind text earlier s) { printed = x }) (append_assoc text s.printed more)

shown_behind : (text : List ℕ) (earlier : List Ended) (a : Option Array) (s : State) → print_result a (behind text earlier s) ≡ after text earlier (print_result a s)
shown_behind text earlier (Some a) s = ap (λ t. done onwards t) (printed_behind text earlier (array_text a) s)
shown_behind text earlier None s = refl

branch_behind : (text : List ℕ) (earlier : List Ended) (place : Place) (a : Array) (s : State) → branch_to place a (behind text earlier s) ≡ after text earlier (branch_to place a s)
branch_behind text earlier place a s = by (is_empty a) (is_text a)
  where
    by : (e c : Bool) → branch_by e c a place (behind text earlier s) ≡ after text earlier (branch_by e c a place s)
    by true c = refl
    by false true = refl
    by false false = refl

-- what is done with arrays doesn't depend on what was printed before
arrays_behind : (text : List ℕ) (earlier : List Ended) (calls others : Calls) → CallsAgree (behind text earlier) (λ a. a) calls others → ValuesAgree (behind text earlier) (λ a. a) (of_arrays calls) (of_arrays others)
arrays_behind text earlier calls others c = record {
  literal = λ l s. refl;
  name = λ name place s. needed_behind text earlier place (look_up s.variables name) s;
  apply1 = λ f b place s. at_behind text earlier place _ s;
  apply2 = λ f a b place s. at_behind text earlier place _ s;
  reduce = λ f axis b place s. at_behind text earlier place _ s;
  outer = λ f a b place s. at_behind text earlier place _ s;
  inner = λ f g a b place s. at_behind text earlier place _ s;
  index = λ a ps place s. ap (λ qs. (of_arrays others).index a qs place (behind text earlier s)) (options-same ps) ∙ at_behind text earlier place _ s;
  assign = λ name a s. refl;
  replace = λ name ps b place s.
      ap (λ qs. replace_name name qs b place (behind text earlier s)) (options-same ps) ∙ replaced_behind text earlier name place (replace_in (origin_of s) (look_up s.variables name) ps b) b s;
  calls = c;
  print = λ a s. ap (λ t. done a t) (printed_behind text earlier (array_text a) s);
  need = λ place a s. ap (λ x. needed place x (behind text earlier s)) (option-same a) ∙ needed_behind text earlier place a s;
  branch = λ place a s. branch_behind text earlier place a s;
  show = λ a s. ap (λ x. print_result x (behind text earlier s)) (option-same a) ∙ shown_behind text earlier a s;
}

obeyed_behind : (text : List ℕ) (earlier : List Ended) (functions : List (List ℕ)) (c : Command) (s : State) → obeyed functions c (behind text earlier s) ≡ behind text earlier (obeyed functions c s)
obeyed_behind text earlier functions Vars s = printed_behind text earlier _ s
obeyed_behind text earlier functions Fns s = printed_behind text earlier _ s
obeyed_behind text earlier functions (Erase names) s = refl
obeyed_behind text earlier functions (Origin o) s = refl

-- and neither does what turns, calls and commands do
states_behind : (text : List ℕ) (earlier : List Ended) → StatesAgree (behind text earlier) (λ (a : Array). a) of_states of_states
states_behind text earlier = record {
  turns = λ s. refl;
  begun = λ s. refl;
  begin = λ left s. refl;
  end = λ line number s. ap (λ (x : List Ended). record (behind text earlier s) { ended = x }) (append_assoc earlier s.ended (record { line = line; begun = number } ∷ []));
  enter = λ header labels left right s.
      ap (λ l. with_call header labels l (option_map (λ a. a) right) (behind text earlier s)) (option-same left) ∙ ap (λ r. with_call header labels left r (behind text earlier s)) (option-same right);
  result = λ name s. sym (option-same (result_in s.variables name));
  leave = λ s. refl;
  unwind = λ s. refl;
  tell = λ more s. printed_behind text earlier more s;
  obey = λ functions c s. obeyed_behind text earlier functions c s;
}

-- the calls of functions do the same
functions_behind : (text : List ℕ) (earlier : List Ended) (routines : List (Routine Statement)) (n : ℕ) → CallsAgree (behind text earlier) (λ (a : Array). a) (call_within of_states statement_flow routines n) (call_within of_states statement_flow routines n)
functions_behind text earlier routines n =
    let m : MeaningsAgree (behind text earlier) (λ (a : Array). a) (λ (p : Statement). p) statement_flow statement_flow = record {
      agree = λ calls others c p s. statements_agree State State Array Array (behind text earlier) (λ a. a) (of_arrays calls) (of_arrays others) (arrays_behind text earlier calls others c) p s;
    } in
    let calls : Calls = call_within of_states statement_flow routines n in
    subst (λ (rs : List (Routine Statement)). CallsAgree (behind text earlier) (λ (a : Array). a) calls (call_within of_states statement_flow rs n)) (routines-same routines)
    (functions_agree State State Array Array Statement Statement (behind text earlier) (λ a. a) (λ p. p) of_states of_states statement_flow statement_flow (states_behind text earlier) m routines n)

entered_behind : {A : Type 0} (text : List ℕ) (earlier : List Ended) (line number : ℕ) (o : Outcome State A) → entered of_states line number (after text earlier o) ≡ after text earlier (entered of_states line number o)
entered_behind text earlier line number (done a s) = ap (λ (t : State). done a t) ((states_behind text earlier).end line number s)
entered_behind text earlier line number (fails kind place s) = ap (λ (t : State). fails kind place t) ((states_behind text earlier).end line number s)
entered_behind text earlier line number (spent s) = refl

pub evaluated_behind : EvaluatedBehind
evaluated_behind script line statement text earlier s = by s.turns
  where
    calls : Calls
    calls = calls_of of_states statement_flow (map routine (definitions_of script.items))

    by : (n : ℕ) → turn of_states line n (statement_flow calls statement) (behind text earlier s) ≡ mapped_flow (behind text earlier) (turn of_states line n (statement_flow calls statement) s)
    by zero = refl
    by (suc left) =
        ap (entered of_states line (suc s.begun)) (statements_agree State State Array Array (behind text earlier) (λ a. a) (of_arrays calls) (of_arrays calls) (arrays_behind text earlier calls calls (functions_behind text earlier (map routine (definitions_of script.items)) 256)) statement (with_turn left s))
        ∙ entered_behind text earlier line (suc s.begun) (statement_flow calls statement (with_turn left s))
