-- What is spent has no turns left.
use Rattle.std.proofs.Common.{◌≡◌, ℕ, zero, suc, ◌<◌, ◌≤◌, ℤ, pos, Bool, true, false, List, [], ◌∷◌, map, Option, Some, None, Ok, Err, refl, arith}
use Rattle.std.specs.List.{filter_map}
use Rattle.apl_base.specs.declared.faults.ErrorKind.{ErrorKind}
use Rattle.apl_base.specs.declared.faults.Place.{Place}
use Rattle.apl_base.specs.Array.{Array}
use Rattle.apl_model.specs.Call.{Routine, RoutineLine, labels_of, entered, turn, on_turn, line_at, next_line, run_line, run_lines, run_found, routine_of, call_within, calls_of}
use Rattle.apl_model.specs.Evaluation.{State, at_place, needed, origin_of, replace_in, Calls, branch_by, branch_to, print_result, of_arrays, statement_flow}
use Rattle.apl_model.specs.Environment.{look_up}
use Rattle.apl_model.specs.Frames.{with_turn, with_call}
use Rattle.apl_model.specs.Immediate.{of_states, Step, statement_step, command_step, Ending, reported, out_of_turns, well, Run, after_statement, run_steps, run_items, step_of, definitions_of, routine, report, beginning, obeyed}
use Rattle.apl_model.specs.Outcome.{Outcome, done, fails, spent, and_then, Flow}
use Rattle.apl_model.specs.Tree.{Statement, Definition}
use Rattle.apl_model.specs.Whole.{Answer, is_empty, is_text}
use Rattle.apl_model.proofs.Every.{IsOfEach, every-value, every-position, every-flow}
use Rattle.apl_model_laws.specs.Turns.{TakesTurns, IsSpentOut, CallsSpendAll, ExpressionsSpendAll, PositionsSpendAll, StatementsSpendAll, FunctionsSpendAll, RunsSpendAll}
use Rattle.apl_model_laws.proofs.Kept.{Leads, leads_statement}
use Rattle.apl_model_laws.proofs.Counted.{turns_kept, runs_keep_turns}
use Rattle.apl_model_laws.proofs.Onwards.{turn-fewer, calls-take}

-- an outcome that is spent, if at all, with no turns left
record Out {A : Type 0} (o : Outcome State A) : Type 0 where
  pub out : IsSpentOut o

-- where a value comes, what follows decides
out_value : {A B : Type 0} (o : Outcome State A) (next : A → State → Outcome State B) → Out o → ((a : A) (t : State) → o ≡ done a t → Out (next a t)) → Out (and_then o next)
out_value (done a t) next h n = n a t refl
out_value (fails kind place t) next h n = record { out = tt }
out_value (spent t) next h n = record { out = h.out }

out_needed : (place : Place) (a : Option Array) (s : State) → Out (needed place a s)
out_needed place (Some a) s = record { out = tt }
out_needed place None s = record { out = tt }

out_at : (place : Place) (a : Answer) (s : State) → Out (at_place place a s)
out_at place (Ok a) s = record { out = tt }
out_at place (Err e) s = record { out = tt }

out_branch : (place : Place) (a : Array) (s : State) → Out (branch_to place a s)
out_branch place a s = by (is_empty a) (is_text a)
  where
    by : (e c : Bool) → Out (branch_by e c a place s)
    by true c = record { out = tt }
    by false true = record { out = tt }
    by false false = record { out = tt }

out_show : (a : Option Array) (s : State) → Out (print_result a s)
out_show (Some a) s = record { out = tt }
out_show None s = record { out = tt }

abbrev IsOut : (A : Type 0) → State → Outcome State A → Type 0
IsOut A s o = Out o

module _ (calls : Calls) (h : CallsSpendAll calls) where
  -- it holds of everything that is done with arrays
  each_out : IsOfEach (of_arrays calls) IsOut
  each_out = record {
    literal = λ l s. record { out = tt };
    name = λ name place s. out_needed place _ s;
    apply1 = λ f b place s. out_at place _ s;
    apply2 = λ f a b place s. out_at place _ s;
    reduce = λ f axis b place s. out_at place _ s;
    outer = λ f a b place s. out_at place _ s;
    inner = λ f g a b place s. out_at place _ s;
    index = λ a ps place s. out_at place _ s;
    assign = λ name a s. record { out = tt };
    replace = λ name ps b place s. out_value (at_place place (replace_in (origin_of s) (look_up s.variables name) ps b) s) _ (out_at place _ s) (λ a t e. record { out = tt });
    calls = λ f place left right s. record { out = h f place left right s };
    print = λ a s. record { out = tt };
    need = out_needed;
    branch = out_branch;
    show = out_show;
  }

pub expressions_spend_all : ExpressionsSpendAll
expressions_spend_all calls h t s =
    (every-value (of_arrays calls) IsOut (λ A a s. record { out = tt }) (λ A B s o next p n. out_value o next p (λ a t e. n a t)) (each_out calls h) t s).out

pub positions_spend_all : PositionsSpendAll
positions_spend_all calls h qs s =
    (every-position (of_arrays calls) IsOut (λ A a s. record { out = tt }) (λ A B s o next p n. out_value o next p (λ a t e. n a t)) (each_out calls h) qs s).out

pub statements_spend_all : StatementsSpendAll
statements_spend_all calls h t s =
    (every-flow (of_arrays calls) IsOut (λ A a s. record { out = tt }) (λ A B s o next p n. out_value o next p (λ a t e. n a t)) (each_out calls h) t s).out

-- ---- calls

-- a turn
turn-out : {A : Type 0} (line : ℕ) (act : State → Outcome State A) → ((s : State) → Out (act s)) → (n : ℕ) (s : State) → s.turns ≡ n → Out (turn of_states line n act s)
turn-out line act h zero s e = record { out = e }
turn-out {A} line act h (suc left) s e = ends (act (with_turn left s)) (h (with_turn left s))
  where
    ends : (o : Outcome State A) → Out o → Out (entered of_states line (suc s.begun) o)
    ends (done a t) k = record { out = tt }
    ends (fails kind place t) k = record { out = tt }
    ends (spent t) k = record { out = k.out }

module _ (calls : Calls) (h : CallsSpendAll calls) (takes : (f : List ℕ) (place : Place) (left right : Option Array) (s : State) → Leads TakesTurns s (calls f place left right s)) where
  -- a line, and what follows it where fewer turns are left
  line-out : (l : Option (RoutineLine Statement)) (s : State) (next : Flow → State → Outcome State (Unit {0})) →
      ((flow : Flow) (t : State) → t.turns < s.turns → Out (next flow t)) → Out (run_line of_states statement_flow calls l s next)
  line-out None s next n = record { out = tt }
  line-out (Some l) s next n =
      let act : State → Outcome State Flow = statement_flow calls l.statement in
      out_value (on_turn of_states l.line act s) next
      (turn-out l.line act (λ t. record { out = statements_spend_all calls h l.statement t }) s.turns s refl)
      (λ flow t e. n flow t (turn-fewer l.line act (leads_statement TakesTurns turns_kept calls takes l.statement) s.turns s refl flow t e))

  -- there are as many lines as turns, so no line is missed while turns are left
  lines-out : (body : List (RoutineLine Statement)) (n : ℕ) (i : ℤ) (s : State) → s.turns ≤ n → Out (run_lines of_states statement_flow calls body n i s)
  lines-out body zero i s p = line-out (line_at body i) s (λ flow t. spent t) (λ flow t l. absurd (omega (arith, l, p)))
  lines-out body (suc n) i s p =
      line-out (line_at body i) s (λ flow t. run_lines of_states statement_flow calls body n (next_line i flow) t)
      (λ flow t l. lines-out body n (next_line i flow) t (omega (arith, l, p)))

  -- a call of a function
  found-out : (r : Option (Routine Statement)) (place : Place) (left right : Option Array) (s : State) → Out (run_found of_states statement_flow calls r place left right s)
  found-out None place left right s = record { out = tt }
  found-out (Some r) place left right s =
      let inside : State = with_call r.header (labels_of r.body) left right s in
      out_value (run_lines of_states statement_flow calls r.body s.turns (pos 1) inside) _ (lines-out r.body s.turns (pos 1) inside (omega arith)) (λ u t e. record { out = tt })

pub functions_spend_all : FunctionsSpendAll
functions_spend_all routines zero f place left right s = tt
functions_spend_all routines (suc n) f place left right s =
    (found-out (call_within of_states statement_flow routines n) (functions_spend_all routines n) (calls-take routines n) (routine_of routines f) place left right s).out

-- ---- runs

-- a run that is out of turns has none left
record OutRun (r : Run State) : Type 0 where
  pub out : r.ending ≡ out_of_turns → r.state.turns ≡ 0

module _ (flow_of : Statement → State → Outcome State Flow) (functions : List (List ℕ)) (report_of : ErrorKind → Place → List ℕ)
    (h : (st : Statement) (s : State) → Out (flow_of st s)) where
  -- what follows a statement
  after-out : (ending : Ending) (o : Outcome State Flow) (next : Ending → State → Run State) → Out o → ((t : State) → OutRun (next ending t)) → ((t : State) → OutRun (next reported t)) →
      OutRun (after_statement of_states flow_of functions report_of ending o next)
  after-out ending (done a t) next k n m = n t
  after-out ending (fails kind place t) next k n m = m _
  after-out ending (spent t) next k n m = record { out = λ e. k.out }

  -- statements and commands in order
  steps-out : (steps : List (Step Statement)) (ending : Ending) (s : State) → (ending ≡ out_of_turns → ⊥) → OutRun (run_steps of_states flow_of functions report_of steps ending s)
  steps-out [] ending s k = record { out = λ e. absurd (k e) }
  steps-out (statement_step line st ∷ steps) ending s k =
      after-out ending (on_turn of_states line (flow_of st) s) (run_steps of_states flow_of functions report_of steps)
      (turn-out line (flow_of st) (h st) s.turns s refl) (λ t. steps-out steps ending t k) (λ t. steps-out steps reported t (λ e. cc))
  steps-out (command_step c ∷ steps) ending s k = steps-out steps ending (obeyed functions c s) k

pub runs_spend_all : RunsSpendAll
runs_spend_all script items n e =
    let definitions : List Definition = definitions_of script.items in
    let routines : List (Routine Statement) = map routine definitions in
    let calls : Calls = calls_of of_states statement_flow routines in
    let left : (run_items script items n).state.turns ≡ 0 =
    (steps-out (statement_flow calls) (map (λ d. d.header.f) definitions) (report script)
    (λ st s. record { out = statements_spend_all calls (functions_spend_all routines 256) st s }) (filter_map step_of items) well (beginning n) (λ e. cc)).out e in
    let within = runs_keep_turns script items n in
    record { turns = left; begun = omega (arith, within.turns, left) }
