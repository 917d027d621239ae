-- What holds between the state before and the state after each part of a run: one induction for every relation
-- that each step keeps.
use Rattle.std.proofs.Common.{◌≡◌, ℕ, zero, suc, ℤ, Bool, true, false, List, [], ◌∷◌, Option, Some, None, Ok, Err, refl, pos}
use Rattle.apl_base.specs.declared.faults.ErrorKind.{ErrorKind}
use Rattle.apl_base.specs.declared.faults.Place.{Place}
use Rattle.apl_base.specs.Array.{Array}
use Rattle.apl_model.specs.Call.{Routine, RoutineLine, entered, turn, on_turn, line_at, next_line, run_line, run_lines, run_routine, run_found, routine_of, call_within, labels_of}
use Rattle.apl_model.specs.Frames.{with_turn, with_ended, with_call, without_call, result_in}
use Rattle.apl_model.specs.Environment.{Environment, look_up}
use Rattle.apl_model.specs.Evaluation.{State, at_place, needed, origin_of, with_name, with_printed, replace_in, Calls, value_of, argument, positions_of, branch_by, branch_to, print_result, of_arrays, statement_flow}
use Rattle.apl_model.specs.Outcome.{Outcome, done, fails, spent, and_then, Flow}
use Rattle.apl_model.specs.Immediate.{of_states, Step, statement_step, command_step, obeyed, unwound, Ending, reported, Run, after_statement, run_steps}
use Rattle.apl_model.specs.Tree.{Tree, Slot, Positions, Statement}
use Rattle.apl_model.specs.Whole.{Answer, is_empty, is_text}
use Rattle.apl_model.specs.declared.scripts.Command.{Command}
use Rattle.apl_model.specs.declared.scripts.Command.TheVariants.{Vars, Fns, Erase, Origin}
use Rattle.apl_model.proofs.Every.{IsOfEach, every-value, every-argument, every-position, every-flow}
use Rattle.apl_model_laws.specs.Turns.{state_of}

-- a relation that each step of a run keeps
pub record IsKept (R : State → State → Type 0) : Type 0 where
  pub same : (s : State) → R s s
  pub onward : (s t u : State) → R s t → R t u → R s u
  pub variables : (s : State) (e : Environment Array) → R s (record s { variables = e })
  pub printed : (s : State) (text : List ℕ) → R s (with_printed text s)
  -- a statement that is begun and cut off
  pub cut : (s t : State) (left : ℕ) → s.turns ≡ suc left → R (with_turn left s) t → R s t
  -- a statement that is begun and ends
  pub over : (s t : State) (left line number : ℕ) → s.turns ≡ suc left → R (with_turn left s) t → R s (with_ended line number t)

pub record Leads (R : State → State → Type 0) {A : Type 0} (s : State) (o : Outcome State A) : Type 0 where
  pub to : R s (state_of o)

pub leads_then : {R : State → State → Type 0} → IsKept R → {A B : Type 0} {s : State} {o : Outcome State A} {next : A → State → Outcome State B} →
    Leads R s o → ((a : A) (t : State) → Leads R t (next a t)) → Leads R s (and_then o next)
leads_then k {s = s} {o = done a t} {next = next} h n = record { to = k.onward s t (state_of (next a t)) h.to (n a t).to }
leads_then k {o = fails kind place t} h n = record { to = h.to }
leads_then k {o = spent t} h n = record { to = h.to }

pub leads_needed : {R : State → State → Type 0} → IsKept R → (place : Place) (a : Option Array) (s : State) → Leads R s (needed place a s)
leads_needed k place (Some a) s = record { to = k.same s }
leads_needed k place None s = record { to = k.same s }

pub leads_at : {R : State → State → Type 0} → IsKept R → (place : Place) (a : Answer) (s : State) → Leads R s (at_place place a s)
leads_at k place (Ok a) s = record { to = k.same s }
leads_at k place (Err e) s = record { to = k.same s }

pub leads_done : {R : State → State → Type 0} → IsKept R → {A : Type 0} (a : A) (s : State) → Leads R s (done a s)
leads_done k a s = record { to = k.same s }

pub leads_name : {R : State → State → Type 0} → IsKept R → {A : Type 0} (b : A) (name : List ℕ) (a : Array) (s : State) → Leads R s (done b (with_name name a s))
leads_name k b name a s = record { to = k.variables s (with_name name a s).variables }

pub leads_print : {R : State → State → Type 0} → IsKept R → {A : Type 0} (b : A) (text : List ℕ) (s : State) → Leads R s (done b (with_printed text s))
leads_print k b text s = record { to = k.printed s text }

-- where a branch goes
pub leads_branch : {R : State → State → Type 0} → IsKept R → (place : Place) (a : Array) (s : State) → Leads R s (branch_to place a s)
leads_branch {R} k place a s = by (is_empty a) (is_text a)
  where
    by : (e c : Bool) → Leads R s (branch_by e c a place s)
    by true c = leads_done k _ s
    by false true = record { to = k.same s }
    by false false = leads_done k _ s

-- the value of a statement, if it has one, printed
pub leads_show : {R : State → State → Type 0} → IsKept R → (a : Option Array) (s : State) → Leads R s (print_result a s)
leads_show k (Some a) s = leads_print k _ _ s
leads_show k None s = leads_done k _ s

module _ (R : State → State → Type 0) (k : IsKept R) (calls : Calls)
    (kept : (f : List ℕ) (place : Place) (left right : Option Array) (s : State) → Leads R s (calls f place left right s)) where
  -- everything that is done with arrays keeps the relation
  each_leads : IsOfEach (of_arrays calls) (λ A s o. Leads R {A = A} s o)
  each_leads = record {
    literal = λ l s. leads_done k _ s;
    name = λ name place s. leads_needed k place _ s;
    apply1 = λ f b place s. leads_at k place _ s;
    apply2 = λ f a b place s. leads_at k place _ s;
    reduce = λ f axis b place s. leads_at k place _ s;
    outer = λ f a b place s. leads_at k place _ s;
    inner = λ f g a b place s. leads_at k place _ s;
    index = λ a ps place s. leads_at k place _ s;
    assign = λ name a s. leads_name k a name a s;
    replace = λ name ps b place s. leads_then k (leads_at k place (replace_in (origin_of s) (look_up s.variables name) ps b) s) (λ a t. leads_name k b name a t);
    calls = kept;
    print = λ a s. leads_print k a _ s;
    need = leads_needed k;
    branch = leads_branch k;
    show = leads_show k;
  }

  pub leads_value : (t : Tree) (s : State) → Leads R s (value_of calls t s)
  leads_value t s = every-value (of_arrays calls) (λ A s o. Leads R {A = A} s o) (λ A a s. leads_done k a s) (λ A B s o next h n. leads_then k h n) each_leads t s

  pub leads_argument : (q : Slot) (s : State) → Leads R s (argument calls q s)
  leads_argument q s = every-argument (of_arrays calls) (λ A s o. Leads R {A = A} s o) (λ A a s. leads_done k a s) (λ A B s o next h n. leads_then k h n) each_leads q s

  pub leads_positions : (qs : Positions) (s : State) → Leads R s (positions_of calls qs s)
  leads_positions qs s = every-position (of_arrays calls) (λ A s o. Leads R {A = A} s o) (λ A a s. leads_done k a s) (λ A B s o next h n. leads_then k h n) each_leads qs s

  pub leads_statement : (t : Statement) (s : State) → Leads R s (statement_flow calls t s)
  leads_statement t s = every-flow (of_arrays calls) (λ A s o. Leads R {A = A} s o) (λ A a s. leads_done k a s) (λ A B s o next h n. leads_then k h n) each_leads t s

-- ---- calls

pub leads_turn : {R : State → State → Type 0} → IsKept R → {A : Type 0} (line : ℕ) (act : State → Outcome State A) →
    ((s : State) → Leads R s (act s)) → (n : ℕ) (s : State) → s.turns ≡ n → Leads R s (turn of_states line n act s)
leads_turn k line act h zero s e = record { to = k.same s }
leads_turn {R} k {A} line act h (suc left) s e = ends (act (with_turn left s)) (h (with_turn left s)).to
  where
    ends : (o : Outcome State A) → R (with_turn left s) (state_of o) → Leads R s (entered of_states line (suc s.begun) o)
    ends (done a t) r = record { to = k.over s t left line (suc s.begun) e r }
    ends (fails kind place t) r = record { to = k.over s t left line (suc s.begun) e r }
    ends (spent t) r = record { to = k.cut s t left e r }

module _ (S : Type 0) (meaning : Calls → S → State → Outcome State Flow) (R : State → State → Type 0) (k : IsKept R)
    (means : (calls : Calls) → ((f : List ℕ) (place : Place) (left right : Option Array) (s : State) → Leads R s (calls f place left right s)) →
    (st : S) (s : State) → Leads R s (meaning calls st s)) where
  module _ (calls : Calls) (kept : (f : List ℕ) (place : Place) (left right : Option Array) (s : State) → Leads R s (calls f place left right s)) where
    leads_line : (l : Option (RoutineLine S)) (s : State) (next : Flow → State → Outcome State (Unit {0})) →
        ((flow : Flow) (t : State) → Leads R t (next flow t)) → Leads R s (run_line of_states meaning calls l s next)
    leads_line None s next h = leads_done k tt s
    leads_line (Some l) s next h = leads_then k (leads_turn k l.line (meaning calls l.statement) (means calls kept l.statement) s.turns s refl) h

    pub leads_lines : (body : List (RoutineLine S)) (n : ℕ) (i : ℤ) (s : State) → Leads R s (run_lines of_states meaning calls body n i s)
    leads_lines body zero i s = leads_line (line_at body i) s (λ flow t. spent t) (λ flow t. record { to = k.same t })
    leads_lines body (suc n) i s =
        leads_line (line_at body i) s (λ flow t. run_lines of_states meaning calls body n (next_line i flow) t) (λ flow t. leads_lines body n (next_line i flow) t)

    leads_routine : (r : Routine S) (left right : Option Array) (s : State) → Leads R s (run_routine of_states meaning calls r left right s)
    leads_routine r left right s =
        let inside = with_call r.header (labels_of r.body) left right s in
        let lines : Leads R inside (run_lines of_states meaning calls r.body s.turns (pos 1) inside) = leads_lines r.body s.turns (pos 1) inside in
        let all : Leads R inside (and_then (run_lines of_states meaning calls r.body s.turns (pos 1) inside) (λ _ t. done (result_in t.variables r.header.result) (without_call t))) =
        leads_then k lines (λ _ t. record { to = k.variables t (without_call t).variables }) in
        record { to = k.onward s inside _ (k.variables s inside.variables) all.to }

    pub leads_found : (r : Option (Routine S)) (place : Place) (left right : Option Array) (s : State) → Leads R s (run_found of_states meaning calls r place left right s)
    leads_found None place left right s = record { to = k.same s }
    leads_found (Some r) place left right s = leads_routine r left right s

  pub leads_call : (routines : List (Routine S)) (n : ℕ) (f : List ℕ) (place : Place) (left right : Option Array) (s : State) →
      Leads R s (call_within of_states meaning routines n f place left right s)
  leads_call routines zero f place left right s = record { to = k.same s }
  leads_call routines (suc n) f place left right s =
      leads_found (call_within of_states meaning routines n) (leads_call routines n) (routine_of routines f) place left right s

-- ---- runs

module _ (S : Type 0) (flow_of : S → State → Outcome State Flow) (functions : List (List ℕ)) (report_of : ErrorKind → Place → List ℕ)
    (R : State → State → Type 0) (k : IsKept R) (means : (st : S) (s : State) → Leads R s (flow_of st s)) where
  obeyed_kept : (c : Command) (s : State) → R s (obeyed functions c s)
  obeyed_kept Vars s = k.printed s _
  obeyed_kept Fns s = k.printed s _
  obeyed_kept (Erase names) s = k.variables s (obeyed functions (Erase names) s).variables
  obeyed_kept (Origin o) s = k.variables s (obeyed functions (Origin o) s).variables

  after_kept : {A : Type 0} (ending : Ending) (s : State) (o : Outcome State A) (next : Ending → State → Run State) → Leads R s o →
      ((e : Ending) (t : State) → R t (next e t).state) → R s (after_statement of_states flow_of functions report_of ending o next).state
  after_kept ending s (done a t) next h n = k.onward s t _ h.to (n ending t)
  after_kept ending s (fails kind place t) next h n =
      k.onward s t _ h.to (k.onward t (unwound t) _ (k.variables t (unwound t).variables)
      (k.onward (unwound t) (with_printed (report_of kind place) (unwound t)) _ (k.printed (unwound t) (report_of kind place)) (n reported _)))
  after_kept ending s (spent t) next h n = k.onward s t _ h.to (k.variables t (unwound t).variables)

  pub run_kept : (steps : List (Step S)) (ending : Ending) (s : State) → R s (run_steps of_states flow_of functions report_of steps ending s).state
  run_kept [] ending s = k.same s
  run_kept (statement_step line st ∷ steps) ending s =
      after_kept ending s (on_turn of_states line (flow_of st) s) (run_steps of_states flow_of functions report_of steps)
      (leads_turn k line (flow_of st) (means st) s.turns s refl) (run_kept steps)
  run_kept (command_step c ∷ steps) ending s = k.onward s (obeyed functions c s) _ (obeyed_kept c s) (run_kept steps ending (obeyed functions c s))
