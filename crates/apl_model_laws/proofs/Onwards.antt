-- A part of a run with more turns goes on where one with fewer is spent.
use Rattle.std.proofs.Common.{◌≡◌, ℕ, zero, suc, ◌+◌, ◌<◌, ◌≤◌, ℤ, Bool, true, false, List, [], ◌∷◌, map, Option, Some, None, Ok, Err, refl, sym, ap, subst, arith, pos}
use Rattle.std.specs.List.{filter_map}
use Rattle.apl_base.specs.declared.faults.ErrorKind.{ErrorKind}
use Rattle.apl_base.specs.declared.faults.Place.{Place}
use Rattle.apl_base.specs.Array.{Array}
use Rattle.apl_model.specs.Call.{Routine, RoutineLine, entered, turn, on_turn, line_at, next_line, run_line, run_lines, run_found, routine_of, call_within, calls_of, labels_of}
use Rattle.apl_model.specs.Frames.{with_turn, with_ended, with_call, without_call, result_in}
use Rattle.apl_model.specs.Environment.{look_up}
use Rattle.apl_model.specs.Evaluation.{State, at_place, needed, origin_of, with_printed, replace_in, Calls, value_of, argument, positions_of, branch_by, branch_to, print_result, of_arrays, statement_flow}
use Rattle.apl_model.specs.Order.{silently, show_value, expression_in}
use Rattle.apl_model.specs.Outcome.{Outcome, done, fails, spent, and_then, Flow}
use Rattle.apl_model.specs.Immediate.{of_states, Step, statement_step, command_step, obeyed, unwound, Ending, reported, well, out_of_turns, Run, after_statement, run_steps, step_of, definitions_of, routine, report, beginning}
use Rattle.apl_model.specs.Tree.{Tree, Slot, Positions, Statement, Definition, constant, variable, call, parenthesis, monadic, dyadic, reduction, outer_product, inner_product, subscript, assignment, indexed_assignment, output, elided, given, no_position, position, nothing, branch, expression}
use Rattle.apl_model.specs.Whole.{Answer, is_empty, is_text}
use Rattle.apl_model.specs.declared.scripts.Command.{Command}
use Rattle.apl_model.specs.declared.scripts.Command.TheVariants.{Vars, Fns, Erase, Origin}
use Rattle.apl_model_laws.specs.Turns.{state_of, TakesTurns}
use Rattle.apl_model_laws.specs.Longer.{with_more, IsContinued, FunctionsGoOn, IsContinuedBy, RunsGoOn}
use Rattle.apl_model_laws.proofs.Kept.{Leads, leads_then, leads_needed, leads_at, leads_done, leads_name, leads_print, leads_value, leads_argument, leads_positions, leads_statement, leads_turn, leads_lines, leads_call, run_kept}
use Rattle.apl_model_laws.proofs.Counted.{Grows, printed_kept, turns_kept}

-- the outcome with k more turns
pub record Later (k : ℕ) {A : Type 0} (o o' : Outcome State A) : Type 0 where
  pub is : IsContinued k o o'

then_grows : {A B : Type 0} (o : Outcome State A) (next : A → State → Outcome State B) → ((a : A) (t : State) → Leads Grows t (next a t)) → Grows (state_of o) (state_of (and_then o next))
then_grows (done a t) next g = (g a t).to
then_grows (fails kind place t) next g = printed_kept.same t
then_grows (spent t) next g = printed_kept.same t

-- after a part that gave a value, the next one; it is told where the value came from
later_next : {k : ℕ} {A B : Type 0} (o o' : Outcome State A) (next next' : A → State → Outcome State B) → Later k o o' →
    ((a : A) (t : State) → o ≡ done a t → Later k (next a t) (next' a (with_more k t))) → ((a : A) (t : State) → Leads Grows t (next' a t)) →
    Later k (and_then o next) (and_then o' next')
later_next {k} (done a t) o' next next' h n g = subst (λ x. Later k (next a t) (and_then x next')) (sym h.is) (n a t refl)
later_next {k} (fails kind place t) o' next next' h n g = record { is = ap (λ x. and_then x next') h.is }
later_next {k} (spent t) o' next next' h n g =
    let first : Grows t (state_of o') = record { grows = h.is } in
    record { is = (printed_kept.onward t (state_of o') (state_of (and_then o' next')) first (then_grows o' next' g)).grows }

later_then : {k : ℕ} {A B : Type 0} {o o' : Outcome State A} {next : A → State → Outcome State B} → Later k o o' →
    ((a : A) (t : State) → Later k (next a t) (next a (with_more k t))) → ((a : A) (t : State) → Leads Grows t (next a t)) →
    Later k (and_then o next) (and_then o' next)
later_then {o = o} {o' = o'} {next = next} h n g = later_next o o' next next h (λ a t e. n a t) g

needed-later : (k : ℕ) (place : Place) (a : Option Array) (s : State) → Later k (needed place a s) (needed place a (with_more k s))
needed-later k place (Some a) s = record { is = refl }
needed-later k place None s = record { is = refl }

at-later : (k : ℕ) (place : Place) (a : Answer) (s : State) → Later k (at_place place a s) (at_place place a (with_more k s))
at-later k place (Ok a) s = record { is = refl }
at-later k place (Err e) s = record { is = refl }

module _ (k : ℕ) (calls : Calls) (later : (f : List ℕ) (place : Place) (left right : Option Array) (s : State) → Later k (calls f place left right s) (calls f place left right (with_more k s)))
    (grows : (f : List ℕ) (place : Place) (left right : Option Array) (s : State) → Leads Grows s (calls f place left right s)) where
  value-grows : (t : Tree) (s : State) → Leads Grows s (value_of calls t s)
  value-grows t s = leads_value Grows printed_kept calls grows t s

  argument-grows : (q : Slot) (s : State) → Leads Grows s (argument calls q s)
  argument-grows q s = leads_argument Grows printed_kept calls grows q s

  at-grows : (place : Place) (a : Answer) (s : State) → Leads Grows s (at_place place a s)
  at-grows place a s = leads_at printed_kept place a s

  mutual
    value-later : (t : Tree) (s : State) → Later k (value_of calls t s) (value_of calls t (with_more k s))
    value-later (constant literal place) s = record { is = refl }
    value-later (variable name place) s = needed-later k place (look_up s.variables name) s
    value-later (call f left right place) s =
        later_then (argument-later right s)
        (λ b t. later_then (argument-later left t) (λ a u. later_then (later f place a b u) (needed-later k place) (leads_needed printed_kept place))
        (λ a u. leads_then printed_kept (grows f place a b u) (leads_needed printed_kept place)))
        (λ b t. leads_then printed_kept (argument-grows left t) (λ a u. leads_then printed_kept (grows f place a b u) (leads_needed printed_kept place)))
    value-later (parenthesis inside place) s = value-later inside s
    value-later (monadic f right place) s = later_then (value-later right s) (λ b t. at-later k place _ t) (λ b t. at-grows place _ t)
    value-later (dyadic f left right place) s =
        later_then (value-later right s) (λ b t. later_then (value-later left t) (λ a u. at-later k place _ u) (λ a u. at-grows place _ u))
        (λ b t. leads_then printed_kept (value-grows left t) (λ a u. at-grows place _ u))
    value-later (reduction f axis right place) s = later_then (value-later right s) (λ b t. at-later k place _ t) (λ b t. at-grows place _ t)
    value-later (outer_product f left right place) s =
        later_then (value-later right s) (λ b t. later_then (value-later left t) (λ a u. at-later k place _ u) (λ a u. at-grows place _ u))
        (λ b t. leads_then printed_kept (value-grows left t) (λ a u. at-grows place _ u))
    value-later (inner_product f g left right place) s =
        later_then (value-later right s) (λ b t. later_then (value-later left t) (λ a u. at-later k place _ u) (λ a u. at-grows place _ u))
        (λ b t. leads_then printed_kept (value-grows left t) (λ a u. at-grows place _ u))
    value-later (subscript array ps place) s =
        later_then (positions-later ps s) (λ vs t. later_then (value-later array t) (λ a u. at-later k place _ u) (λ a u. at-grows place _ u))
        (λ vs t. leads_then printed_kept (value-grows array t) (λ a u. at-grows place _ u))
    value-later (assignment name value place) s =
        later_then (value-later value s) (λ a t. record { is = refl }) (λ a t. leads_name printed_kept a name a t)
    value-later (indexed_assignment name ps value place) s =
        later_then (value-later value s)
        (λ b t. later_then (positions-later ps t)
        (λ vs u. later_then (at-later k place (replace_in (origin_of u) (look_up u.variables name) vs b) u) (λ a v. record { is = refl }) (λ a v. leads_name printed_kept b name a v))
        (λ vs u. leads_then printed_kept (at-grows place (replace_in (origin_of u) (look_up u.variables name) vs b) u) (λ a v. leads_name printed_kept b name a v)))
        (λ b t. leads_then printed_kept (leads_positions Grows printed_kept calls grows ps t)
        (λ vs u. leads_then printed_kept (at-grows place (replace_in (origin_of u) (look_up u.variables name) vs b) u) (λ a v. leads_name printed_kept b name a v)))
    value-later (output value place) s = later_then (value-later value s) (λ a t. record { is = refl }) (λ a t. leads_print printed_kept a _ t)

    argument-later : (q : Slot) (s : State) → Later k (argument calls q s) (argument calls q (with_more k s))
    argument-later elided s = record { is = refl }
    argument-later (given t) s = later_then (value-later t s) (λ a u. record { is = refl }) (λ a u. leads_done printed_kept (Some a) u)

    positions-later : (qs : Positions) (s : State) → Later k (positions_of calls qs s) (positions_of calls qs (with_more k s))
    positions-later no_position s = record { is = refl }
    positions-later (position q qs) s =
        later_then (positions-later qs s) (λ vs t. later_then (argument-later q t) (λ v u. record { is = refl }) (λ v u. leads_done printed_kept (v ∷ vs) u))
        (λ vs t. leads_then printed_kept (argument-grows q t) (λ v u. leads_done printed_kept (v ∷ vs) u))

  result-later : (a : Option Array) (s : State) → Later k (print_result a s) (print_result a (with_more k s))
  result-later (Some a) s = record { is = refl }
  result-later None s = record { is = refl }

  result-grows : (a : Option Array) (s : State) → Leads Grows s (print_result a s)
  result-grows (Some a) s = leads_print printed_kept _ _ s
  result-grows None s = leads_done printed_kept _ s

  flow-later : (t : Tree) (s : State) → Later k (and_then (value_of calls t s) (show_value (of_arrays calls))) (and_then (value_of calls t (with_more k s)) (show_value (of_arrays calls)))
  flow-later t s = later_then (value-later t s) (λ a u. result-later (Some a) u) (λ a u. result-grows (Some a) u)

  silent-later : (t : Tree) (s : State) → Later k (and_then (value_of calls t s) silently) (and_then (value_of calls t (with_more k s)) silently)
  silent-later t s = later_then (value-later t s) (λ a u. record { is = refl }) (λ a u. leads_done printed_kept _ u)

  branch-later : (place : Place) (a : Array) (s : State) → Later k (branch_to place a s) (branch_to place a (with_more k s))
  branch-later place a s = by (is_empty a) (is_text a)
    where
      by : (e c : Bool) → Later k (branch_by e c a place s) (branch_by e c a place (with_more k s))
      by true c = record { is = refl }
      by false true = record { is = refl }
      by false false = record { is = refl }

  branch-grows : (place : Place) (a : Array) (s : State) → Leads Grows s (branch_to place a s)
  branch-grows place a s = by (is_empty a) (is_text a)
    where
      by : (e c : Bool) → Leads Grows s (branch_by e c a place s)
      by true c = leads_done printed_kept _ s
      by false true = record { to = printed_kept.same s }
      by false false = leads_done printed_kept _ s

  expression-later : (t : Tree) (s : State) → Later k (expression_in (of_arrays calls) t s) (expression_in (of_arrays calls) t (with_more k s))
  expression-later (call f left right place) s =
      later_then (argument-later right s)
      (λ b t. later_then (argument-later left t) (λ a u. later_then (later f place a b u) result-later result-grows) (λ a u. leads_then printed_kept (grows f place a b u) result-grows))
      (λ b t. leads_then printed_kept (argument-grows left t) (λ a u. leads_then printed_kept (grows f place a b u) result-grows))
  expression-later (assignment name value place) s = silent-later (assignment name value place) s
  expression-later (indexed_assignment name ps value place) s = silent-later (indexed_assignment name ps value place) s
  expression-later (output value place) s = silent-later (output value place) s
  expression-later (constant l p) s = flow-later (constant l p) s
  expression-later (variable n p) s = flow-later (variable n p) s
  expression-later (parenthesis e p) s = flow-later (parenthesis e p) s
  expression-later (monadic f b p) s = flow-later (monadic f b p) s
  expression-later (dyadic f a b p) s = flow-later (dyadic f a b p) s
  expression-later (reduction f x b p) s = flow-later (reduction f x b p) s
  expression-later (outer_product f a b p) s = flow-later (outer_product f a b p) s
  expression-later (inner_product f g a b p) s = flow-later (inner_product f g a b p) s
  expression-later (subscript a ps p) s = flow-later (subscript a ps p) s

  statement-later : (t : Statement) (s : State) → Later k (statement_flow calls t s) (statement_flow calls t (with_more k s))
  statement-later nothing s = record { is = refl }
  statement-later (branch value place) s = later_then (value-later value s) (branch-later place) (branch-grows place)
  statement-later (expression value) s = expression-later value s

-- ---- calls

entered-later : {A : Type 0} (k line number : ℕ) (o o' : Outcome State A) → Later k o o' → Later k (entered of_states line number o) (entered of_states line number o')
entered-later k line number (done a t) o' h = record { is = ap (λ x. entered of_states line number x) h.is }
entered-later k line number (fails kind place t) o' h = record { is = ap (λ x. entered of_states line number x) h.is }
entered-later k line number (spent t) (done a u) h = record { is = h.is }
entered-later k line number (spent t) (fails kind place u) h = record { is = h.is }
entered-later k line number (spent t) (spent u) h = record { is = h.is }

turn-later : {A : Type 0} (k line : ℕ) (act : State → Outcome State A) → ((s : State) → Later k (act s) (act (with_more k s))) → ((s : State) → Leads Grows s (act s)) →
    (n m : ℕ) (s : State) → s.turns ≡ n → m ≡ n + k → Later k (turn of_states line n act s) (turn of_states line m act (with_more k s))
turn-later k line act h g zero m s e f =
    let i : s.turns + k ≡ m = omega (arith, e, f) in
    record { is = (leads_turn printed_kept line act g m (with_more k s) i).to.grows }
turn-later k line act h g (suc left) zero s e f = absurd (omega (arith, f))
turn-later k line act h g (suc left) (suc m) s e f =
    let i : left + k ≡ m = omega (arith, f) in
    entered-later k line (suc s.begun) (act (with_turn left s)) (act (with_turn m (with_more k s)))
    (subst (λ (x : ℕ). Later k (act (with_turn left s)) (act (with_turn x s))) i (h (with_turn left s)))

-- after a turn that gave a value there are fewer turns
pub turn-fewer : {A : Type 0} (line : ℕ) (act : State → Outcome State A) → ((s : State) → Leads TakesTurns s (act s)) →
    (n : ℕ) (s : State) → s.turns ≡ n → (a : A) (t : State) → turn of_states line n act s ≡ done a t → t.turns < n
turn-fewer line act h zero s e a t f = absurd cc
turn-fewer {A} line act h (suc left) s e a t f = by (act (with_turn left s)) (h (with_turn left s)).to f
  where
    by : (o : Outcome State A) → TakesTurns (with_turn left s) (state_of o) → entered of_states line (suc s.begun) o ≡ done a t → t.turns < suc left
    by (done b u) r f =
        let g : (with_ended line (suc s.begun) u).turns ≡ t.turns = ap (λ o. (state_of o).turns) f in
        omega (arith, r.turns, r.begun, g)
    by (fails kind place u) r f = absurd cc
    by (spent u) r f = absurd cc

module _ (k : ℕ) (calls : Calls) (later : (f : List ℕ) (place : Place) (left right : Option Array) (s : State) → Later k (calls f place left right s) (calls f place left right (with_more k s)))
    (grows : (f : List ℕ) (place : Place) (left right : Option Array) (s : State) → Leads Grows s (calls f place left right s))
    (takes : (f : List ℕ) (place : Place) (left right : Option Array) (s : State) → Leads TakesTurns s (calls f place left right s)) where
  line-later : (l : Option (RoutineLine Statement)) (s : State) (next next' : Flow → State → Outcome State (Unit {0})) →
      ((flow : Flow) (t : State) → t.turns < s.turns → Later k (next flow t) (next' flow (with_more k t))) → ((flow : Flow) (t : State) → Leads Grows t (next' flow t)) →
      Later k (run_line of_states statement_flow calls l s next) (run_line of_states statement_flow calls l (with_more k s) next')
  line-later None s next next' h g = record { is = refl }
  line-later (Some l) s next next' h g =
      later_next (on_turn of_states l.line (statement_flow calls l.statement) s) (on_turn of_states l.line (statement_flow calls l.statement) (with_more k s)) next next'
      (turn-later k l.line (statement_flow calls l.statement) (statement-later k calls later grows l.statement) (leads_statement Grows printed_kept calls grows l.statement) s.turns (s.turns + k) s refl refl)
      (λ flow t e. h flow t (turn-fewer l.line (statement_flow calls l.statement) (leads_statement TakesTurns turns_kept calls takes l.statement) s.turns s refl flow t e)) g

  lines-grow : (body : List (RoutineLine Statement)) (n : ℕ) (i : ℤ) (s : State) → Leads Grows s (run_lines of_states statement_flow calls body n i s)
  lines-grow body n i s = leads_lines Statement statement_flow Grows printed_kept (leads_statement Grows printed_kept) calls grows body n i s

  lines-later : (body : List (RoutineLine Statement)) (n m : ℕ) (i : ℤ) (s : State) → s.turns ≤ n → s.turns + k ≤ m →
      Later k (run_lines of_states statement_flow calls body n i s) (run_lines of_states statement_flow calls body m i (with_more k s))
  lines-later body zero zero i s p q =
      line-later (line_at body i) s (λ flow t. spent t) (λ flow t. spent t) (λ flow t l. absurd (omega (arith, l, p))) (λ flow t. record { to = printed_kept.same t })
  lines-later body zero (suc m) i s p q =
      line-later (line_at body i) s (λ flow t. spent t) (λ flow t. run_lines of_states statement_flow calls body m (next_line i flow) t)
      (λ flow t l. absurd (omega (arith, l, p))) (λ flow t. lines-grow body m (next_line i flow) t)
  lines-later body (suc n) zero i s p q =
      line-later (line_at body i) s (λ flow t. run_lines of_states statement_flow calls body n (next_line i flow) t) (λ flow t. spent t)
      (λ flow t l. absurd (omega (arith, l, q))) (λ flow t. record { to = printed_kept.same t })
  lines-later body (suc n) (suc m) i s p q =
      line-later (line_at body i) s (λ flow t. run_lines of_states statement_flow calls body n (next_line i flow) t) (λ flow t. run_lines of_states statement_flow calls body m (next_line i flow) t)
      (λ flow t l. lines-later body n m (next_line i flow) t (omega (arith, l, p)) (omega (arith, l, q))) (λ flow t. lines-grow body m (next_line i flow) t)

  found-later : (r : Option (Routine Statement)) (place : Place) (left right : Option Array) (s : State) →
      Later k (run_found of_states statement_flow calls r place left right s) (run_found of_states statement_flow calls r place left right (with_more k s))
  found-later None place left right s = record { is = refl }
  found-later (Some r) place left right s =
      later_next (run_lines of_states statement_flow calls r.body s.turns (pos 1) (with_call r.header (labels_of r.body) left right s))
      (run_lines of_states statement_flow calls r.body (s.turns + k) (pos 1) (with_more k (with_call r.header (labels_of r.body) left right s)))
      (λ _ t. done (result_in t.variables r.header.result) (without_call t)) (λ _ t. done (result_in t.variables r.header.result) (without_call t))
      (lines-later r.body s.turns (s.turns + k) (pos 1) (with_call r.header (labels_of r.body) left right s) (omega arith) (omega arith))
      (λ _ t e. record { is = refl }) (λ _ t. record { to = printed_kept.variables t (without_call t).variables })

calls-grow : (routines : List (Routine Statement)) (n : ℕ) (f : List ℕ) (place : Place) (left right : Option Array) (s : State) → Leads Grows s (call_within of_states statement_flow routines n f place left right s)
calls-grow routines n f place left right s = leads_call Statement statement_flow Grows printed_kept (leads_statement Grows printed_kept) routines n f place left right s

pub calls-take : (routines : List (Routine Statement)) (n : ℕ) (f : List ℕ) (place : Place) (left right : Option Array) (s : State) → Leads TakesTurns s (call_within of_states statement_flow routines n f place left right s)
calls-take routines n f place left right s = leads_call Statement statement_flow TakesTurns turns_kept (leads_statement TakesTurns turns_kept) routines n f place left right s

calls-later : (k : ℕ) (routines : List (Routine Statement)) (n : ℕ) (f : List ℕ) (place : Place) (left right : Option Array) (s : State) →
    Later k (call_within of_states statement_flow routines n f place left right s) (call_within of_states statement_flow routines n f place left right (with_more k s))
calls-later k routines zero f place left right s = record { is = refl }
calls-later k routines (suc n) f place left right s =
    found-later k (call_within of_states statement_flow routines n) (calls-later k routines n) (calls-grow routines n) (calls-take routines n)
    (routine_of routines f) place left right s

pub functions_go_on : FunctionsGoOn
functions_go_on routines n f place left right k s = (calls-later k routines n f place left right s).is

-- ---- runs

-- the run with more turns
pub record LaterRun (k : ℕ) (r q : Run State) : Type 0 where
  pub is : IsContinuedBy r.ending k r q

module _ (k : ℕ) (flow_of : Statement → State → Outcome State Flow) (functions : List (List ℕ)) (report_of : ErrorKind → Place → List ℕ)
    (later : (st : Statement) (s : State) → Later k (flow_of st s) (flow_of st (with_more k s))) (grows : (st : Statement) (s : State) → Leads Grows s (flow_of st s)) where
  obeyed-later : (c : Command) (s : State) → obeyed functions c (with_more k s) ≡ with_more k (obeyed functions c s)
  obeyed-later Vars s = refl
  obeyed-later Fns s = refl
  obeyed-later (Erase names) s = refl
  obeyed-later (Origin o) s = refl

  after-grows : (ending : Ending) (o : Outcome State Flow) (steps : List (Step Statement)) → Grows (state_of o) (after_statement of_states flow_of functions report_of ending o (run_steps of_states flow_of functions report_of steps)).state
  after-grows ending (done a t) steps = run_kept Statement flow_of functions report_of Grows printed_kept grows steps ending t
  after-grows ending (fails kind place t) steps =
      let u = with_printed (report_of kind place) (unwound t) in
      printed_kept.onward t u _ (record { grows = (report_of kind place, refl) }) (run_kept Statement flow_of functions report_of Grows printed_kept grows steps reported u)
  after-grows ending (spent t) steps = record { grows = (printed_kept.same t).grows }

  after-later : (ending : Ending) (o o' : Outcome State Flow) (steps : List (Step Statement)) → Later k o o' →
      ((e : Ending) (t : State) → LaterRun k (run_steps of_states flow_of functions report_of steps e t) (run_steps of_states flow_of functions report_of steps e (with_more k t))) →
      LaterRun k (after_statement of_states flow_of functions report_of ending o (run_steps of_states flow_of functions report_of steps))
      (after_statement of_states flow_of functions report_of ending o' (run_steps of_states flow_of functions report_of steps))
  after-later ending (done a t) o' steps h n =
      subst (λ x. LaterRun k (run_steps of_states flow_of functions report_of steps ending t) (after_statement of_states flow_of functions report_of ending x (run_steps of_states flow_of functions report_of steps)))
      (sym h.is) (n ending t)
  after-later ending (fails kind place t) o' steps h n =
      subst (λ x. LaterRun k (run_steps of_states flow_of functions report_of steps reported (with_printed (report_of kind place) (unwound t))) (after_statement of_states flow_of functions report_of ending x (run_steps of_states flow_of functions report_of steps)))
      (sym h.is) (n reported (with_printed (report_of kind place) (unwound t)))
  after-later ending (spent t) o' steps h n =
      let first : Grows t (state_of o') = record { grows = h.is } in
      record { is = (printed_kept.onward t (state_of o') _ first (after-grows ending o' steps)).grows }

  ended-later : (ending : Ending) (s : State) → LaterRun k (record { ending = ending; state = s }) (record { ending = ending; state = with_more k s })
  ended-later well s = record { is = refl }
  ended-later reported s = record { is = refl }
  ended-later out_of_turns s = record { is = (printed_kept.same s).grows }

  run-later : (steps : List (Step Statement)) (ending : Ending) (s : State) →
      LaterRun k (run_steps of_states flow_of functions report_of steps ending s) (run_steps of_states flow_of functions report_of steps ending (with_more k s))
  run-later [] ending s = ended-later ending s
  run-later (statement_step line st ∷ steps) ending s =
      after-later ending (on_turn of_states line (flow_of st) s) (on_turn of_states line (flow_of st) (with_more k s)) steps
      (turn-later k line (flow_of st) (later st) (grows st) s.turns (s.turns + k) s refl refl) (run-later steps)
  run-later (command_step c ∷ steps) ending s =
      subst (λ x. LaterRun k (run_steps of_states flow_of functions report_of steps ending (obeyed functions c s)) (run_steps of_states flow_of functions report_of steps ending x))
      (sym (obeyed-later c s)) (run-later steps ending (obeyed functions c s))

pub runs_go_on : RunsGoOn
runs_go_on script items n k =
    let definitions : List Definition = definitions_of script.items in
    let routines : List (Routine Statement) = map routine definitions in
    (run-later k (statement_flow (calls_of of_states statement_flow routines)) (map (λ d. d.header.f) definitions) (report script)
    (statement-later k (calls_of of_states statement_flow routines) (calls-later k routines 256) (calls-grow routines 256))
    (leads_statement Grows printed_kept (calls_of of_states statement_flow routines) (calls-grow routines 256))
    (filter_map step_of items) well (beginning n)).is
