-- The lines of a body, one after the other.
use Rattle.std.proofs.Common.{◌≡◌, ℕ, ℤ, pos, negsuc, zero, suc, ◌+◌, ◌<◌, ◌≤◌, List, [], ◌∷◌, length, drop, Option, Some, None, Ok, Err, refl, sym, ap, subst, ◌∙◌, arith}
use Rattle.std.specs.Prelude.{slice_get}
use Rattle.apl_print.specs.Bytes.{GainsPrefix}
use Rattle.apl_model.specs.declared.outlines.OutlineBody.{OutlineBody}
use Rattle.apl_model.specs.Call.{RoutineLine, entered, line_at, next_line, on_turn, run_line, run_lines}
use Rattle.apl_model.specs.Evaluation.{State, Calls, of_arrays}
use Rattle.apl_model.specs.Frames.{with_turn}
use Rattle.apl_model.specs.Immediate.{of_states}
use Rattle.apl_model.specs.Outcome.{Outcome, done, fails, spent, and_then, Flow as EvaluationFlow}
use Rattle.apl_model_laws.specs.Turns.{state_of}
use Rattle.apl_model_laws.proofs.Kept.{leads_lines}
use Rattle.apl_compile.specs.declared.codes.Code.{Code}
use Rattle.apl_compile.specs.Execution.{code_flow}
use Rattle.apl_compile.specs.Program.{ProgramView}
use Rattle.apl_compile.specs.Running.{code_meaning, lines_with}
use Rattle.standing.specs.Growing.{Grows, CallsGrow}
use Rattle.standing.proofs.GrowingLemmas.{growing, flow_leads}
use Rattle.calling_steps.specs.declared.flows.Flow.{Flow}
use Rattle.calling_steps.specs.Branches.{flow_of}
use Rattle.d_machine.specs.declared.answers.Stop.TheVariants as stop
use Rattle.d_machine.specs.declared.breaks.Break.{Break}
use Rattle.d_machine.specs.declared.breaks.Break.TheVariants as break
use Rattle.d_machine.specs.Answers.{Scene}
use Rattle.machine_state.specs.StandsFor.{beginning}
use Rattle.d_machine.specs.Calling.{AnswersLines, IsNoLine}
use Rattle.d_machine.specs.Running.{AreCallsAt, BreaksOff, IsAt, IsCutOff, TakesTurn}
use Rattle.d_machine.proofs.CodeLemmas.{flow_grows}
use Rattle.d_machine.proofs.CallLemmas.{inner_calls}
use Rattle.d_machine.proofs.RunLemmas.{all_is_front, at_beginning, calls_grow, calls_still, cut_here, cut_more, extends_grown, told_at}
use Rattle.d_machine.proofs.TurnLemmas.{is_begun, not_begun}

-- what lines mean by their codes
abbrev lines_from : Calls → List (RoutineLine Code) → ℕ → ℤ → State → Outcome State (Unit {0})
lines_from calls body n k s = run_lines of_states (code_meaning of_states of_arrays) calls body n k s

-- the turn of a line
abbrev turn_of : Calls → RoutineLine Code → State → Outcome State EvaluationFlow
turn_of calls l s = on_turn of_states l.line (code_flow (of_arrays calls) l.statement.instructions) s

-- ---- a turn takes a turn

fewer_entered : (line number left : ℕ) (s : State) (o : Outcome State EvaluationFlow) → Grows (with_turn left s) (state_of o) → (state_of (entered of_states line number o)).turns ≤ left
fewer_entered line number left s (done to t) g = omega (arith, g.turns.turns, g.turns.begun)
fewer_entered line number left s (fails kind place t) g = omega (arith, g.turns.turns, g.turns.begun)
fewer_entered line number left s (spent t) g = omega (arith, g.turns.turns, g.turns.begun)

not_spent : (u s : State) (to : EvaluationFlow) → done to u ≡ spent s → ⊥
not_spent u s to e = cc

-- after it fewer are left
turn_fewer : (calls : Calls) → CallsGrow calls → (l : RoutineLine Code) (s u : State) (to : EvaluationFlow) (n : ℕ) → turn_of calls l s ≡ done to u → s.turns ≡ n → (left : ℕ) × (n ≡ suc left) × (u.turns ≤ left)
turn_fewer calls grow l s u to zero e none_left = absurd (not_spent u s to (sym e ∙ not_begun l.line (code_flow (of_arrays calls) l.statement.instructions) s none_left))
turn_fewer calls grow l s u to (suc left) e some = (
  left,
  refl,
  subst (λ (o : Outcome State EvaluationFlow). (state_of o).turns ≤ left) (sym (is_begun l.line left (code_flow (of_arrays calls) l.statement.instructions) s some) ∙ e)
      (fewer_entered l.line (suc s.begun) left s (code_flow (of_arrays calls) l.statement.instructions (with_turn left s)) (flow_grows calls grow l.statement.instructions (with_turn left s))),
)

-- lines take back nothing
lines_grow : (calls : Calls) → CallsGrow calls → (body : List (RoutineLine Code)) (n : ℕ) (k : ℤ) (s : State) → Grows s (state_of (lines_from calls body n k s))
lines_grow calls grow body n k s =
    (leads_lines Code (code_meaning of_states of_arrays) Grows growing (flow_leads Grows growing) calls (λ f place left right t. record { to = grow f place left right t }) body n k s).to

grows_then : (o : Outcome State EvaluationFlow) (further : EvaluationFlow → State → Outcome State (Unit {0})) → ((f : EvaluationFlow) (u : State) → Grows u (state_of (further f u))) → Grows (state_of o) (state_of (and_then o further))
grows_then (done f u) further grow = grow f u
grows_then (fails kind place u) further grow = growing.same u
grows_then (spent u) further grow = growing.same u

-- what breaks off breaks off what follows it
breaks_on : (start new : Scene) (o : Outcome State EvaluationFlow) (further : EvaluationFlow → State → Outcome State (Unit {0})) (b : Break) → ((f : EvaluationFlow) (u : State) → Grows u (state_of (further f u))) → BreaksOff start new o b → BreaksOff start new (and_then o further) b
breaks_on start new o further (break.Error kind place) grow h = (h.0, ap (λ (x : Outcome State EvaluationFlow). and_then x further) h.1, h.2)
breaks_on start new o further (break.Stop stop.Spent) grow h = (h.0, ap (λ (x : Outcome State EvaluationFlow). and_then x further) h.1, h.2)
breaks_on start new o further (break.Stop (stop.WsFull live asked)) grow h = cut_more start new (state_of o) (state_of (and_then o further)) (stop.WsFull live asked) (extends_grown (state_of o) (state_of (and_then o further)) (grows_then o further grow)) h
breaks_on start new o further (break.Stop stop.NoMemory) grow h = cut_more start new (state_of o) (state_of (and_then o further)) stop.NoMemory (extends_grown (state_of o) (state_of (and_then o further)) (grows_then o further grow)) h
breaks_on start new o further (break.Stop stop.OutFault) grow h = cut_more start new (state_of o) (state_of (and_then o further)) stop.OutFault (extends_grown (state_of o) (state_of (and_then o further)) (grows_then o further grow)) h
breaks_on start new o further (break.Stop stop.TraceFault) grow h = cut_more start new (state_of o) (state_of (and_then o further)) stop.TraceFault (extends_grown (state_of o) (state_of (and_then o further)) (grows_then o further grow)) h

-- ---- the lines of a body, by its codes

line_from : (body : List OutlineBody) (codes : List Code) (k : ℕ) (b : OutlineBody) (code : Code) → slice_get body k ≡ Some b → slice_get codes k ≡ Some code → slice_get (lines_with body codes) k ≡ Some (record { line = b.line; label = b.label; statement = code })
line_from [] codes k b code e there = absurd cc
line_from (x ∷ body) [] k b code e there = absurd cc
line_from (x ∷ body) (c ∷ codes) zero b code e there =
    let same : x ≡ b = cc in
    let same_code : c ≡ code = cc in
    ap (λ (y : OutlineBody). let o : Option (RoutineLine Code) = Some (record { line = y.line; label = y.label; statement = c }) in o) same
    ∙ ap (λ (d : Code). let o : Option (RoutineLine Code) = Some (record { line = b.line; label = b.label; statement = d }) in o) same_code
line_from (x ∷ body) (c ∷ codes) (suc k) b code e there = line_from body codes k b code e there

get_dropped : (codes : List Code) (first k : ℕ) → slice_get (drop first codes) k ≡ slice_get codes (first + k)
get_dropped codes zero k =
    let same : k ≡ 0 + k = omega arith in
    ap (λ (n : ℕ). slice_get codes n) same
get_dropped [] (suc first) k = refl
get_dropped (c ∷ codes) (suc first) k =
    let same : suc (first + k) ≡ suc first + k = omega arith in
    get_dropped codes first k ∙ ap (λ (n : ℕ). slice_get (c ∷ codes) n) same

-- the line of a number
pub line_there : (body : List OutlineBody) (codes : List Code) (first at : ℕ) (next : ℤ) (b : OutlineBody) (code : Code) → next ≡ pos (suc at) → slice_get body at ≡ Some b → slice_get codes (first + at) ≡ Some code → line_at (lines_with body (drop first codes)) next ≡ Some (record { line = b.line; label = b.label; statement = code })
line_there body codes first at next b code e there found =
    ap (λ (n : ℤ). line_at (lines_with body (drop first codes)) n) e
    ∙ line_from body (drop first codes) at b code there (get_dropped codes first at ∙ found)

none_past : (body : List OutlineBody) (codes : List Code) (k : ℕ) → length body ≤ k → slice_get (lines_with body codes) k ≡ None
none_past [] codes k past = refl
none_past (x ∷ body) [] k past = refl
none_past (x ∷ body) (c ∷ codes) zero past = absurd (omega (arith, past))
none_past (x ∷ body) (c ∷ codes) (suc k) past = none_past body codes k (omega (arith, past))

-- a number that is no line's
pub no_line_there : (body : List OutlineBody) (codes : List Code) (next : ℤ) → IsNoLine next (length body) → line_at (lines_with body codes) next ≡ None
no_line_there body codes (pos zero) past = refl
no_line_there body codes (pos (suc k)) past = none_past body codes k (past k refl)
no_line_there body codes (negsuc k) past = refl

-- a code that is not there is past the end
pub none_within : {A : Type 0} (xs : List A) (k : ℕ) → slice_get xs k ≡ None → k < length xs → ⊥
none_within [] k none_there within = omega (arith, within)
none_within (x ∷ xs) zero none_there within = cc
none_within (x ∷ xs) (suc k) none_there within = none_within xs k none_there (omega (arith, within))

-- ---- how far the lines have come

-- before the line of this number evaluation of the lines is at a state with at most so many turns
pub record LinesAt (p : ProgramView) (body : List (RoutineLine Code)) (next : ℤ) (old now : Scene) : Type 0 where
  pub depth : length now.machine.names.frames ≡ length old.machine.names.frames
  pub goes : (calls : Calls) (start : Scene) (s : State) → AreCallsAt p old.machine calls → IsAt start old s
      → (t : State) × (n : ℕ) × IsAt start now t × (t.turns ≤ n) × (lines_from calls body s.turns (pos 1) s ≡ lines_from calls body n next t)

pub lines_first : (p : ProgramView) (body : List (RoutineLine Code)) (old : Scene) → LinesAt p body (pos 1) old old
lines_first p body old = record { depth = refl; goes = λ calls start s here is. (s, s.turns, is, omega arith, refl) }

module _ (p : ProgramView) (body : List (RoutineLine Code)) (next : ℤ) (old now : Scene) (a : LinesAt p body next old now) where
  -- a line, in full
  line_is : (calls : Calls) (l : RoutineLine Code) (n : ℕ) (t : State) → line_at body next ≡ Some l → lines_from calls body (suc n) next t ≡ and_then (turn_of calls l t) (λ flow u. lines_from calls body n (next_line next flow) u)
  line_is calls l n t there = ap (λ (o : Option (RoutineLine Code)). run_line of_states (code_meaning of_states of_arrays) calls o t (λ flow u. lines_from calls body n (next_line next flow) u)) there

  pub lines_next : (l : RoutineLine Code) (to : Flow) (new : Scene) → line_at body next ≡ Some l → length new.machine.names.frames ≡ length now.machine.names.frames → TakesTurn p l.line l.statement.instructions now new (Ok to) → LinesAt p body (next_line next (flow_of to)) old new
  lines_next l to new there depth takes = record {
    depth = depth ∙ a.depth;
    goes = λ calls start s here is.
        let first = a.goes calls start s here is in
        let still = calls_still p old.machine now.machine calls a.depth here in
        let second = takes.answers calls start first.0 still first.2 in
        let fewer = turn_fewer calls (calls_grow p now.machine calls still) l first.0 second.0 (flow_of to) first.0.turns second.1 refl in
        one_less calls s first.0 second.0 first.1 fewer.0 (flow_of to) l there first.4 (omega (arith, fewer.1, first.3)) second.1 fewer.2 second.2;
  }
    where
      one_less : (calls : Calls) (s t u : State) (n left : ℕ) (flow : EvaluationFlow) (l : RoutineLine Code) → line_at body next ≡ Some l → lines_from calls body s.turns (pos 1) s ≡ lines_from calls body n next t → suc left ≤ n → turn_of calls l t ≡ done flow u → u.turns ≤ left → {start : Scene} → IsAt start new u → (v : State) × (m : ℕ) × IsAt start new v × (v.turns ≤ m) × (lines_from calls body s.turns (pos 1) s ≡ lines_from calls body m (next_line next flow) v)
      one_less calls s t u zero left flow l there e few done_there low is = absurd (none few)
        where
          none : suc left ≤ 0 → ⊥
          none h = omega (arith, h)
      one_less calls s t u (suc m) left flow l there e few done_there low is = (
        u,
        m,
        is,
        omega (arith, few, low),
        e ∙ line_is calls l m t there ∙ ap (λ (o : Outcome State EvaluationFlow). and_then o (λ f v. lines_from calls body m (next_line next f) v)) done_there,
      )

  -- past the lines
  pub lines_done : line_at body next ≡ None → (calls : Calls) (start : Scene) (s : State) → AreCallsAt p old.machine calls → IsAt start old s → AnswersLines start now (lines_from calls body s.turns (pos 1) s) (Ok tt)
  lines_done none_there calls start s here is =
      let first = a.goes calls start s here is in
      (first.0, first.4 ∙ ended_lines first.1 first.0, first.2)
    where
      ended_lines : (n : ℕ) (t : State) → lines_from calls body n next t ≡ done tt t
      ended_lines zero t = ap (λ (o : Option (RoutineLine Code)). run_line of_states (code_meaning of_states of_arrays) calls o t (λ flow u. spent u)) none_there
      ended_lines (suc n) t = ap (λ (o : Option (RoutineLine Code)). run_line of_states (code_meaning of_states of_arrays) calls o t (λ flow u. lines_from calls body n (next_line next flow) u)) none_there

  -- where the turn of a line goes no further, the lines go no further
  pub lines_break : (l : RoutineLine Code) (b : Break) (new : Scene) → line_at body next ≡ Some l → TakesTurn p l.line l.statement.instructions now new (Err b) → (calls : Calls) (start : Scene) (s : State) → AreCallsAt p old.machine calls → IsAt start old s → AnswersLines start new (lines_from calls body s.turns (pos 1) s) (Err b)
  lines_break l b new there takes calls start s here is =
      let first = a.goes calls start s here is in
      let still = calls_still p old.machine now.machine calls a.depth here in
      let second = takes.answers calls start first.0 still first.2 in
      let grow = calls_grow p now.machine calls still in
      subst (λ (o : Outcome State (Unit {0})). BreaksOff start new o b) (sym (first.4 ∙ first_is calls l first.1 first.0 there))
      (breaks_on start new (turn_of calls l first.0) (further calls first.1) b (further_grows calls grow first.1) second)
    where
      -- what follows the line, where so many turns may be left
      further : Calls → ℕ → EvaluationFlow → State → Outcome State (Unit {0})
      further calls zero flow u = spent u
      further calls (suc n) flow u = lines_from calls body n (next_line next flow) u

      first_is : (calls : Calls) (l : RoutineLine Code) (n : ℕ) (t : State) → line_at body next ≡ Some l → lines_from calls body n next t ≡ and_then (turn_of calls l t) (further calls n)
      first_is calls l zero t there = ap (λ (o : Option (RoutineLine Code)). run_line of_states (code_meaning of_states of_arrays) calls o t (λ flow u. spent u)) there
      first_is calls l (suc n) t there = ap (λ (o : Option (RoutineLine Code)). run_line of_states (code_meaning of_states of_arrays) calls o t (λ flow u. lines_from calls body n (next_line next flow) u)) there

      further_grows : (calls : Calls) → CallsGrow calls → (n : ℕ) (f : EvaluationFlow) (u : State) → Grows u (state_of (further calls n f u))
      further_grows calls grow zero f u = growing.same u
      further_grows calls grow (suc n) f u = lines_grow calls grow body n (next_line next f) u

  -- before a line the run may be stopped for want of memory
  pub lines_stop : (calls : Calls) (start : Scene) (s : State) → AreCallsAt p old.machine calls → IsAt start old s → AnswersLines start now (lines_from calls body s.turns (pos 1) s) (Err (break.Stop stop.NoMemory))
  lines_stop calls start s here is =
      let first = a.goes calls start s here is in
      let grow = calls_grow p old.machine calls here in
      subst (λ (o : Outcome State (Unit {0})). IsCutOff start now (state_of o) stop.NoMemory) (sym first.4)
      (cut_here GainsPrefix all_is_front start now first.0 (state_of (lines_from calls body first.1 next first.0)) (lines_grow calls grow body first.1 next first.0) (told_at start now first.0 first.2))

-- ---- a turn of the machine is one fewer

pub turn_less : (p : ProgramView) (l : RoutineLine Code) (old new : Scene) (to : Flow) → TakesTurn p l.line l.statement.instructions old new (Ok to) → new.machine.turns_left < old.machine.turns_left
turn_less p l old new to takes =
    let calls : Calls = inner_calls p old.machine in
    let came = takes.answers calls old (beginning old.machine) refl (at_beginning old) in
    let fewer = turn_fewer calls (calls_grow p old.machine calls refl) l (beginning old.machine) came.0 (flow_of to) old.machine.turns_left came.1 refl in
    omega (arith, came.2.turns, fewer.1, fewer.2)
