-- A run with more turns has the footprints of the run with fewer, and then more.
use Rattle.std.proofs.Common.{◌≡◌, ℕ, zero, suc, ◌+◌, ◌<◌, ◌≤◌, ℤ, pos, List, [], ◌∷◌, ◌++◌, map, Option, Some, None, refl, sym, ap, subst, arith}
use Rattle.std.specs.List.{AllByRecursion, filter_map}
use Rattle.apl_base.specs.declared.faults.ErrorKind.{ErrorKind}
use Rattle.apl_base.specs.declared.faults.Place.{Place}
use Rattle.apl_model.specs.declared.scripts.Command.{Command}
use Rattle.apl_model.specs.declared.scripts.Command.TheVariants.{Vars, Fns, Erase, Origin}
use Rattle.apl_model.specs.Call.{Routine, RoutineLine, entered, turn, on_turn, line_at, next_line, run_line, run_lines, run_found, routine_of, call_within, calls_of, labels_of}
use Rattle.apl_model.specs.Environment.{no_variables}
use Rattle.apl_model.specs.Immediate.{Step, statement_step, command_step, Ending, reported, well, Run, after_statement, run_steps, step_of, definitions_of, routine, report, beginning}
use Rattle.apl_model.specs.Order.{CallsOf}
use Rattle.apl_model.specs.Outcome.{Outcome, done, fails, spent, and_then, Flow}
use Rattle.apl_model.specs.Tree.{Statement, Item, Definition}
use Rattle.apl_cost.specs.Footprint.{Measured, measure_of, of_measured_states, measured_flow, measured_items, footprints, greatest, peak}
use Rattle.apl_cost.specs.Laws.{AreOlderOf}
use Rattle.apl_cost.specs.Ranges.{RangedArray}
use Rattle.apl_cost.specs.RangedEvaluation.{with_ranges}
use Rattle.apl_cost.proofs.Growing.{first_items, older-all}
use Rattle.apl_cost.proofs.Measuring.{at_most_peak}
use Rattle.apl_cost_laws.specs.Turns.{FootprintsOfFewerTurns, PeakGrowsWithTurns, PartsAreAtMostPeak}
use Rattle.apl_cost_laws.proofs.Going.{left_by, Onward, onward-same, onward-then, older-then, more, Later, Goes, then-onward, later-next, CallsGo, statement-goes}

module _ (k : ℕ) where
  -- ---- turns

  turned-later : {A : Type 0} (line number : ℕ) (o q : Outcome Measured A) → Later k o q →
      Later k (entered of_measured_states line number o) (entered of_measured_states line number q)
  turned-later line number (done a t) q h = record { is = ap (λ x. entered of_measured_states line number x) h.is }
  turned-later line number (fails kind place t) q h = record { is = ap (λ x. entered of_measured_states line number x) h.is }
  turned-later line number (spent t) (done a u) h = record { is = h.is }
  turned-later line number (spent t) (fails kind place u) h = record { is = h.is }
  turned-later line number (spent t) (spent u) h = record { is = h.is }

  turned-onward : {A : Type 0} (line number : ℕ) (o : Outcome Measured A) → Onward (left_by o) (left_by (entered of_measured_states line number o))
  turned-onward line number (done a t) = record { older = ([], refl); turns = omega arith }
  turned-onward line number (fails kind place t) = record { older = ([], refl); turns = omega arith }
  turned-onward line number (spent t) = onward-same t

  turn-onward : {A : Type 0} (line : ℕ) (act : Measured → Outcome Measured A) → Goes k act → (n : ℕ) (m : Measured) → m.ranged.turns ≡ n →
      Onward m (left_by (turn of_measured_states line n act m))
  turn-onward line act h zero m e = onward-same m
  turn-onward line act h (suc left) m e =
      let begun = of_measured_states.begin left m in
      let o = act begun in
      onward-then m (left_by o) (left_by (entered of_measured_states line (suc (of_measured_states.begun m)) o))
      (onward-then m begun (left_by o) (record { older = ([], refl); turns = omega (arith, e) }) (h.onward begun))
      (turned-onward line (suc (of_measured_states.begun m)) o)

  turn-later : {A : Type 0} (line : ℕ) (act : Measured → Outcome Measured A) → Goes k act → (n p : ℕ) (m : Measured) → m.ranged.turns ≡ n → p ≡ n + k →
      Later k (turn of_measured_states line n act m) (turn of_measured_states line p act (more k m))
  turn-later line act h zero p m e f =
      let i : m.ranged.turns + k ≡ p = omega (arith, e, f) in
      record { is = (turn-onward line act h p (more k m) i).older }
  turn-later line act h (suc left) zero m e f = absurd (omega (arith, f))
  turn-later line act h (suc left) (suc p) m e f =
      let i : left + k ≡ p = omega (arith, f) in
      turned-later line (suc (of_measured_states.begun m)) (act (of_measured_states.begin left m)) (act (of_measured_states.begin p (more k m)))
      (subst (λ (x : ℕ). Later k (act (of_measured_states.begin left m)) (act (of_measured_states.begin x (more k m)))) i
      (h.later (of_measured_states.begin left m)))

  -- after a turn that gave a value there are fewer turns
  turn-fewer : {A : Type 0} (line : ℕ) (act : Measured → Outcome Measured A) → Goes k act → (n : ℕ) (m : Measured) → m.ranged.turns ≡ n →
      (a : A) (t : Measured) →
      turn of_measured_states line n act m ≡ done a t → t.ranged.turns < n
  turn-fewer line act h zero m e a t f = absurd cc
  turn-fewer {A} line act h (suc left) m e a t f = by (act (of_measured_states.begin left m)) (h.onward (of_measured_states.begin left m)) f
    where
      by : (o : Outcome Measured A) → Onward (of_measured_states.begin left m) (left_by o) →
          entered of_measured_states line (suc (of_measured_states.begun m)) o ≡ done a t → t.ranged.turns < suc left
      by (done b u) r f =
          let g : (of_measured_states.end line (suc (of_measured_states.begun m)) u).ranged.turns ≡ t.ranged.turns =
          ap (λ (o : Outcome Measured A). (left_by o).ranged.turns) f in
          omega (arith, r.turns, g)
      by (fails kind place u) r f = absurd cc
      by (spent u) r f = absurd cc

  -- ---- lines and calls

  module _ (calls : CallsOf Measured RangedArray) (go : CallsGo k calls) where
    line-later : (l : Option (RoutineLine Statement)) (m : Measured) (next other : Flow → Measured → Outcome Measured (Unit {0})) →
        ((flow : Flow) (t : Measured) → t.ranged.turns < m.ranged.turns → Later k (next flow t) (other flow (more k t))) →
        ((flow : Flow) (t : Measured) → Onward t (left_by (other flow t))) →
        Later k (run_line of_measured_states measured_flow calls l m next) (run_line of_measured_states measured_flow calls l (more k m) other)
    line-later None m next other h g = record { is = refl }
    line-later (Some l) m next other h g =
        let act : Measured → Outcome Measured Flow = measured_flow calls l.statement in
        let goes = statement-goes k calls go l.statement in
        later-next k (on_turn of_measured_states l.line act m) (on_turn of_measured_states l.line act (more k m)) next other
        (turn-later l.line act goes m.ranged.turns (m.ranged.turns + k) m refl refl)
        (λ flow t e. h flow t (turn-fewer l.line act goes m.ranged.turns m refl flow t e)) (λ flow t e. g flow t)

    line-onward : (l : Option (RoutineLine Statement)) (m : Measured) (next : Flow → Measured → Outcome Measured (Unit {0})) →
        ((flow : Flow) (t : Measured) → Onward t (left_by (next flow t))) →
        Onward m (left_by (run_line of_measured_states measured_flow calls l m next))
    line-onward None m next g = onward-same m
    line-onward (Some l) m next g =
        let o = on_turn of_measured_states l.line (measured_flow calls l.statement) m in
        onward-then m (left_by o) (left_by (and_then o next))
        (turn-onward l.line (measured_flow calls l.statement) (statement-goes k calls go l.statement) m.ranged.turns m refl)
        (then-onward k o next (λ flow t e. g flow t))

    lines-onward : (body : List (RoutineLine Statement)) (n : ℕ) (i : ℤ) (m : Measured) →
        Onward m (left_by (run_lines of_measured_states measured_flow calls body n i m))
    lines-onward body zero i m = line-onward (line_at body i) m (λ flow t. spent t) (λ flow t. onward-same t)
    lines-onward body (suc n) i m =
        line-onward (line_at body i) m (λ flow t. run_lines of_measured_states measured_flow calls body n (next_line i flow) t)
        (λ flow t. lines-onward body n (next_line i flow) t)

    lines-later : (body : List (RoutineLine Statement)) (n p : ℕ) (i : ℤ) (m : Measured) → m.ranged.turns ≤ n → m.ranged.turns + k ≤ p →
        Later k (run_lines of_measured_states measured_flow calls body n i m) (run_lines of_measured_states measured_flow calls body p i (more k m))
    lines-later body zero zero i m a b =
        line-later (line_at body i) m (λ flow t. spent t) (λ flow t. spent t) (λ flow t l. absurd (omega (arith, l, a))) (λ flow t. onward-same t)
    lines-later body zero (suc p) i m a b =
        line-later (line_at body i) m (λ flow t. spent t) (λ flow t. run_lines of_measured_states measured_flow calls body p (next_line i flow) t)
        (λ flow t l. absurd (omega (arith, l, a))) (λ flow t. lines-onward body p (next_line i flow) t)
    lines-later body (suc n) zero i m a b =
        line-later (line_at body i) m (λ flow t. run_lines of_measured_states measured_flow calls body n (next_line i flow) t) (λ flow t. spent t)
        (λ flow t l. absurd (omega (arith, l, b))) (λ flow t. onward-same t)
    lines-later body (suc n) (suc p) i m a b =
        line-later (line_at body i) m (λ flow t. run_lines of_measured_states measured_flow calls body n (next_line i flow) t)
        (λ flow t. run_lines of_measured_states measured_flow calls body p (next_line i flow) t)
        (λ flow t l. lines-later body n p (next_line i flow) t (omega (arith, l, a)) (omega (arith, l, b))) (λ flow t. lines-onward body p (next_line i flow) t)

    found-goes : (r : Option (Routine Statement)) (place : Place) (left right : Option RangedArray) →
        Goes k (λ m. run_found of_measured_states measured_flow calls r place left right m)
    found-goes None place left right = record { later = λ m. record { is = refl }; onward = onward-same }
    found-goes (Some r) place left right = record {
      later = λ m. let within = of_measured_states.enter r.header (labels_of r.body) left right m in
          later-next k (run_lines of_measured_states measured_flow calls r.body m.ranged.turns (pos 1) within)
          (run_lines of_measured_states measured_flow calls r.body (m.ranged.turns + k) (pos 1) (more k within)) ends ends
          (lines-later r.body m.ranged.turns (m.ranged.turns + k) (pos 1) within (omega arith) (omega arith)) (λ u t e. record { is = refl })
          (λ u t e. ends-onward u t);
      onward = λ m. let within = of_measured_states.enter r.header (labels_of r.body) left right m in
          let o = run_lines of_measured_states measured_flow calls r.body m.ranged.turns (pos 1) within in
          onward-then m within (left_by (and_then o ends)) (record { older = ([], refl); turns = omega arith })
          (onward-then within (left_by o) (left_by (and_then o ends)) (lines-onward r.body m.ranged.turns (pos 1) within)
          (then-onward k o ends (λ u t e. ends-onward u t)));
    }
      where
        ends : Unit {0} → Measured → Outcome Measured (Option RangedArray)
        ends u t = done (of_measured_states.result r.header.result t) (of_measured_states.leave t)

        ends-onward : (u : Unit {0}) (t : Measured) → Onward t (left_by (ends u t))
        ends-onward u t = record { older = ([], refl); turns = omega arith }

  calls-go : (routines : List (Routine Statement)) (n : ℕ) → CallsGo k (call_within of_measured_states measured_flow routines n)
  calls-go routines zero f place left right = record { later = λ m. record { is = refl }; onward = onward-same }
  calls-go routines (suc n) f place left right =
      found-goes (call_within of_measured_states measured_flow routines n) (calls-go routines n) (routine_of routines f) place left right

  -- ---- runs

  module _ (flow_of : Statement → Measured → Outcome Measured Flow) (functions : List (List ℕ)) (report_of : ErrorKind → Place → List ℕ)
      (go : (t : Statement) → Goes k (flow_of t)) where
    abbrev ran : List (Step Statement) → Ending → Measured → Run Measured
    ran steps ending m = run_steps of_measured_states flow_of functions report_of steps ending m

    obeyed-onward : (c : Command) (m : Measured) → Onward m (of_measured_states.obey functions c m)
    obeyed-onward Vars m = record { older = ([], refl); turns = omega arith }
    obeyed-onward Fns m = record { older = ([], refl); turns = omega arith }
    obeyed-onward (Erase names) m = record { older = ([], refl); turns = omega arith }
    obeyed-onward (Origin o) m = record { older = ([], refl); turns = omega arith }

    obeyed-more : (c : Command) (m : Measured) → of_measured_states.obey functions c (more k m) ≡ more k (of_measured_states.obey functions c m)
    obeyed-more Vars m = refl
    obeyed-more Fns m = refl
    obeyed-more (Erase names) m = refl
    obeyed-more (Origin o) m = refl

    -- the footprints of a run go on from those where it begins
    after-older : (ending : Ending) (o : Outcome Measured Flow) (next : Ending → Measured → Run Measured) →
        ((e : Ending) (t : Measured) → AreOlderOf t.moments (next e t).state.moments) →
        AreOlderOf (left_by o).moments (after_statement of_measured_states flow_of functions report_of ending o next).state.moments
    after-older ending (done a t) next h = h ending t
    after-older ending (fails kind place t) next h = h reported (of_measured_states.tell (report_of kind place) (of_measured_states.unwind t))
    after-older ending (spent t) next h = ([], refl)

    run-older : (steps : List (Step Statement)) (ending : Ending) (m : Measured) → AreOlderOf m.moments (ran steps ending m).state.moments
    run-older [] ending m = ([], refl)
    run-older (statement_step line st ∷ steps) ending m =
        let o = on_turn of_measured_states line (flow_of st) m in
        older-then m.moments (left_by o).moments (after_statement of_measured_states flow_of functions report_of ending o (ran steps)).state.moments
        (turn-onward line (flow_of st) (go st) m.ranged.turns m refl).older (after-older ending o (ran steps) (run-older steps))
    run-older (command_step c ∷ steps) ending m =
        older-then m.moments (of_measured_states.obey functions c m).moments (ran steps ending (of_measured_states.obey functions c m)).state.moments
        (obeyed-onward c m).older (run-older steps ending (of_measured_states.obey functions c m))

    -- and with more turns from those with fewer
    after-later : (ending : Ending) (o q : Outcome Measured Flow) (steps : List (Step Statement)) → Later k o q →
        ((e : Ending) (t : Measured) → AreOlderOf (ran steps e t).state.moments (ran steps e (more k t)).state.moments) →
        AreOlderOf (after_statement of_measured_states flow_of functions report_of ending o (ran steps)).state.moments
        (after_statement of_measured_states flow_of functions report_of ending q (ran steps)).state.moments
    after-later ending (done a t) q steps h n =
        subst (λ x. AreOlderOf (ran steps ending t).state.moments
        (after_statement of_measured_states flow_of functions report_of ending x (ran steps)).state.moments) (sym h.is) (n ending t)
    after-later ending (fails kind place t) q steps h n =
        let u = of_measured_states.tell (report_of kind place) (of_measured_states.unwind t) in
        subst (λ x. AreOlderOf (ran steps reported u).state.moments
        (after_statement of_measured_states flow_of functions report_of ending x (ran steps)).state.moments) (sym h.is) (n reported u)
    after-later ending (spent t) q steps h n =
        older-then t.moments (left_by q).moments (after_statement of_measured_states flow_of functions report_of ending q (ran steps)).state.moments h.is
        (after-older ending q (ran steps) (run-older steps))

    run-later : (steps : List (Step Statement)) (ending : Ending) (m : Measured) →
        AreOlderOf (ran steps ending m).state.moments (ran steps ending (more k m)).state.moments
    run-later [] ending m = ([], refl)
    run-later (statement_step line st ∷ steps) ending m =
        after-later ending (on_turn of_measured_states line (flow_of st) m) (on_turn of_measured_states line (flow_of st) (more k m)) steps
        (turn-later line (flow_of st) (go st) m.ranged.turns (m.ranged.turns + k) m refl refl) (run-later steps)
    run-later (command_step c ∷ steps) ending m =
        subst (λ x. AreOlderOf (ran steps ending (of_measured_states.obey functions c m)).state.moments (ran steps ending x).state.moments)
        (sym (obeyed-more c m)) (run-later steps ending (of_measured_states.obey functions c m))

pub footprints_of_fewer_turns : FootprintsOfFewerTurns
footprints_of_fewer_turns script items n k =
    let definitions : List Definition = definitions_of script.items in
    let routines : List (Routine Statement) = map routine definitions in
    run-later k (measured_flow (calls_of of_measured_states measured_flow routines)) (map (λ d. d.header.f) definitions) (report script)
    (statement-goes k (calls_of of_measured_states measured_flow routines) (calls-go k routines 256))
    (filter_map step_of items) well (measure_of (with_ranges no_variables (beginning n)))

-- the greatest of more is no less
pub greatest-more : (newer older : List ℕ) → greatest older ≤ greatest (newer ++ older)
greatest-more [] older = omega arith
greatest-more (n ∷ newer) older = omega (arith, greatest-more newer older)

pub peak_grows_with_turns : PeakGrowsWithTurns
peak_grows_with_turns script n k =
    let h = footprints_of_fewer_turns script script.items n k in
    subst (λ (ms : List ℕ). peak script n ≤ greatest ms) (sym h.1) (greatest-more h.0 (footprints script n))

pub parts_are_at_most_peak : PartsAreAtMostPeak
parts_are_at_most_peak script items others n k whole =
    let P : ℕ → Type 0 = λ f. f ≤ peak script (n + k) in
    let first = first_items script items others (n + k) in
    let turns = footprints_of_fewer_turns script items n k in
    let all : AllByRecursion P (measured_items script (items ++ others) (n + k)).state.moments =
    subst (λ (is : List Item). AllByRecursion P (measured_items script is (n + k)).state.moments) whole (at_most_peak script (n + k)) in
    let part : AllByRecursion P (measured_items script items (n + k)).state.moments =
    older-all P first.0 (measured_items script items (n + k)).state.moments (subst (λ ks. AllByRecursion P ks) first.1 all) in
    older-all P turns.0 (measured_items script items n).state.moments (subst (λ ks. AllByRecursion P ks) turns.1 part)
