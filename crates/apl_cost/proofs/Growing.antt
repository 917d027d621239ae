-- Footprints are only added, so those of a script's first items are the older ones of those of more items. A state is
-- taken together with the proof that it has the footprints of an earlier one, and runs over such states agree with
-- those over states alone.
use Rattle.std.proofs.Common.{◌≡◌, ◌≤◌, ℕ, true, false, List, [], ◌∷◌, ◌++◌, map, Option, Some, None, refl, sym, ap, subst, ◌∙◌}
use Rattle.std.specs.List.{filter_map, AllByRecursion}
use Rattle.std.proofs.lemmas.List.Elements.{filter_map-append}
use Rattle.std.specs.Option.{option_map}
use Rattle.apl_base.specs.declared.faults.ErrorKind.{ErrorKind}
use Rattle.apl_base.specs.declared.faults.Place.{Place}
use Rattle.apl_model.specs.declared.scripts.Header.{Header}
use Rattle.apl_model.specs.Agreement.{mapped_outcome, mapped_flow, mapped_step, mapped_routine, mapped_run, CallsAgree, ValuesAgree, StatesAgree, MeaningsAgree}
use Rattle.apl_model.specs.Call.{States, Routine, calls_of, on_turn}
use Rattle.apl_model.specs.Immediate.{Ending, Run, Step, statement_step, command_step, routine, definitions_of, report, step_of, well, reported, beginning, run_steps, after_statement}
use Rattle.apl_model.specs.Environment.{no_variables}
use Rattle.apl_model.specs.Order.{CallsOf, Values, flow_in}
use Rattle.apl_model.specs.Outcome.{Outcome, done, fails, spent, Flow}
use Rattle.apl_model.specs.Tree.{Item, Statement}
use Rattle.apl_model.proofs.Agreement.{statements_agree, runs_agree, routines-same, option-same, options-same}
use Rattle.apl_cost.specs.Ranges.{RangedArray}
use Rattle.apl_cost.specs.RangedEvaluation.{RangedState, with_ranges}
use Rattle.apl_cost.specs.Footprint.{Measured, measured, valued, valued_from, resulted, written_value, moment, of_measured, of_measured_states, measured_flow, measure_of, entered_from, with_finished, finished_from, judged, ranged_arrays, result_shape1, result_shape2, reduction_shape, outer_shape, inner_shape, elements_named, measured_items, peak}
use Rattle.apl_base.specs.Array.{size_of}
use Rattle.apl_model.specs.Whole.{count}
use Rattle.apl_cost.proofs.Measuring.{steps-same, at_most_peak}
use Rattle.apl_cost.specs.Laws.{AreOlderOf, FootprintsOfFirstItems, FirstFootprintsAreAtMostPeak}

module _ (base : List ℕ) where
  -- a state that has these footprints, and maybe more
  abbrev Grown : Type 0
  Grown = (m : Measured) × AreOlderOf base m.moments

  abbrev state-of : Grown → Measured
  state-of g = g.0

  -- an outcome that leaves such a state
  abbrev GrownOutcome : {A : Type 0} → Outcome Measured A → Type 0
  GrownOutcome (done a m) = AreOlderOf base m.moments
  GrownOutcome (fails kind place m) = AreOlderOf base m.moments
  GrownOutcome (spent m) = AreOlderOf base m.moments

  abbrev grown : {A : Type 0} → (o : Outcome Measured A) → GrownOutcome o → Outcome Grown A
  grown (done a m) h = done a (m, h)
  grown (fails kind place m) h = fails kind place (m, h)
  grown (spent m) h = spent (m, h)

  grown-same : {A : Type 0} (o : Outcome Measured A) (h : GrownOutcome o) → o ≡ mapped_outcome state-of (λ a. a) (grown o h)
  grown-same (done a m) h = refl
  grown-same (fails kind place m) h = refl
  grown-same (spent m) h = refl

  -- one footprint more
  one-more : (k : ℕ) (all : List ℕ) → AreOlderOf base all → AreOlderOf base (k ∷ all)
  one-more k all h = (k ∷ h.0, ap (λ ks. k ∷ ks) h.1)

  moment-grows : (n : ℕ) (m : Measured) → AreOlderOf base m.moments → AreOlderOf base (moment n m).moments
  moment-grows n m h = one-more _ m.moments h

  measured-grows : {A : Type 0} (m : Measured) (o : Outcome RangedState A) → AreOlderOf base m.moments → GrownOutcome (measured m o)
  measured-grows m (done a s) h = h
  measured-grows m (fails kind place s) h = h
  measured-grows m (spent s) h = h

  valued-grows : (o : Outcome Measured RangedArray) → GrownOutcome o → GrownOutcome (valued o)
  valued-grows (done v m) h = moment-grows (count v.array) m h
  valued-grows (fails kind place m) h = h
  valued-grows (spent m) h = h

  written-grows : (name : List ℕ) (o : Outcome Measured RangedArray) → GrownOutcome o → GrownOutcome (written_value name o)
  written-grows name (done v m) h = moment-grows (count v.array) (moment (elements_named name m.ranged) m) (moment-grows (elements_named name m.ranged) m h)
  written-grows name (fails kind place m) h = h
  written-grows name (spent m) h = h

  had-grows : (m : Measured) (o : Outcome RangedState RangedArray) → AreOlderOf base m.moments → GrownOutcome (valued (measured m o))
  had-grows m o h = valued-grows (measured m o) (measured-grows m o h)

  from-grows : (shape : Option (List ℕ)) (m : Measured) (act : RangedState → Outcome RangedState RangedArray) → AreOlderOf base m.moments →
      GrownOutcome (valued_from shape m (λ n. measured n (act n.ranged)))
  from-grows (Some ns) m act h = measured-grows (moment (size_of ns) m) (act m.ranged) (moment-grows (size_of ns) m h)
  from-grows None m act h = had-grows m (act m.ranged) h

  -- a call's result, over such states
  abbrev grown-result : Outcome Grown (Option RangedArray) → Outcome Grown (Option RangedArray)
  grown-result (done (Some v) g) = done (Some v) (moment (count v.array) g.0, moment-grows (count v.array) g.0 g.1)
  grown-result (done None g) = done None g
  grown-result (fails kind place g) = fails kind place g
  grown-result (spent g) = spent g

  result-same : (o : Outcome Grown (Option RangedArray)) →
      resulted (mapped_outcome state-of (option_map (λ v. v)) o) ≡ mapped_outcome state-of (option_map (λ v. v)) (grown-result o)
  result-same (done (Some v) g) = refl
  result-same (done None g) = refl
  result-same (fails kind place g) = refl
  result-same (spent g) = refl

  -- what is done with arrays, but for calls
  abbrev alone : Values Measured RangedArray
  alone = of_measured (λ f place left right m. done None m)

  abbrev grown-values : CallsOf Grown RangedArray → Values Grown RangedArray
  grown-values calls = record {
    literal = λ l g. grown (alone.literal l g.0) (had-grows g.0 (ranged_arrays.literal l g.0.ranged) g.1);
    name = λ name place g. grown (alone.name name place g.0) (had-grows g.0 (ranged_arrays.name name place g.0.ranged) g.1);
    apply1 = λ f b place g. grown (alone.apply1 f b place g.0) (from-grows (result_shape1 f b.array) g.0 (ranged_arrays.apply1 f b place) g.1);
    apply2 = λ f a b place g. grown (alone.apply2 f a b place g.0) (from-grows (result_shape2 f a.array b.array) g.0 (ranged_arrays.apply2 f a b place) g.1);
    reduce = λ f axis b place g. grown (alone.reduce f axis b place g.0)
        (from-grows (reduction_shape g.0.ranged.variables.origin axis b.array) g.0 (ranged_arrays.reduce f axis b place) g.1);
    outer = λ f a b place g. grown (alone.outer f a b place g.0) (from-grows (outer_shape a.array b.array) g.0 (ranged_arrays.outer f a b place) g.1);
    inner = λ f h a b place g. grown (alone.inner f h a b place g.0) (from-grows (inner_shape a.array b.array) g.0 (ranged_arrays.inner f h a b place) g.1);
    index = λ a ps place g. grown (alone.index a ps place g.0) (had-grows g.0 (ranged_arrays.index a ps place g.0.ranged) g.1);
    assign = λ name a g. grown (alone.assign name a g.0) (had-grows g.0 (ranged_arrays.assign name a g.0.ranged) g.1);
    replace = λ name ps b place g. grown (alone.replace name ps b place g.0)
        (written-grows name (measured g.0 (ranged_arrays.replace name ps b place g.0.ranged))
        (measured-grows g.0 (ranged_arrays.replace name ps b place g.0.ranged) g.1));
    calls = λ f place left right g. grown-result (calls f place left right g);
    print = λ a g. grown (alone.print a g.0) (had-grows g.0 (ranged_arrays.print a g.0.ranged) g.1);
    need = λ place a g. grown (alone.need place a g.0) (measured-grows g.0 (ranged_arrays.need place a g.0.ranged) g.1);
    branch = λ place a g. grown (alone.branch place a g.0) (measured-grows g.0 (ranged_arrays.branch place a g.0.ranged) g.1);
    show = λ a g. grown (alone.show a g.0) (measured-grows g.0 (ranged_arrays.show a g.0.ranged) g.1);
  }

  grown-calls-agree : (calls : CallsOf Grown RangedArray) (others : CallsOf Measured RangedArray) → CallsAgree state-of (λ v. v) calls others →
      CallsAgree state-of (λ v. v) (grown-values calls).calls (of_measured others).calls
  grown-calls-agree calls others h = record {
    agree = λ f place left right g. ap resulted (h.agree f place left right g)
        ∙ result-same (calls f place left right g);
  }

  grown-values-agree : (calls : CallsOf Grown RangedArray) (others : CallsOf Measured RangedArray) → CallsAgree state-of (λ v. v) calls others →
      ValuesAgree state-of (λ v. v) (grown-values calls) (of_measured others)
  grown-values-agree calls others h = record {
    literal = λ l g. grown-same (alone.literal l g.0) (had-grows g.0 (ranged_arrays.literal l g.0.ranged) g.1);
    name = λ name place g. grown-same _ _;
    apply1 = λ f b place g. grown-same _ _;
    apply2 = λ f a b place g. grown-same _ _;
    reduce = λ f axis b place g. grown-same _ _;
    outer = λ f a b place g. grown-same _ _;
    inner = λ f k a b place g. grown-same _ _;
    index = λ a ps place g. ap (λ qs. alone.index a qs place g.0) (options-same ps)
        ∙ grown-same (alone.index a ps place g.0) (had-grows g.0 (ranged_arrays.index a ps place g.0.ranged) g.1);
    assign = λ name a g. grown-same (alone.assign name a g.0) (had-grows g.0 (ranged_arrays.assign name a g.0.ranged) g.1);
    replace = λ name ps b place g. ap (λ qs. alone.replace name qs b place g.0) (options-same ps) ∙ grown-same (alone.replace name ps b place g.0)
        (written-grows name (measured g.0 (ranged_arrays.replace name ps b place g.0.ranged))
        (measured-grows g.0 (ranged_arrays.replace name ps b place g.0.ranged) g.1));
    calls = grown-calls-agree calls others h;
    print = λ a g. grown-same (alone.print a g.0) (had-grows g.0 (ranged_arrays.print a g.0.ranged) g.1);
    need = λ place a g. ap (λ v. alone.need place v g.0) (option-same a)
        ∙ grown-same (alone.need place a g.0) (measured-grows g.0 (ranged_arrays.need place a g.0.ranged) g.1);
    branch = λ place a g. grown-same _ _;
    show = λ a g. ap (λ v. alone.show v g.0) (option-same a) ∙ grown-same (alone.show a g.0) (measured-grows g.0 (ranged_arrays.show a g.0.ranged) g.1);
  }

  abbrev grown-states : States Grown RangedArray
  grown-states = record {
    turns = λ g. of_measured_states.turns g.0;
    begun = λ g. of_measured_states.begun g.0;
    begin = λ left g. (of_measured_states.begin left g.0, g.1);
    end = λ line number g. (of_measured_states.end line number g.0, g.1);
    enter = λ header labels left right g. (of_measured_states.enter header labels left right g.0, g.1);
    result = λ name g. of_measured_states.result name g.0;
    leave = λ g. (of_measured_states.leave g.0, g.1);
    unwind = λ g. (of_measured_states.unwind g.0, g.1);
    tell = λ text g. (of_measured_states.tell text g.0, g.1);
    obey = λ functions c g. (of_measured_states.obey functions c g.0, g.1);
  }

  enter-same : (header : Header) (labels : List (Option (List ℕ))) (left right : Option RangedArray) (m : Measured) →
      of_measured_states.enter header labels (option_map (λ v. v) left) (option_map (λ v. v) right) m ≡ of_measured_states.enter header labels left right m
  enter-same header labels left right m =
      ap (λ l. of_measured_states.enter header labels l (option_map (λ v. v) right) m) (option-same left)
      ∙ ap (λ r. of_measured_states.enter header labels left r m) (option-same right)

  grown-states-agree : StatesAgree state-of (λ v. v) grown-states of_measured_states
  grown-states-agree = record {
    turns = λ g. refl;
    begun = λ g. refl;
    begin = λ left g. refl;
    end = λ line number g. refl;
    enter = λ header labels left right g. enter-same header labels left right g.0;
    result = λ name g. sym (option-same (of_measured_states.result name g.0));
    leave = λ g. refl;
    unwind = λ g. refl;
    tell = λ text g. refl;
    obey = λ functions c g. refl;
  }

  -- a statement that is entered as ended
  abbrev grown-entered : Statement → RangedState → Outcome Grown Flow → Outcome Grown Flow
  grown-entered t s (done flow g) = done flow (with_finished (finished_from t s true) g.0, g.1)
  grown-entered t s (fails kind place g) = fails kind place (with_finished (finished_from t s false) g.0, g.1)
  grown-entered t s (spent g) = spent g

  entered-same : (t : Statement) (s : RangedState) (o : Outcome Grown Flow) →
      entered_from t s (mapped_flow state-of o) ≡ mapped_flow state-of (grown-entered t s o)
  entered-same t s (done flow g) = refl
  entered-same t s (fails kind place g) = refl
  entered-same t s (spent g) = refl

  abbrev grown-flow : CallsOf Grown RangedArray → Statement → Grown → Outcome Grown Flow
  grown-flow calls t g = grown-entered t g.0.ranged (flow_in (grown-values calls) t (judged t g.0, g.1))

  grown-meanings-agree : MeaningsAgree state-of (λ v. v) (λ (p : Statement). p) grown-flow measured_flow
  grown-meanings-agree = record {
    agree = λ calls others h t g.
        ap (entered_from t g.0.ranged)
        (statements_agree Grown Measured RangedArray RangedArray state-of (λ v. v) (grown-values calls) (of_measured others)
        (grown-values-agree calls others h) t (judged t g.0, g.1))
        ∙ entered-same t g.0.ranged (flow_in (grown-values calls) t (judged t g.0, g.1));
  }

  -- a run from such a state leaves one
  pub runs-grow : (routines : List (Routine Statement)) (functions : List (List ℕ)) (report_of : ErrorKind → Place →
      List ℕ) (steps : List (Step Statement)) (ending : Ending) (g : Grown) →
      AreOlderOf base (run_steps of_measured_states (measured_flow
      (calls_of of_measured_states measured_flow routines)) functions report_of steps ending g.0).state.moments
  runs-grow routines functions report_of steps ending g =
      let over : List (Routine Statement) → List (Step Statement) → Run Measured =
      λ rs ss. run_steps of_measured_states (measured_flow (calls_of of_measured_states measured_flow rs)) functions report_of ss ending g.0 in
      let all : Run Grown = run_steps grown-states (grown-flow (calls_of grown-states grown-flow routines)) functions report_of steps ending g in
      let agrees : over (map (mapped_routine (λ p. p)) routines) (map (mapped_step (λ p. p)) steps) ≡ mapped_run state-of all =
      runs_agree Grown Measured RangedArray RangedArray Statement Statement state-of (λ v. v) (λ p. p) grown-states of_measured_states grown-flow measured_flow
      grown-states-agree grown-meanings-agree routines functions report_of steps ending g in
      let same : over routines steps ≡ mapped_run state-of all =
      ap (λ rs. over rs steps) (sym (routines-same routines)) ∙ ap (λ ss. over (map (mapped_routine (λ p. p)) routines) ss) (sym (steps-same steps)) ∙ agrees in
      subst (λ (r : Run Measured). AreOlderOf base r.state.moments) (sym same) all.state.1

-- ---- more items

module _ (routines : List (Routine Statement)) (functions : List (List ℕ)) (report_of : ErrorKind → Place → List ℕ) where
  abbrev flow-of : Statement → Measured → Outcome Measured Flow
  flow-of = measured_flow (calls_of of_measured_states measured_flow routines)

  abbrev ran : List (Step Statement) → Ending → Measured → Run Measured
  ran steps ending m = run_steps of_measured_states flow-of functions report_of steps ending m

  after-grows : (next more : Ending → Measured → Run Measured) → ((e : Ending) (m : Measured) → AreOlderOf (next e m).state.moments (more e m).state.moments) →
      (e : Ending) (o : Outcome Measured Flow) →
      AreOlderOf (after_statement of_measured_states flow-of functions report_of e o next).state.moments
      (after_statement of_measured_states flow-of functions report_of e o more).state.moments
  after-grows next more h e (done a m) = h e m
  after-grows next more h e (fails kind place m) = h reported (of_measured_states.tell (report_of kind place) (of_measured_states.unwind m))
  after-grows next more h e (spent m) = ([], refl)

  more-grow : (steps more : List (Step Statement)) (e : Ending) (m : Measured) →
      AreOlderOf (ran steps e m).state.moments (ran (steps ++ more) e m).state.moments
  more-grow [] more e m = runs-grow m.moments routines functions report_of more e (m, ([], refl))
  more-grow (statement_step line t ∷ steps) more e m =
      after-grows (ran steps) (ran (steps ++ more)) (more-grow steps more) e (on_turn of_measured_states line (flow-of t) m)
  more-grow (command_step c ∷ steps) more e m = more-grow steps more e (of_measured_states.obey functions c m)

pub first_items : FootprintsOfFirstItems
first_items script items more n =
    let definitions = definitions_of script.items in
    let functions = map (λ d. d.header.f) definitions in
    let routines = map routine definitions in
    let start : Measured = measure_of (with_ranges no_variables (beginning n)) in
    subst (λ ss. AreOlderOf (ran routines functions (report script) (filter_map step_of items) well start).state.moments
    (ran routines functions (report script) ss well start).state.moments)
    (sym (filter_map-append step_of items more))
    (more-grow routines functions (report script) (filter_map step_of items) (filter_map step_of more) well start)

-- what is so of all is so of the older ones
pub older-all : (P : ℕ → Type 0) (newer older : List ℕ) → AllByRecursion P (newer ++ older) → AllByRecursion P older
older-all P [] older all = all
older-all P (k ∷ newer) older all = older-all P newer older all.1

pub first_at_most_peak : FirstFootprintsAreAtMostPeak
first_at_most_peak script items more n whole =
    let P : ℕ → Type 0 = λ k. k ≤ peak script n in
    let older = first_items script items more n in
    let all : AllByRecursion P (measured_items script (items ++ more) n).state.moments =
    subst (λ (is : List Item). AllByRecursion P (measured_items script is n).state.moments) whole (at_most_peak script n) in
    older-all P older.0 (measured_items script items n).state.moments (subst (λ ks. AllByRecursion P ks) older.1 all)
