-- Forgetting the footprints gives ranged evaluation.
use Rattle.std.proofs.Common.{◌≡◌, ◌≤◌, max, arith, ℕ, List, [], ◌∷◌, map, Option, Some, None, refl, sym, ap, ◌∙◌}
use Rattle.std.specs.List.{filter_map, AllByRecursion}
use Rattle.std.specs.Option.{option_map}
use Rattle.apl_base.specs.Array.{size_of}
use Rattle.apl_model.specs.declared.scripts.Header.{Header}
use Rattle.apl_model.specs.Agreement.{mapped_outcome, mapped_flow, mapped_step, mapped_routine, CallsAgree, ValuesAgree, StatesAgree, MeaningsAgree}
use Rattle.apl_model.specs.Call.{calls_of}
use Rattle.apl_model.specs.Immediate.{Step, statement_step, command_step, routine, definitions_of, report, step_of, well, beginning, run_steps}
use Rattle.apl_model.specs.Environment.{no_variables}
use Rattle.apl_model.specs.Order.{CallsOf, flow_in}
use Rattle.apl_model.specs.Outcome.{Outcome, done, fails, spent, Flow}
use Rattle.apl_model.specs.Tree.{Statement}
use Rattle.apl_model.proofs.Agreement.{statements_agree, runs_agree, routines-same, option-same, options-same}
use Rattle.apl_cost.specs.Ranges.{RangedArray}
use Rattle.apl_cost.specs.RangedEvaluation.{RangedState, with_ranges, with_call, of_ranged, of_ranged_states, ranged_flow}
use Rattle.apl_cost.specs.Footprint.{Measured, measured, valued, valued_from, resulted, written_value, moment, of_measured, of_measured_states, measured_flow, measure_of, entered_from, judged, ranged_arrays, result_shape1, result_shape2, reduction_shape, outer_shape, inner_shape, greatest, footprints}
use Rattle.apl_cost.specs.Laws.{MeasuresForget, FootprintsAreAtMostPeak}

-- the state of ranged evaluation
abbrev unmeasured : Measured → RangedState
unmeasured m = m.ranged

-- an outcome without its measures
abbrev plain_outcome : {A : Type 0} → Outcome Measured A → Outcome RangedState A
plain_outcome o = mapped_outcome unmeasured (λ a. a) o

measured-forgets : {A : Type 0} (m : Measured) (o : Outcome RangedState A) → o ≡ plain_outcome (measured m o)
measured-forgets m (done a s) = refl
measured-forgets m (fails kind place s) = refl
measured-forgets m (spent s) = refl

valued-forgets : (o : Outcome Measured RangedArray) → plain_outcome o ≡ plain_outcome (valued o)
valued-forgets (done v m) = refl
valued-forgets (fails kind place m) = refl
valued-forgets (spent m) = refl

written-forgets : (name : List ℕ) (o : Outcome Measured RangedArray) → plain_outcome o ≡ plain_outcome (written_value name o)
written-forgets name (done v m) = refl
written-forgets name (fails kind place m) = refl
written-forgets name (spent m) = refl

resulted-forgets : (o : Outcome Measured (Option RangedArray)) →
    mapped_outcome unmeasured (option_map (λ v. v)) o ≡ mapped_outcome unmeasured (option_map (λ v. v)) (resulted o)
resulted-forgets (done (Some v) m) = refl
resulted-forgets (done None m) = refl
resulted-forgets (fails kind place m) = refl
resulted-forgets (spent m) = refl

-- a value that is had
had-forgets : (m : Measured) (o : Outcome RangedState RangedArray) → o ≡ plain_outcome (valued (measured m o))
had-forgets m o = measured-forgets m o ∙ valued-forgets (measured m o)

-- a value that counts from where its shape is known
from-forgets : (shape : Option (List ℕ)) (m : Measured) (act : RangedState → Outcome RangedState RangedArray) →
    act m.ranged ≡ plain_outcome (valued_from shape m (λ n. measured n (act n.ranged)))
from-forgets (Some ns) m act = measured-forgets (moment (size_of ns) m) (act m.ranged)
from-forgets None m act = had-forgets m (act m.ranged)

calls-forget : (calls : CallsOf Measured RangedArray) (others : CallsOf RangedState RangedArray) → CallsAgree unmeasured (λ v. v) calls others →
    CallsAgree unmeasured (λ v. v) (of_measured calls).calls others
calls-forget calls others h = record { agree = λ f place left right m. h.agree f place left right m ∙ resulted-forgets (calls f place left right m) }

pub values-forget : (calls : CallsOf Measured RangedArray) (others : CallsOf RangedState RangedArray) → CallsAgree unmeasured (λ v. v) calls others →
    ValuesAgree unmeasured (λ v. v) (of_measured calls) (of_ranged others)
values-forget calls others h = record {
  literal = λ l m. had-forgets m (ranged_arrays.literal l m.ranged);
  name = λ name place m. had-forgets m (ranged_arrays.name name place m.ranged);
  apply1 = λ f b place m. from-forgets (result_shape1 f b.array) m (ranged_arrays.apply1 f b place);
  apply2 = λ f a b place m. from-forgets (result_shape2 f a.array b.array) m (ranged_arrays.apply2 f a b place);
  reduce = λ f axis b place m. from-forgets (reduction_shape m.ranged.variables.origin axis b.array) m (ranged_arrays.reduce f axis b place);
  outer = λ f a b place m. from-forgets (outer_shape a.array b.array) m (ranged_arrays.outer f a b place);
  inner = λ f g a b place m. from-forgets (inner_shape a.array b.array) m (ranged_arrays.inner f g a b place);
  index = λ a ps place m. ap (λ qs. ranged_arrays.index a qs place m.ranged) (options-same ps) ∙ had-forgets m (ranged_arrays.index a ps place m.ranged);
  assign = λ name a m. had-forgets m (ranged_arrays.assign name a m.ranged);
  replace = λ name ps b place m. ap (λ qs. ranged_arrays.replace name qs b place m.ranged) (options-same ps)
      ∙ measured-forgets m (ranged_arrays.replace name ps b place m.ranged)
      ∙ written-forgets name (measured m (ranged_arrays.replace name ps b place m.ranged));
  calls = calls-forget calls others h;
  print = λ a m. had-forgets m (ranged_arrays.print a m.ranged);
  need = λ place a m. ap (λ v. ranged_arrays.need place v m.ranged) (option-same a) ∙ measured-forgets m (ranged_arrays.need place a m.ranged);
  branch = λ place a m. measured-forgets m (ranged_arrays.branch place a m.ranged);
  show = λ a m. ap (λ v. ranged_arrays.show v m.ranged) (option-same a) ∙ measured-forgets m (ranged_arrays.show a m.ranged);
}

enter-forgets : (header : Header) (labels : List (Option (List ℕ))) (left right : Option RangedArray) (m : Measured) →
    with_call header labels (option_map (λ v. v) left) (option_map (λ v. v) right) m.ranged ≡ with_call header labels left right m.ranged
enter-forgets header labels left right m =
    ap (λ l. with_call header labels l (option_map (λ v. v) right) m.ranged) (option-same left)
    ∙ ap (λ r. with_call header labels left r m.ranged) (option-same right)

pub states-forget : StatesAgree unmeasured (λ v. v) of_measured_states of_ranged_states
states-forget = record {
  turns = λ m. refl;
  begun = λ m. refl;
  begin = λ left m. refl;
  end = λ line number m. refl;
  enter = enter-forgets;
  result = λ name m. sym (option-same (of_ranged_states.result name m.ranged));
  leave = λ m. refl;
  unwind = λ m. refl;
  tell = λ text m. refl;
  obey = λ functions c m. refl;
}

-- a statement that is entered as ended
entered-forgets : (t : Statement) (s : RangedState) (o : Outcome Measured Flow) → mapped_flow unmeasured o ≡ mapped_flow unmeasured (entered_from t s o)
entered-forgets t s (done flow m) = refl
entered-forgets t s (fails kind place m) = refl
entered-forgets t s (spent m) = refl

pub meanings-forget : MeaningsAgree unmeasured (λ v. v) (λ (p : Statement). p) measured_flow ranged_flow
meanings-forget = record {
  agree = λ calls others h t m.
      statements_agree Measured RangedState RangedArray RangedArray unmeasured (λ v. v) (of_measured calls) (of_ranged others)
      (values-forget calls others h) t (judged t m)
      ∙ entered-forgets t m.ranged (flow_in (of_measured calls) t (judged t m));
}

step-same : (step : Step Statement) → mapped_step (λ (p : Statement). p) step ≡ step
step-same (statement_step line p) = refl
step-same (command_step c) = refl

pub steps-same : (steps : List (Step Statement)) → map (mapped_step (λ (p : Statement). p)) steps ≡ steps
steps-same [] = refl
steps-same (s ∷ ss) = ap (λ x. x ∷ map (mapped_step (λ (p : Statement). p)) ss) (step-same s) ∙ ap (λ xs. s ∷ xs) (steps-same ss)

pub measures_forget : MeasuresForget
measures_forget script items n =
    let definitions = definitions_of script.items in
    let functions = map (λ d. d.header.f) definitions in
    let routines = map routine definitions in
    let steps = filter_map step_of items in
    let start : Measured = measure_of (with_ranges no_variables (beginning n)) in
    ap (λ rs. run_steps of_ranged_states (ranged_flow (calls_of of_ranged_states ranged_flow rs)) functions (report script) steps well start.ranged)
    (sym (routines-same routines))
    ∙ ap (λ ss. run_steps of_ranged_states (ranged_flow (calls_of of_ranged_states ranged_flow
    (map (mapped_routine (λ (p : Statement). p)) routines))) functions (report script) ss well start.ranged) (sym (steps-same steps))
    ∙ runs_agree Measured RangedState RangedArray RangedArray Statement Statement unmeasured (λ v. v)
    (λ p. p) of_measured_states of_ranged_states measured_flow ranged_flow
    states-forget meanings-forget routines functions (report script) steps well start

-- ---- the greatest of a list

weaker : (a b : ℕ) → a ≤ b → (ns : List ℕ) → AllByRecursion (λ k. k ≤ a) ns → AllByRecursion (λ k. k ≤ b) ns
weaker a b h [] all = tt
weaker a b h (n ∷ ns) all = (let least : n ≤ a = all.0 in omega arith, weaker a b h ns all.1)

pub at-most-greatest : (ns : List ℕ) → AllByRecursion (λ k. k ≤ greatest ns) ns
at-most-greatest [] = tt
at-most-greatest (n ∷ ns) = (omega arith, weaker (greatest ns) (max n (greatest ns)) (omega arith) ns (at-most-greatest ns))

pub at_most_peak : FootprintsAreAtMostPeak
at_most_peak script n = at-most-greatest (footprints script n)
