-- The footprint of a run: how many elements its variables and its statements in progress have at each moment. It is
-- carried along in ranged evaluation.
use Rattle.std.specs.Prelude.{ℕ, ◌+◌, ◌-◌, ◌==◌, min, max, ℤ, ◌-ℤ◌, unsigned_abs, Bool, true, false, ◌||◌, List, [], ◌∷◌, ◌++◌, map, length, remove, sum_by, unwrap_or, Option, Some, None, Result, Ok, Err, if◌then◌else◌}
use Rattle.std.specs.List.{filter_map}
use Rattle.std.specs.Option.{option_map}
use Rattle.apl_base.specs.declared.faults.ErrorKind.{ErrorKind}
use Rattle.apl_base.specs.declared.faults.ErrorKind.TheVariants as error
use Rattle.apl_base.specs.Array.{Array, size_of}
use Rattle.apl_model.specs.declared.functions.Axis.{Axis}
use Rattle.apl_model.specs.declared.functions.Axis.TheVariants.{Last, First, Numbered}
use Rattle.apl_model.specs.declared.functions.DyaFn.{DyaFn}
use Rattle.apl_model.specs.declared.functions.DyaFn.TheVariants as dyadic_fn
use Rattle.apl_model.specs.declared.functions.MonFn.{MonFn}
use Rattle.apl_model.specs.declared.functions.MonFn.TheVariants as monadic_fn
use Rattle.apl_model.specs.Agreement.{mapped_outcome}
use Rattle.apl_model.specs.Call.{States, calls_of}
use Rattle.apl_model.specs.Environment.{Bindings, Environment, look_up, no_variables}
use Rattle.apl_model.specs.Immediate.{Run, run_steps, definitions_of, routine, report, step_of, well, beginning}
use Rattle.apl_model.specs.Lift.{fitting_shape}
use Rattle.apl_model.specs.Order.{CallsOf, Values, flow_in}
use Rattle.apl_model.specs.Outcome.{Outcome, done, fails, spent, Flow}
use Rattle.apl_model.specs.Product.{left_axes, right_axes, left_length, right_length}
use Rattle.apl_model.specs.Tree.{Item, Script, Statement}
use Rattle.apl_model.specs.Whole.{count, rank, is_extendable, is_shape}
use Rattle.apl_cost.specs.Ranges.{RangedArray}
use Rattle.apl_cost.specs.RangedEvaluation.{RangedState, with_ranges, of_ranged, of_ranged_states}
use Rattle.apl_cost.specs.Plain.{plain_work, is_axis}
use Rattle.apl_cost.specs.Sharing.{only_shares}

-- a statement in progress: the elements of all values and new arrays that it has had, and its work where it is plain
pub record Progress : Type 0 where
  pub had : ℕ
  pub work : Option ℕ

-- a statement that ended: its number among the statements begun, its work where it began, whether it only shares
-- there, and whether it ended without error
pub record Finished : Type 0 where
  pub statement : Statement
  pub number : ℕ
  pub work : Option ℕ
  pub shares : Bool
  pub well : Bool

-- a state of ranged evaluation, the statements in progress, the innermost first, the footprints at the moments so far,
-- the newest first, and the statements that ended, in that order
pub record Measured : Type 0 where
  pub ranged : RangedState
  pub progress : List Progress
  pub moments : List ℕ
  pub finished : List Finished

-- nothing is in progress yet
abbrev pub measure_of : RangedState → Measured
measure_of s = record { ranged = s; progress = []; moments = []; finished = [] }

-- ---- the footprint

-- the elements of all variables of all frames and globals
abbrev pub elements_in : Bindings RangedArray → ℕ
elements_in bindings = sum_by (λ v. count v.array) (filter_map (λ b. b.1) bindings)

-- of all frames and globals
abbrev pub elements_of : Environment RangedArray → ℕ
elements_of e = elements_in e.globals + sum_by elements_in e.frames

-- what a statement in progress counts: for a plain one the lesser of what it has had and its work
abbrev pub capped : ℕ → Option ℕ → ℕ
capped had None = had
capped had (Some work) = min had work

-- what a statement in progress counts
abbrev pub counted : Progress → ℕ
counted p = capped p.had p.work

-- the footprint of a state: its variables and its statements in progress
abbrev pub footprint : Measured → ℕ
footprint m = elements_of m.ranged.variables + sum_by counted m.progress

-- the footprint is noted
abbrev pub noted : Measured → Measured
noted m = record m { moments = footprint m ∷ m.moments }

-- the innermost statement has had so many elements more
abbrev pub had_more : ℕ → List Progress → List Progress
had_more n [] = []
had_more n (p ∷ ps) = record p { had = p.had + n } ∷ ps

-- a moment: the innermost statement has so many elements more, and the footprint is noted
abbrev pub moment : ℕ → Measured → Measured
moment n m = noted (record m { progress = had_more n m.progress })

-- ---- results that count from where their shape is known

-- the lawful shape of a result, if there is one
abbrev pub lawful_shape : List ℕ → Option (List ℕ)
lawful_shape ns = if is_shape ns then Some ns else None

-- of a scalar function
abbrev pub result_shape1 : MonFn → Array → Option (List ℕ)
result_shape1 (monadic_fn.Scalar f) b = Some b.shape
result_shape1 f b = None

-- the shape that two arguments fit, if there is one
abbrev pub fitting : Result (List ℕ) ErrorKind → Option (List ℕ)
fitting (Ok ns) = Some ns
fitting (Err e) = None

-- of one of two arguments
abbrev pub result_shape2 : DyaFn → Array → Array → Option (List ℕ)
result_shape2 (dyadic_fn.Scalar f) a b = fitting (fitting_shape a.shape b.shape)
result_shape2 f a b = None

-- of a reduction, where there is the axis; a scalar is left as it is
abbrev pub axis_gone : ℤ → Axis → List ℕ → List ℕ
axis_gone o Last ns = remove ns (length ns - 1)
axis_gone o First ns = remove ns 0
axis_gone o (Numbered k) ns = remove ns (unsigned_abs (k -ℤ o))

-- the lawful shape of a reduction
abbrev pub reduction_shape : ℤ → Axis → Array → Option (List ℕ)
reduction_shape o axis b = if is_axis o axis (rank b) then lawful_shape (axis_gone o axis b.shape) else None

-- of an outer product
abbrev pub outer_shape : Array → Array → Option (List ℕ)
outer_shape a b = lawful_shape (a.shape ++ b.shape)

-- of an inner product, where an argument extends or the axes are alike
abbrev pub inner_shape : Array → Array → Option (List ℕ)
inner_shape a b =
    if is_extendable a || is_extendable b || (left_length a == right_length b)
    then lawful_shape (left_axes a ++ right_axes b)
    else None

-- ---- what is done with arrays

-- the measure beside what ranged evaluation comes to
abbrev pub measured : {A : Type 0} → Measured → Outcome RangedState A → Outcome Measured A
measured m o = mapped_outcome (λ s. record m { ranged = s }) (λ a. a) o

-- where a value is had, that is a moment
abbrev pub valued : Outcome Measured RangedArray → Outcome Measured RangedArray
valued (done v m) = done v (moment (count v.array) m)
valued (fails kind place m) = fails kind place m
valued (spent m) = spent m

-- a function whose result counts from where it has a lawful shape, also where an error follows
abbrev pub valued_from : Option (List ℕ) → Measured → (Measured → Outcome Measured RangedArray) → Outcome Measured RangedArray
valued_from (Some ns) m act = act (moment (size_of ns) m)
valued_from None m act = valued (act m)

-- a call's result, where it has one
abbrev pub resulted : Outcome Measured (Option RangedArray) → Outcome Measured (Option RangedArray)
resulted (done (Some v) m) = done (Some v) (moment (count v.array) m)
resulted (done None m) = done None m
resulted (fails kind place m) = fails kind place m
resulted (spent m) = spent m

-- the elements of a variable's array
abbrev pub elements_named : List ℕ → RangedState → ℕ
elements_named name s = unwrap_or (option_map (λ v. count v.array) (look_up s.variables name)) 0

-- an indexed assignment has its new array, and then its value
abbrev pub written_value : List ℕ → Outcome Measured RangedArray → Outcome Measured RangedArray
written_value name (done v m) = done v (moment (count v.array) (moment (elements_named name m.ranged) m))
written_value name (fails kind place m) = fails kind place m
written_value name (spent m) = spent m

-- what is done with arrays in ranged evaluation; a call stands for none of it
abbrev pub ranged_arrays : Values RangedState RangedArray
ranged_arrays = of_ranged (λ f place left right s. fails error.Value place s)

-- what is done with arrays, and what is noted, where this is what calls mean
abbrev pub of_measured : CallsOf Measured RangedArray → Values Measured RangedArray
of_measured calls = record {
  literal = λ l m. valued (measured m (ranged_arrays.literal l m.ranged));
  name = λ name place m. valued (measured m (ranged_arrays.name name place m.ranged));
  apply1 = λ f b place m. valued_from (result_shape1 f b.array) m (λ n. measured n (ranged_arrays.apply1 f b place n.ranged));
  apply2 = λ f a b place m. valued_from (result_shape2 f a.array b.array) m (λ n. measured n (ranged_arrays.apply2 f a b place n.ranged));
  reduce = λ f axis b place m. valued_from (reduction_shape m.ranged.variables.origin axis b.array) m
      (λ n. measured n (ranged_arrays.reduce f axis b place n.ranged));
  outer = λ f a b place m. valued_from (outer_shape a.array b.array) m (λ n. measured n (ranged_arrays.outer f a b place n.ranged));
  inner = λ f g a b place m. valued_from (inner_shape a.array b.array) m (λ n. measured n (ranged_arrays.inner f g a b place n.ranged));
  index = λ a ps place m. valued (measured m (ranged_arrays.index a ps place m.ranged));
  assign = λ name a m. valued (measured m (ranged_arrays.assign name a m.ranged));
  replace = λ name ps b place m. written_value name (measured m (ranged_arrays.replace name ps b place m.ranged));
  calls = λ f place left right m. resulted (calls f place left right m);
  print = λ a m. valued (measured m (ranged_arrays.print a m.ranged));
  need = λ place a m. measured m (ranged_arrays.need place a m.ranged);
  branch = λ place a m. measured m (ranged_arrays.branch place a m.ranged);
  show = λ a m. measured m (ranged_arrays.show a m.ranged);
}

-- ---- statements in progress

-- a statement begins, and has had nothing
abbrev pub begun_statement : Progress
begun_statement = record { had = 0; work = None }

-- whether it is plain is judged where it begins
abbrev pub judged_by : Option ℕ → List Progress → List Progress
judged_by work [] = []
judged_by work (p ∷ ps) = record p { work = work } ∷ ps

-- the state with the statement judged that has begun
abbrev pub judged : Statement → Measured → Measured
judged t m = record m { progress = judged_by (plain_work m.ranged t) m.progress }

-- the statements in progress but for the innermost
abbrev pub innermost_ended : List Progress → List Progress
innermost_ended [] = []
innermost_ended (p ∷ ps) = ps

-- a state of ranged evaluation in place of the measure's own
abbrev pub with_ranged : Measured → RangedState → Measured
with_ranged m s = record m { ranged = s }

-- what turns, calls and commands do: a statement in progress begins and ends with its turn
abbrev pub of_measured_states : States Measured RangedArray
of_measured_states = record {
  turns = λ m. m.ranged.turns;
  begun = λ m. m.ranged.begun;
  begin = λ left m. record (with_ranged m (of_ranged_states.begin left m.ranged)) { progress = begun_statement ∷ m.progress };
  end = λ line number m. record (with_ranged m (of_ranged_states.end line number m.ranged)) { progress = innermost_ended m.progress };
  enter = λ header labels left right m. with_ranged m (of_ranged_states.enter header labels left right m.ranged);
  result = λ name m. of_ranged_states.result name m.ranged;
  leave = λ m. with_ranged m (of_ranged_states.leave m.ranged);
  unwind = λ m. record (with_ranged m (of_ranged_states.unwind m.ranged)) { progress = [] };
  tell = λ text m. with_ranged m (of_ranged_states.tell text m.ranged);
  obey = λ functions c m. with_ranged m (of_ranged_states.obey functions c m.ranged);
}

-- ---- statements that ended

-- the statement that began at this state, and whether it ended without error
abbrev pub finished_from : Statement → RangedState → Bool → Finished
finished_from t s without_error =
    record { statement = t; number = s.begun; work = plain_work s t; shares = only_shares s t; well = without_error }

-- one more that ended
abbrev pub with_finished : Finished → Measured → Measured
with_finished f m = record m { finished = m.finished ++ f ∷ [] }

-- what came of a statement, which is entered where it ended; one that a spent budget cut off is not
abbrev pub entered_from : Statement → RangedState → Outcome Measured Flow → Outcome Measured Flow
entered_from t s (done flow m) = done flow (with_finished (finished_from t s true) m)
entered_from t s (fails kind place m) = fails kind place (with_finished (finished_from t s false) m)
entered_from t s (spent m) = spent m

-- ---- the run of a script

-- what a statement does, where this is what calls mean
abbrev pub measured_flow : CallsOf Measured RangedArray → Statement → Measured → Outcome Measured Flow
measured_flow calls t m = entered_from t m.ranged (flow_in (of_measured calls) t (judged t m))

-- the run of these items of a script from a state, with its footprints
abbrev pub measured_from : Script → List Item → Measured → Run Measured
measured_from script items m =
    let definitions = definitions_of script.items in
    run_steps of_measured_states (measured_flow (calls_of of_measured_states measured_flow (map routine definitions)))
    (map (λ d. d.header.f) definitions) (report script) (filter_map step_of items) well m

-- with n turns, from no variables
abbrev pub measured_items : Script → List Item → ℕ → Run Measured
measured_items script items n =
    measured_from script items (measure_of (with_ranges no_variables (beginning n)))

-- the footprints at the moments of a script's run, the newest first
abbrev pub footprints : Script → ℕ → List ℕ
footprints script n = (measured_items script script.items n).state.moments

-- the greatest of them, or 0
abbrev pub greatest : List ℕ → ℕ
greatest [] = 0
greatest (n ∷ ns) = max n (greatest ns)

-- the greatest footprint of a script's run with n turns, or 0
abbrev pub peak : Script → ℕ → ℕ
peak script n = greatest (footprints script n)
