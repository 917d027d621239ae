-- Ranged evaluation: evaluation with an interval beside each array and each variable. The order, the calls, the lines
-- and the turns are those of evaluation, and so is all that is done with the arrays.
use Rattle.std.specs.Prelude.{ℕ, List, ◌++◌, map, Option, Some, None}
use Rattle.std.specs.List.{filter_map}
use Rattle.std.specs.Option.{option_map}
use Rattle.apl_base.specs.declared.faults.ErrorKind.TheVariants as error
use Rattle.apl_base.specs.declared.faults.Place.{Place}
use Rattle.apl_base.specs.Array.{Array}
use Rattle.apl_model.specs.declared.scripts.Command.{Command}
use Rattle.apl_model.specs.declared.scripts.Command.TheVariants.{Vars, Fns, Erase, Origin}
use Rattle.apl_model.specs.declared.scripts.Header.{Header}
use Rattle.apl_model.specs.Agreement.{mapped_outcome}
use Rattle.apl_model.specs.Call.{States, calls_of}
use Rattle.apl_model.specs.Environment.{Environment, look_up, set_name, erased, with_frame, without_frame, without_frames, with_origin, no_variables, mapped}
use Rattle.apl_model.specs.Evaluation.{State, Ended, at_place, of_arrays, origin_of, replace_in}
use Rattle.apl_model.specs.Frames.{frame_of, result_in, line_number, with_turn, with_ended}
use Rattle.apl_model.specs.Immediate.{Run, run_steps, definitions_of, routine, report, step_of, well, obeyed, beginning}
use Rattle.apl_model.specs.Order.{CallsOf, Values, flow_in}
use Rattle.apl_model.specs.Outcome.{Outcome, done, fails, and_then, Flow}
use Rattle.apl_model.specs.Tree.{Item, Script, Statement}
use Rattle.apl_cost.specs.Ranges.{RangedArray, array_of, ranged, bound, literal_source, name_source, scalar2_source, bound_source, write_source, other_source, source1, source2, subscript_source, written}

-- where a run stands: a state of evaluation whose variables have their intervals beside them
pub record RangedState : Type 0 where
  pub variables : Environment RangedArray
  pub printed : List ℕ
  pub turns : ℕ
  pub begun : ℕ
  pub ended : List Ended

-- the state without the intervals
abbrev pub forgotten : RangedState → State
forgotten s = record { variables = mapped array_of s.variables; printed = s.printed; turns = s.turns; begun = s.begun; ended = s.ended }

-- a state of evaluation with these variables in place of its own
abbrev pub with_ranges : Environment RangedArray → State → RangedState
with_ranges e s = record { variables = e; printed = s.printed; turns = s.turns; begun = s.begun; ended = s.ended }

-- the state with other variables
abbrev pub with_variables : Environment RangedArray → RangedState → RangedState
with_variables e s = record s { variables = e }

-- with the name set
abbrev pub with_name : List ℕ → RangedArray → RangedState → RangedState
with_name name v s = with_variables (set_name s.variables name v) s

-- ---- what is done with arrays

-- what evaluation does, over the variables as they are, with what comes of it seen through `value`
abbrev pub beside : {A B : Type 0} → (A → B) → RangedState → (State → Outcome State A) → Outcome RangedState B
beside value s act = mapped_outcome (with_ranges s.variables) value (act (forgotten s))

-- where a value is needed and there is none, VALUE ERROR
abbrev pub needed : Place → Option RangedArray → RangedState → Outcome RangedState RangedArray
needed place (Some v) s = done v s
needed place None s = fails error.Value place s

-- a variable's value, with the interval that is kept with it
abbrev pub of_variable : RangedArray → RangedArray
of_variable v = ranged (name_source v.kept) v.array

-- the arrays of the positions
abbrev pub arrays_of : List (Option RangedArray) → List (Option Array)
arrays_of ps = map (option_map array_of) ps

-- the value is bound to the name
abbrev pub assign_name : List ℕ → RangedArray → RangedState → Outcome RangedState RangedArray
assign_name name v s = done (bound v) (with_name name (bound v) s)

-- an indexed assignment: the variable gets its new array, and the value is what was assigned
abbrev pub replace_name : List ℕ → List (Option RangedArray) → RangedArray → Place → RangedState → Outcome RangedState RangedArray
replace_name name ps b place s =
    let old = look_up s.variables name in
    and_then (beside (written old (arrays_of ps) b) s (λ t. at_place place (replace_in (origin_of t) (option_map array_of old) (arrays_of ps) b.array) t))
    (λ a t. done (ranged (write_source b) b.array) (with_name name a t))

-- what is done with arrays in evaluation; a call stands for none of it
abbrev pub arrays : Values State Array
arrays = of_arrays (λ f place left right s. fails error.Value place s)

-- what is done with arrays that have intervals, where this is what calls mean
abbrev pub of_ranged : CallsOf RangedState RangedArray → Values RangedState RangedArray
of_ranged calls = record {
  literal = λ l s. beside (ranged literal_source) s (arrays.literal l);
  name = λ name place s. needed place (option_map of_variable (look_up s.variables name)) s;
  apply1 = λ f b place s. beside (ranged (source1 f b)) s (arrays.apply1 f b.array place);
  apply2 = λ f a b place s. beside (ranged (source2 f a b)) s (arrays.apply2 f a.array b.array place);
  reduce = λ f axis b place s. beside (ranged other_source) s (arrays.reduce f axis b.array place);
  outer = λ f a b place s. beside (ranged (scalar2_source f a b)) s (arrays.outer f a.array b.array place);
  inner = λ f g a b place s. beside (ranged other_source) s (arrays.inner f g a.array b.array place);
  index = λ a ps place s. beside (ranged (subscript_source a (arrays_of ps))) s (arrays.index a.array (arrays_of ps) place);
  assign = assign_name;
  replace = replace_name;
  calls = calls;
  print = λ v s. beside (ranged (bound_source v)) s (arrays.print v.array);
  need = needed;
  branch = λ place v s. beside (λ flow. flow) s (arrays.branch place v.array);
  show = λ v s. beside (λ flow. flow) s (arrays.show (option_map array_of v));
}

-- ---- what turns, calls and commands do

-- the value of a label: the number of its line
abbrev pub ranged_line : ℕ → RangedArray
ranged_line k = ranged literal_source (line_number k)

-- a call begins: its arguments are bound
abbrev pub with_call : Header → List (Option (List ℕ)) → Option RangedArray → Option RangedArray → RangedState → RangedState
with_call header labels left right s =
    with_variables (with_frame (frame_of ranged_line header labels (option_map bound left) (option_map bound right)) s.variables) s

-- what a command does to the variables
abbrev pub commanded : Command → Environment RangedArray → Environment RangedArray
commanded Vars e = e
commanded Fns e = e
commanded (Erase names) e = erased names e
commanded (Origin o) e = with_origin o e

-- turns, calls and commands do to a state without its intervals what they do in evaluation
abbrev pub of_ranged_states : States RangedState RangedArray
of_ranged_states = record {
  turns = λ s. s.turns;
  begun = λ s. s.begun;
  begin = λ left s. with_ranges s.variables (with_turn left (forgotten s));
  end = λ line number s. with_ranges s.variables (with_ended line number (forgotten s));
  enter = with_call;
  result = λ name s. option_map of_variable (result_in s.variables name);
  leave = λ s. with_variables (without_frame s.variables) s;
  unwind = λ s. with_variables (without_frames s.variables) s;
  tell = λ text s. record s { printed = s.printed ++ text };
  obey = λ functions c s. with_ranges (commanded c s.variables) (obeyed functions c (forgotten s));
}

-- ---- the run of a script

-- what a statement does, where this is what calls mean
abbrev pub ranged_flow : CallsOf RangedState RangedArray → Statement → RangedState → Outcome RangedState Flow
ranged_flow calls t s = flow_in (of_ranged calls) t s

-- the ranged run of these items of a script from a state
abbrev pub ranged_from : Script → List Item → RangedState → Run RangedState
ranged_from script items s =
    let definitions = definitions_of script.items in
    run_steps of_ranged_states (ranged_flow (calls_of of_ranged_states ranged_flow (map routine definitions)))
    (map (λ d. d.header.f) definitions) (report script) (filter_map step_of items) well s

-- the ranged run of these items of a script, with n turns
abbrev pub ranged_items : Script → List Item → ℕ → Run RangedState
ranged_items script items n = ranged_from script items (with_ranges no_variables (beginning n))
