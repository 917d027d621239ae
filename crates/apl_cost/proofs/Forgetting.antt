-- Forgetting the intervals gives evaluation.
use Rattle.std.proofs.Common.{◌≡◌, ℕ, Bool, true, false, subst, List, map, Option, Some, None, Ok, Err, refl, sym, ap, ◌∙◌}
use Rattle.std.specs.Option.{option_map}
use Rattle.std.specs.List.{filter_map}
use Rattle.apl_base.specs.declared.faults.Place.{Place}
use Rattle.apl_base.specs.Array.{Array}
use Rattle.apl_model.specs.declared.scripts.Command.{Command}
use Rattle.apl_model.specs.declared.scripts.Command.TheVariants.{Vars, Fns, Erase, Origin}
use Rattle.apl_model.specs.declared.scripts.Header.{Header}
use Rattle.apl_model.specs.Agreement.{mapped_outcome, mapped_flow, CallsAgree, ValuesAgree, StatesAgree, MeaningsAgree}
use Rattle.apl_model.specs.Call.{call_within}
use Rattle.apl_model.specs.Environment.{Environment, Bindings, look_up, set_name, mapped, with_frame, without_frame, no_variables}
use Rattle.apl_model.specs.Evaluation.{State, Calls, at_place, of_arrays, origin_of, replace_in, monadic_value, dyadic_value, statement_flow}
use Rattle.apl_model.specs.Evaluation as evaluation
use Rattle.apl_model.specs.Frames as frames
use Rattle.apl_model.specs.Frames.{frame_of, line_number, result_in}
use Rattle.apl_model.specs.Immediate.{of_states, routine, told, obeyed, definitions_of, report, step_of, well, beginning}
use Rattle.apl_model.specs.Order.{CallsOf}
use Rattle.apl_model.specs.Outcome.{done, and_then, Flow}
use Rattle.apl_model.specs.Product as product
use Rattle.apl_model.specs.Subscript as places
use Rattle.apl_model.specs.Tree.{Statement}
use Rattle.apl_model.specs.Whole.{Answer, is_empty, is_text}
use Rattle.apl_model.proofs.Agreement.{expressions_agree, statements_agree, functions_agree, runs_over_values_agree, routines-same}
use Rattle.apl_model.proofs.Mapped.{look_up_is_mapped, set_name_is_mapped, erased_is_mapped, without_frame-mapped, frame_is_mapped, result_is_mapped}
use Rattle.apl_cost.specs.Ranges.{RangedArray, array_of, ranged, bound, written, write_source, other_source, scalar2_source, source1, source2, subscript_source}
use Rattle.apl_cost.specs.RangedEvaluation.{RangedState, forgotten, with_ranges, with_variables, with_name, beside, needed, of_variable, arrays_of, of_ranged, replace_name, of_ranged_states, ranged_flow, ranged_line, commanded, with_call}
use Rattle.apl_cost.specs.Laws.{ExpressionsForget, StatementsForget, CallsForget, RunsForget, ImmediateForgets}

-- two maps of options in a row are one
option-map-map : {A B C : Type 0} (f : A → B) (g : B → C) (h : A → C) → ((a : A) → g (f a) ≡ h a) → (o : Option A) →
    option_map g (option_map f o) ≡ option_map h o
option-map-map f g h e None = refl
option-map-map f g h e (Some a) = ap (λ x. Some x) (e a)

-- an outcome over the same variables, seen without intervals, is that of evaluation
at-place-forgets : (value : Array → RangedArray) → ((a : Array) → (value a).array ≡ a) → (place : Place) (answer : Answer) (s : RangedState) →
    at_place place answer (forgotten s) ≡ mapped_outcome forgotten array_of (beside value s (at_place place answer))
at-place-forgets value h place (Ok a) s = ap (λ b. done b (forgotten s)) (sym (h a))
at-place-forgets value h place (Err kind) s = refl

-- ---- what is done with arrays

needed-forgets : (place : Place) (v : Option RangedArray) (s : RangedState) →
    evaluation.needed place (option_map array_of v) (forgotten s) ≡ mapped_outcome forgotten array_of (needed place v s)
needed-forgets place (Some v) s = refl
needed-forgets place None s = refl

-- a variable's value is its array
variable-forgets : (v : Option RangedArray) → option_map array_of (option_map of_variable v) ≡ option_map array_of v
variable-forgets v = option-map-map of_variable array_of array_of (λ a. refl) v

-- and so is what is bound
bound-forgets : (v : Option RangedArray) → option_map array_of (option_map bound v) ≡ option_map array_of v
bound-forgets v = option-map-map bound array_of array_of (λ a. refl) v

name-forgets : (name : List ℕ) (place : Place) (s : RangedState) →
    evaluation.needed place (look_up (forgotten s).variables name) (forgotten s)
    ≡ mapped_outcome forgotten array_of (needed place (option_map of_variable (look_up s.variables name)) s)
name-forgets name place s =
    ap (λ v. evaluation.needed place v (forgotten s)) (look_up_is_mapped RangedArray Array array_of s.variables name
    ∙ sym (variable-forgets (look_up s.variables name)))
    ∙ needed-forgets place (option_map of_variable (look_up s.variables name)) s

set-forgets : (name : List ℕ) (v : RangedArray) (s : RangedState) →
    set_name (mapped array_of s.variables) name v.array ≡ mapped array_of (set_name s.variables name v)
set-forgets name v s = set_name_is_mapped RangedArray Array array_of s.variables name v

named-forgets : (name : List ℕ) (v : RangedArray) (s : RangedState) →
    evaluation.with_name name v.array (forgotten s) ≡ forgotten (with_name name v s)
named-forgets name v s = ap (λ (e : Environment Array). record (forgotten s) { variables = e }) (set-forgets name v s)

assign-forgets : (name : List ℕ) (v : RangedArray) (s : RangedState) →
    done v.array (evaluation.with_name name v.array (forgotten s)) ≡ mapped_outcome forgotten array_of (done (bound v) (with_name name (bound v) s))
assign-forgets name v s = ap (λ t. done v.array t) (named-forgets name (bound v) s)

written-forgets : (old : Option RangedArray) (ps : List (Option Array)) (b : RangedArray) (a : Array) → (written old ps b a).array ≡ a
written-forgets None ps b a = refl
written-forgets (Some old) ps b a = refl

write-forgets : (name : List ℕ) (old : Option RangedArray) (ps : List (Option Array)) (b : RangedArray) (place : Place) (answer : Answer) (s : RangedState) →
    and_then (at_place place answer (forgotten s)) (λ a t. done b.array (evaluation.with_name name a t))
    ≡ mapped_outcome forgotten array_of (and_then (beside (written old ps b) s (at_place place answer))
    (λ a t. done (ranged (write_source b) b.array) (with_name name a t)))
write-forgets name old ps b place (Ok a) s =
    ap (λ x. done b.array (evaluation.with_name name x (forgotten s))) (sym (written-forgets old ps b a))
    ∙ ap (λ t. done b.array t) (named-forgets name (written old ps b a) s)
write-forgets name old ps b place (Err kind) s = refl

replace-forgets : (name : List ℕ) (ps : List (Option RangedArray)) (b : RangedArray) (place : Place) (s : RangedState) →
    evaluation.replace_name name (arrays_of ps) b.array place (forgotten s) ≡ mapped_outcome forgotten array_of (replace_name name ps b place s)
replace-forgets name ps b place s =
    let old = look_up s.variables name in
    ap (λ v. and_then (at_place place (replace_in (origin_of (forgotten s)) v (arrays_of ps) b.array) (forgotten s))
    (λ a t. done b.array (evaluation.with_name name a t)))
    (look_up_is_mapped RangedArray Array array_of s.variables name)
    ∙ write-forgets name old (arrays_of ps) b place (replace_in (origin_of (forgotten s)) (option_map array_of old) (arrays_of ps) b.array) s

branch-forgets : (x y : Bool) (a : Array) (place : Place) (s : RangedState) →
    evaluation.branch_by x y a place (forgotten s) ≡ mapped_flow forgotten (beside (λ (flow : Flow). flow) s (evaluation.branch_by x y a place))
branch-forgets true y a place s = refl
branch-forgets false true a place s = refl
branch-forgets false false a place s = refl

show-forgets : (v : Option RangedArray) (s : RangedState) →
    evaluation.print_result (option_map array_of v) (forgotten s) ≡ mapped_flow forgotten
    (beside (λ (flow : Flow). flow) s (evaluation.print_result (option_map array_of v)))
show-forgets (Some v) s = refl
show-forgets None s = refl

pub values-forget : (ranged_calls : CallsOf RangedState RangedArray) (calls : Calls) → CallsAgree forgotten array_of ranged_calls calls →
    ValuesAgree forgotten array_of (of_ranged ranged_calls) (of_arrays calls)
values-forget ranged_calls calls agree = record {
  literal = λ l s. refl;
  name = name-forgets;
  apply1 = λ f b place s. at-place-forgets (ranged (source1 f b)) (λ a. refl) place (monadic_value (origin_of (forgotten s)) f b.array) s;
  apply2 = λ f a b place s. at-place-forgets (ranged (source2 f a b)) (λ a. refl) place (dyadic_value (origin_of (forgotten s)) f a.array b.array) s;
  reduce = λ f axis b place s. at-place-forgets (ranged other_source) (λ a. refl) place (product.reduce (origin_of (forgotten s)) f axis b.array) s;
  outer = λ f a b place s. at-place-forgets (ranged (scalar2_source f a b)) (λ a. refl) place (product.outer f a.array b.array) s;
  inner = λ f g a b place s. at-place-forgets (ranged other_source) (λ a. refl) place (product.inner f g a.array b.array) s;
  index = λ a ps place s. at-place-forgets (ranged (subscript_source a (arrays_of ps))) (λ a. refl) place
      (places.subscript (origin_of (forgotten s)) a.array (arrays_of ps)) s;
  assign = assign-forgets;
  replace = replace-forgets;
  calls = agree;
  print = λ v s. refl;
  need = needed-forgets;
  branch = λ place v s. branch-forgets (is_empty v.array) (is_text v.array) v.array place s;
  show = show-forgets;
}

-- ---- what turns, calls and commands do

enter-forgets : (header : Header) (labels : List (Option (List ℕ))) (left right : Option RangedArray) (s : RangedState) →
    frames.with_call header labels (option_map array_of left) (option_map array_of right) (forgotten s) ≡ forgotten (with_call header labels left right s)
enter-forgets header labels left right s =
    let framed : Option Array → Option Array → State =
    λ l r. record (forgotten s) { variables = with_frame (frame_of line_number header labels l r) (mapped array_of s.variables) } in
    ap (λ l. framed l (option_map array_of right)) (sym (bound-forgets left))
    ∙ ap (λ r. framed (option_map array_of (option_map bound left)) r) (sym (bound-forgets right))
    ∙ ap (λ (f : Bindings Array). record (forgotten s) { variables = with_frame f (mapped array_of s.variables) })
    (frame_is_mapped RangedArray Array array_of ranged_line header labels (option_map bound left) (option_map bound right))

result-forgets : (name : Option (List ℕ)) (s : RangedState) →
    result_in (mapped array_of s.variables) name ≡ option_map array_of (option_map of_variable (result_in s.variables name))
result-forgets name s = result_is_mapped RangedArray Array array_of s.variables name ∙ sym (variable-forgets (result_in s.variables name))

leave-forgets : (s : RangedState) → frames.without_call (forgotten s) ≡ forgotten (with_variables (without_frame s.variables) s)
leave-forgets s = ap (λ (e : Environment Array). record (forgotten s) { variables = e }) (without_frame-mapped array_of s.variables)

obey-forgets : (functions : List (List ℕ)) (c : Command) (s : RangedState) →
    obeyed functions c (forgotten s) ≡ forgotten (with_ranges (commanded c s.variables) (obeyed functions c (forgotten s)))
obey-forgets functions Vars s = refl
obey-forgets functions Fns s = refl
obey-forgets functions (Erase names) s = ap (λ (e : Environment Array). record (forgotten s) { variables = e })
    (erased_is_mapped RangedArray Array array_of names s.variables)
obey-forgets functions (Origin o) s = refl

pub states-forget : StatesAgree forgotten array_of of_ranged_states of_states
states-forget = record {
  turns = λ s. refl;
  begun = λ s. refl;
  begin = λ left s. refl;
  end = λ line number s. refl;
  enter = enter-forgets;
  result = result-forgets;
  leave = leave-forgets;
  unwind = λ s. refl;
  tell = λ text s. refl;
  obey = obey-forgets;
}

-- ---- the laws

pub expressions_forget : ExpressionsForget
expressions_forget calls ranged_calls agree t s =
    expressions_agree RangedState State RangedArray Array forgotten array_of (of_ranged ranged_calls) (of_arrays calls)
    (values-forget ranged_calls calls agree) t s

pub statements_forget : StatementsForget
statements_forget calls ranged_calls agree t s =
    statements_agree RangedState State RangedArray Array forgotten array_of (of_ranged ranged_calls) (of_arrays calls)
    (values-forget ranged_calls calls agree) t s

meanings-forget : MeaningsAgree forgotten array_of (λ (p : Statement). p) ranged_flow statement_flow
meanings-forget = record { agree = λ ranged_calls calls agree t s. statements_forget calls ranged_calls agree t s }

pub calls_forget : CallsForget
calls_forget definitions n =
    let routines = map routine definitions in
    subst (λ rs. CallsAgree forgotten array_of (call_within of_ranged_states ranged_flow routines n) (call_within of_states statement_flow rs n))
    (routines-same routines)
    (functions_agree RangedState State RangedArray Array Statement Statement forgotten array_of
    (λ p. p) of_ranged_states of_states ranged_flow statement_flow states-forget meanings-forget routines n)

pub runs_forget : RunsForget
runs_forget script items n =
    let definitions = definitions_of script.items in
    runs_over_values_agree RangedState State RangedArray Array forgotten array_of of_ranged_states of_states of_ranged of_arrays states-forget values-forget
    (map routine definitions) (map (λ d. d.header.f) definitions) (report script) (filter_map step_of items) well (with_ranges no_variables (beginning n))

pub immediate_forgets : ImmediateForgets
immediate_forgets script n = ap told (runs_forget script script.items n)
