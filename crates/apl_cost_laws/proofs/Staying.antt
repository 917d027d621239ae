-- In every run each cell lies in the interval beside it.
use Rattle.std.proofs.Common.{◌≡◌, ℕ, zero, suc, ◌+◌, ◌≤◌, Bool, true, false, if◌then◌else◌, ℤ, pos, List, [], ◌∷◌, map, length, Option, Some, None, Ok, Err, IfSome, refl, inr, arith}
use Rattle.std.specs.List.{AllByRecursion, filter_map, find}
use Rattle.std.specs.Option.{option_map}
use Rattle.std.proofs.lemmas.List.{length-map}
use Rattle.apl_base.specs.declared.cells.Kind.TheVariants.{Num}
use Rattle.apl_base.specs.declared.faults.ErrorKind.{ErrorKind}
use Rattle.apl_base.specs.declared.faults.Place.{Place}
use Rattle.apl_base.specs.Array.{Array}
use Rattle.apl_base.specs.Number.{IsNumber}
use Rattle.apl_model.specs.declared.scripts.Command.{Command}
use Rattle.apl_model.specs.declared.scripts.Command.TheVariants.{Vars, Fns, Erase, Origin}
use Rattle.apl_model.specs.declared.tokens.Heading.{Heading}
use Rattle.apl_model.specs.Call.{Routine, RoutineLine, entered, turn, on_turn, line_at, next_line, run_line, run_lines, run_found, routine_of, call_within, calls_of, labels_of}
use Rattle.apl_model.specs.Environment.{Environment, is_same_name, look_up, set_name, set_in_frames, bound_to, declared_in}
use Rattle.apl_model.specs.Evaluation.{at_place, monadic_value, dyadic_value, replace_in, literal_array, branch_by, print_result}
use Rattle.apl_model.specs.Frames.{result_in}
use Rattle.apl_model.specs.Grammar.{IsExpression, ArePositions, IsStatement, IsCommand, IsLiteral}
use Rattle.apl_model.specs.Immediate.{Step, statement_step, command_step, Ending, reported, well, Run, after_statement, run_steps, step_of, definitions_of, routine, report}
use Rattle.apl_model.specs.Order.{CallsOf, positions_in}
use Rattle.apl_model.specs.Outcome.{Outcome, done, fails, spent, and_then, Flow}
use Rattle.apl_model.specs.Product as product
use Rattle.apl_model.specs.Subscript as places
use Rattle.apl_model.specs.Tree as tree
use Rattle.apl_model.specs.Tree.{Tree, Positions, Statement, Item, Definition, statement_item, command_item, definition_item, constant, variable, call, parenthesis, monadic, dyadic, reduction, outer_product, inner_product, assignment, indexed_assignment, output, elided, given, no_position, position, nothing, branch, expression}
use Rattle.apl_model.specs.Whole.{Answer, is_empty, is_text}
use Rattle.apl_model.specs.Script.{headings}
use Rattle.apl_model_laws.specs.Lawful.{IsOrigin, IsRoutine, IsLawfulItem}
use Rattle.apl_model_laws.proofs.Arrays.{scalar-array}
use Rattle.apl_model_laws.proofs.Safe.{IsLine, IsStep, all-steps, inner_products_are_lawful, line-at, reductions_are_lawful}
use Rattle.apl_model_laws.proofs.Scripts.{scripts_have_lawful_items}
use Rattle.apl_model_laws.proofs.Values.{literals_are_lawful}
use Rattle.apl_model_laws.proofs.Variables.{below-number}
use Rattle.apl_cost.specs.Ranges.{RangedArray, array_of, ranged, bound, other_source, scalar2_source, source1, source2, subscript_source, write_source, written}
use Rattle.apl_cost.specs.RangedEvaluation.{RangedState, beside, needed, of_variable, arrays_of, of_ranged, of_ranged_states, ranged_flow, ranged_line, with_call, with_name, replace_name}
use Rattle.apl_cost_laws.specs.Inside.{IsInside, IsOptionalInside, AreVariablesInside, IsOutcomeInside, CallsStayInside, ExpressionsStayInside, PositionsStayInside, StatementsStayInside, LinesStayInside, FunctionsStayInside, RunsStayInside, ScriptsStayInside}
use Rattle.apl_cost_laws.proofs.Actions.{InTree, InPositions, InStatement, IsOptionalOf, Any, IsOfActions, each-value, each-position, each-flow}
use Rattle.apl_cost_laws.proofs.Bound.{EachLabel, each-look_up, each-result, each-set_name, each-erased, each-gone, each-frame}
use Rattle.apl_cost_laws.proofs.Table.{answer-array, exact-inside, literal-inside, variable-inside, bound-inside, value1-inside, value2-inside, outer-value-inside, index-inside, written-inside, write-inside}

-- ---- literals of expressions of the language

mutual
  tree-literals : (hs : List Heading) (t : Tree) → IsExpression hs t → InTree IsLiteral t
  tree-literals hs (constant l p) h = h
  tree-literals hs (variable n p) h = tt
  tree-literals hs (call f elided elided p) h = (tt, tt)
  tree-literals hs (call f elided (given right) p) h = (tt, tree-literals hs right h.1)
  tree-literals hs (call f (given left) elided p) h = absurd h
  tree-literals hs (call f (given left) (given right) p) h = (tree-literals hs left h.2, tree-literals hs right h.3)
  tree-literals hs (parenthesis e p) h = tree-literals hs e h
  tree-literals hs (monadic f right p) h = tree-literals hs right h.1
  tree-literals hs (dyadic f left right p) h = (tree-literals hs left h.2, tree-literals hs right h.3)
  tree-literals hs (reduction f x right p) h = tree-literals hs right h.1
  tree-literals hs (outer_product f left right p) h = (tree-literals hs left h.1, tree-literals hs right h.2)
  tree-literals hs (inner_product f g left right p) h = (tree-literals hs left h.1, tree-literals hs right h.2)
  tree-literals hs (tree.subscript array qs p) h = (tree-literals hs array h.1, position-literals hs qs h.3)
  tree-literals hs (assignment n value p) h = tree-literals hs value h.1
  tree-literals hs (indexed_assignment n qs value p) h = (position-literals hs qs h.2, tree-literals hs value h.3)
  tree-literals hs (output value p) h = tree-literals hs value h

  position-literals : (hs : List Heading) (qs : Positions) → ArePositions hs qs → InPositions IsLiteral qs
  position-literals hs no_position h = tt
  position-literals hs (position elided qs) h = (tt, position-literals hs qs h.1)
  position-literals hs (position (given t) qs) h = (tree-literals hs t h.0, position-literals hs qs h.1)

statement-literals : (hs : List Heading) (t : Statement) → IsStatement hs t → InStatement IsLiteral t
statement-literals hs nothing h = tt
statement-literals hs (branch t p) h = tree-literals hs t h
statement-literals hs (expression t) h = tree-literals hs t h

-- ---- outcomes

-- an outcome with such a value and such variables
pub record Stays {A : Type 0} (Value : A → Type 0) (o : Outcome RangedState A) : Type 0 where
  pub outcome : IsOutcomeInside Value o

-- an action that leaves such an outcome
abbrev Keeps : (A : Type 0) → (A → Type 0) → (RangedState → Outcome RangedState A) → Type 0
Keeps A Value act = (s : RangedState) → AreVariablesInside s.variables → Stays Value (act s)

-- a value or no value
abbrev Maybe : Option RangedArray → Type 0
Maybe = IsOptionalOf IsInside

inside-maybe : (v : Option RangedArray) → Maybe v → IsOptionalInside v
inside-maybe None h = tt
inside-maybe (Some v) h = h

maybe-inside : (v : Option RangedArray) → IsOptionalInside v → Maybe v
maybe-inside None h = tt
maybe-inside (Some v) h = h

all-inside : (vs : List (Option RangedArray)) → AllByRecursion Maybe vs → AllByRecursion IsOptionalInside vs
all-inside [] h = tt
all-inside (v ∷ vs) h = (inside-maybe v h.0, all-inside vs h.1)

all-maybe : (vs : List (Option RangedArray)) → AllByRecursion IsOptionalInside vs → AllByRecursion Maybe vs
all-maybe [] h = tt
all-maybe (v ∷ vs) h = (maybe-inside v h.0, all-maybe vs h.1)

keeps-done : (A : Type 0) (R : A → Type 0) (a : A) → R a → Keeps A R (λ s. done a s)
keeps-done A R a h s e = record { outcome = (h, e) }

stays-then : {A B : Type 0} (R : A → Type 0) (T : B → Type 0) (o : Outcome RangedState A) (next : A → RangedState → Outcome RangedState B) →
    Stays R o → ((a : A) → R a → Keeps B T (λ s. next a s)) → Stays T (and_then o next)
stays-then R T (done a t) next h n = n a h.outcome.0 t h.outcome.1
stays-then R T (fails kind place t) next h n = record { outcome = h.outcome }
stays-then R T (spent t) next h n = record { outcome = h.outcome }

keeps-then : (A B : Type 0) (R : A → Type 0) (T : B → Type 0) (act : RangedState → Outcome RangedState A) (next : A → RangedState → Outcome RangedState B) →
    Keeps A R act → ((a : A) → R a → Keeps B T (λ s. next a s)) → Keeps B T (λ s. and_then (act s) next)
keeps-then A B R T act next h n s e = stays-then R T (act s) next (h s e) n

-- ---- what is done with arrays

beside-stays : (value : Array → RangedArray) (place : Place) (answer : Answer) (s : RangedState) → ((a : Array) → answer ≡ Ok a → IsInside (value a)) →
    AreVariablesInside s.variables → Stays IsInside (beside value s (at_place place answer))
beside-stays value place (Ok a) s h e = record { outcome = (h a refl, e) }
beside-stays value place (Err kind) s h e = record { outcome = e }

needed-stays : (place : Place) (v : Option RangedArray) (s : RangedState) → Maybe v → AreVariablesInside s.variables → Stays IsInside (needed place v s)
needed-stays place (Some v) s h e = record { outcome = (h, e) }
needed-stays place None s h e = record { outcome = e }

variables-maybe : (v : Option RangedArray) → IsOptionalInside v → Maybe (option_map of_variable v)
variables-maybe None h = tt
variables-maybe (Some v) h = variable-inside v h

bound-maybe : (v : Option RangedArray) → IsOptionalInside v → IsOptionalInside (option_map bound v)
bound-maybe None h = tt
bound-maybe (Some v) h = bound-inside v h

pub look_up-inside : (e : Environment RangedArray) (name : List ℕ) → AreVariablesInside e → IsOptionalInside (look_up e name)
look_up-inside e name h = each-look_up IsOptionalInside tt e name h.globals h.frames

-- a name that is set changes no origin
origin-stays : (e : Environment RangedArray) (name : List ℕ) (v : RangedArray) → IsOrigin e.origin → IsOrigin (set_name e name v).origin
origin-stays e name v h = by (declared_in e.frames name)
  where
    by : (t : Bool) → IsOrigin (if t then record e { frames = set_in_frames e.frames name v } else record e { globals = bound_to e.globals name (Some v) }).origin
    by true = h
    by false = h

named-inside : (name : List ℕ) (v : RangedArray) (s : RangedState) → IsInside v → AreVariablesInside s.variables →
    AreVariablesInside (with_name name v s).variables
named-inside name v s h e =
    let n = each-set_name IsOptionalInside tt s.variables name v e.globals e.frames h in
    record { globals = n.globals; frames = n.frames; origin = origin-stays s.variables name v e.origin }

replaced-stays : (name : List ℕ) (old : Option RangedArray) (ps : List (Option Array)) (b : RangedArray) (place : Place) (answer : Answer) (s : RangedState) → IsInside b →
    ((a : Array) → answer ≡ Ok a → IsInside (written old ps b a)) → AreVariablesInside s.variables →
    Stays IsInside (and_then (beside (written old ps b) s (at_place place answer)) (λ a t. done (ranged (write_source b) b.array) (with_name name a t)))
replaced-stays name old ps b place (Ok a) s h w e = record { outcome = (write-inside b h, named-inside name (written old ps b a) s (w a refl) e) }
replaced-stays name old ps b place (Err kind) s h w e = record { outcome = e }

replace-stays : (name : List ℕ) (ps : List (Option RangedArray)) (b : RangedArray) (place : Place) → AllByRecursion Maybe ps → IsInside b →
    Keeps RangedArray IsInside (λ s. replace_name name ps b place s)
replace-stays name ps b place k h s e =
    let old = look_up s.variables name in
    replaced-stays name old (arrays_of ps) b place (replace_in s.variables.origin (option_map array_of old) (arrays_of ps) b.array) s h
    (λ a f. written-inside s.variables.origin e.origin old (arrays_of ps) b a (look_up-inside s.variables name e) h f) e

branch-stays : (x y : Bool) (a : Array) (place : Place) → Keeps Flow Any (λ s. beside (λ (flow : Flow). flow) s (branch_by x y a place))
branch-stays true y a place s e = record { outcome = (tt, e) }
branch-stays false true a place s e = record { outcome = e }
branch-stays false false a place s e = record { outcome = (tt, e) }

show-stays : (v : Option Array) → Keeps Flow Any (λ s. beside (λ (flow : Flow). flow) s (print_result v))
show-stays (Some v) s e = record { outcome = (tt, e) }
show-stays None s e = record { outcome = (tt, e) }

calls-keep : (calls : CallsOf RangedState RangedArray) → CallsStayInside calls → (f : List ℕ) (place : Place) (left right : Option RangedArray) →
    Maybe left → Maybe right →
    Keeps (Option RangedArray) Maybe (λ s. calls f place left right s)
calls-keep calls h f place left right p q s e = by (calls f place left right s) (h f place left right (inside-maybe left p) (inside-maybe right q) s e)
  where
    by : (o : Outcome RangedState (Option RangedArray)) → IsOutcomeInside IsOptionalInside o → Stays Maybe o
    by (done v t) k = record { outcome = (maybe-inside v k.0, k.1) }
    by (fails kind at t) k = record { outcome = k }
    by (spent t) k = record { outcome = k }

values-keep : (calls : CallsOf RangedState RangedArray) → CallsStayInside calls → IsOfActions (of_ranged calls) IsLiteral IsInside Keeps
values-keep calls h = record {
  literal = λ l k s e. record { outcome = (literal-inside (literal_array l) (literals_are_lawful l k), e) };
  name = λ name place s e. needed-stays place (option_map of_variable (look_up s.variables name)) s
      (variables-maybe (look_up s.variables name) (look_up-inside s.variables name e)) e;
  apply1 = λ f b place q s e. beside-stays (ranged (source1 f b)) place (monadic_value s.variables.origin f b.array) s
      (λ a k. value1-inside s.variables.origin e.origin f b a q k) e;
  apply2 = λ f a b place p q s e. beside-stays (ranged (source2 f a b)) place (dyadic_value s.variables.origin f a.array b.array) s
      (λ c k. value2-inside s.variables.origin e.origin f a b c p q k) e;
  reduce = λ f axis b place q s e. beside-stays (ranged other_source) place (product.reduce s.variables.origin f axis b.array) s
      (λ a k. exact-inside a (answer-array _ a (reductions_are_lawful s.variables.origin f axis b.array q.array) k)) e;
  outer = λ f a b place p q s e. beside-stays (ranged (scalar2_source f a b)) place (product.outer f a.array b.array) s
      (λ c k. outer-value-inside f a b c p q k) e;
  inner = λ f g a b place p q s e. beside-stays (ranged other_source) place (product.inner f g a.array b.array) s
      (λ c k. exact-inside c (answer-array _ c (inner_products_are_lawful f g a.array b.array p.array q.array) k)) e;
  index = λ a ps place p k s e. beside-stays (ranged (subscript_source a (arrays_of ps))) place (places.subscript s.variables.origin a.array (arrays_of ps)) s
      (λ c f. index-inside s.variables.origin a ps c p (all-inside ps k) f) e;
  assign = λ name a q s e. record { outcome = (bound-inside a q, named-inside name (bound a) s (bound-inside a q) e) };
  replace = replace-stays;
  calls = calls-keep calls h;
  print = λ a q s e. record { outcome = (bound-inside a q, e) };
  need = λ place a q s e. needed-stays place a s q e;
  branch = λ place v q s e. branch-stays (is_empty v.array) (is_text v.array) v.array place s e;
  show = λ v q s e. show-stays (option_map array_of v) s e;
}

-- ---- expressions and statements

pub expressions_stay_inside : ExpressionsStayInside
expressions_stay_inside hs calls h t k s e =
    (each-value (of_ranged calls) IsLiteral IsInside Keeps keeps-done keeps-then (values-keep calls h) t (tree-literals hs t k) s e).outcome

pub positions_stay_inside : PositionsStayInside
positions_stay_inside hs calls h qs k s e =
    by (positions_in (of_ranged calls) qs s) (each-position (of_ranged calls) IsLiteral IsInside Keeps keeps-done keeps-then (values-keep calls h) qs
    (position-literals hs qs k) s e).outcome
  where
    by : (o : Outcome RangedState (List (Option RangedArray))) → IsOutcomeInside (AllByRecursion Maybe) o → IsOutcomeInside (AllByRecursion IsOptionalInside) o
    by (done vs t) p = (all-inside vs p.0, p.1)
    by (fails kind at t) p = p
    by (spent t) p = p

statement-keeps : (hs : List Heading) (calls : CallsOf RangedState RangedArray) → CallsStayInside calls → (t : Statement) → IsStatement hs t →
    Keeps Flow Any (λ s. ranged_flow calls t s)
statement-keeps hs calls h t k = each-flow (of_ranged calls) IsLiteral IsInside Keeps keeps-done keeps-then (values-keep calls h) t (statement-literals hs t k)

pub statements_stay_inside : StatementsStayInside
statements_stay_inside hs calls h t k s e = (statement-keeps hs calls h t k s e).outcome

-- ---- turns, lines, calls

turn-keeps : {A : Type 0} (P : A → Type 0) (line : ℕ) (act : RangedState → Outcome RangedState A) → Keeps A P act →
    (n : ℕ) → Keeps A P (λ s. turn of_ranged_states line n act s)
turn-keeps P line act h zero s e = record { outcome = e }
turn-keeps {A} P line act h (suc left) s e = ends (act (of_ranged_states.begin left s)) (h (of_ranged_states.begin left s) e)
  where
    ends : (o : Outcome RangedState A) → Stays P o → Stays P (entered of_ranged_states line (suc s.begun) o)
    ends (done a t) k = record { outcome = k.outcome }
    ends (fails kind place t) k = record { outcome = k.outcome }
    ends (spent t) k = record { outcome = k.outcome }

-- the labels of a body whose lines a number of the language counts
labels-inside : (k n : ℕ) (ls : List (Option (List ℕ))) → k + length ls ≤ suc n → IsNumber (pos n) → EachLabel IsOptionalInside tt ranged_line k ls
labels-inside k n [] l h = tt
labels-inside k n (x ∷ ls) l h =
    (literal-inside _ (scalar-array Num (pos k) (below-number k n (omega (arith, l)) h)), labels-inside (suc k) n ls (omega (arith, l)) h)

module _ (hs : List Heading) (calls : CallsOf RangedState RangedArray) (inside : CallsStayInside calls) where
  line-keeps : (l : Option (RoutineLine Statement)) (next : Flow → RangedState → Outcome RangedState (Unit {0})) → IfSome l (IsLine hs) →
      ((flow : Flow) → Keeps (Unit {0}) Any (λ t. next flow t)) → Keeps (Unit {0}) Any (λ s. run_line of_ranged_states ranged_flow calls l s next)
  line-keeps None next h n s e = record { outcome = (tt, e) }
  line-keeps (Some l) next h n s e =
      stays-then Any Any (on_turn of_ranged_states l.line (ranged_flow calls l.statement) s) next
      (turn-keeps Any l.line (ranged_flow calls l.statement) (statement-keeps hs calls inside l.statement h) s.turns s e) (λ flow u. n flow)

  lines-keep : (body : List (RoutineLine Statement)) (n : ℕ) (i : ℤ) → AllByRecursion (IsLine hs) body →
      Keeps (Unit {0}) Any (λ s. run_lines of_ranged_states ranged_flow calls body n i s)
  lines-keep body zero i h = line-keeps (line_at body i) (λ flow t. spent t) (line-at hs body i h) (λ flow t e. record { outcome = e })
  lines-keep body (suc n) i h =
      line-keeps (line_at body i) (λ flow t. run_lines of_ranged_states ranged_flow calls body n (next_line i flow) t) (line-at hs body i h)
      (λ flow. lines-keep body n (next_line i flow) h)

  found-keeps : (r : Option (Routine Statement)) (place : Place) (left right : Option RangedArray) → IfSome r (IsRoutine hs) → IsOptionalInside left →
      IsOptionalInside right →
      Keeps (Option RangedArray) IsOptionalInside (λ s. run_found of_ranged_states ranged_flow calls r place left right s)
  found-keeps None place left right h p q s e = record { outcome = e }
  found-keeps (Some r) place left right h p q s e =
      let labels = labels_of r.body in
      let within = with_call r.header labels left right s in
      let frame = each-frame IsOptionalInside tt ranged_line r.header labels (option_map bound left) (option_map bound right)
      (labels-inside 1 (length r.body) labels (omega (arith, length-map r.body (λ (l : RoutineLine Statement). l.label))) h.few) (bound-maybe left p)
      (bound-maybe right q) in
      let inside-call : AreVariablesInside within.variables = record { globals = e.globals; frames = (frame, e.frames); origin = e.origin } in
      stays-then Any IsOptionalInside (run_lines of_ranged_states ranged_flow calls r.body s.turns (pos 1) within)
      (λ u t. done (of_ranged_states.result r.header.result t) (of_ranged_states.leave t))
      (lines-keep r.body s.turns (pos 1) h.lines within inside-call)
      (λ u k t e. record {
        outcome = (
          inside-maybe (option_map of_variable (result_in t.variables r.header.result))
              (variables-maybe (result_in t.variables r.header.result) (each-result IsOptionalInside tt t.variables r.header.result e.globals e.frames)),
          record { globals = e.globals; frames = each-gone IsOptionalInside tt t.variables.frames e.frames; origin = e.origin },
        );
      })

pub lines_stay_inside : LinesStayInside
lines_stay_inside hs calls h body k n i s e = (lines-keep hs calls h body n i k s e).outcome

found-routine : (hs : List Heading) (test : Routine Statement → Bool) (rs : List (Routine Statement)) → AllByRecursion (IsRoutine hs) rs →
    IfSome (find test rs) (IsRoutine hs)
found-routine hs test [] h = tt
found-routine hs test (r ∷ rs) h = by (test r) (find test rs) (found-routine hs test rs h.1)
  where
    by : (t : Bool) (o : Option (Routine Statement)) → IfSome o (IsRoutine hs) → IfSome (if t then Some r else o) (IsRoutine hs)
    by true o k = h.0
    by false o k = k

pub functions_stay_inside : FunctionsStayInside
functions_stay_inside hs routines h zero f place left right p q s e = e
functions_stay_inside hs routines h (suc n) f place left right p q s e =
    (found-keeps hs (call_within of_ranged_states ranged_flow routines n) (functions_stay_inside hs routines h n)
    (routine_of routines f) place left right (found-routine hs (λ r. is_same_name r.header.f f) routines h) p q s e).outcome

-- ---- runs

obeyed-inside : (functions : List (List ℕ)) (c : Command) (s : RangedState) → IsCommand c → AreVariablesInside s.variables →
    AreVariablesInside (of_ranged_states.obey functions c s).variables
obeyed-inside functions Vars s h e = e
obeyed-inside functions Fns s h e = e
obeyed-inside functions (Erase names) s h e = record {
  globals = each-erased IsOptionalInside tt names s.variables.globals e.globals;
  frames = e.frames;
  origin = e.origin;
}
obeyed-inside functions (Origin o) s h e = record { globals = e.globals; frames = e.frames; origin = h }

unwound-inside : (s : RangedState) → AreVariablesInside s.variables → AreVariablesInside (of_ranged_states.unwind s).variables
unwound-inside s e = record { globals = e.globals; frames = tt; origin = e.origin }

module _ (hs : List Heading) (calls : CallsOf RangedState RangedArray) (inside : CallsStayInside calls) (functions : List (List ℕ))
    (report_of : ErrorKind → Place → List ℕ) where
  abbrev ran : List (Step Statement) → Ending → RangedState → Run RangedState
  ran steps ending s = run_steps of_ranged_states (ranged_flow calls) functions report_of steps ending s

  after-inside : (ending : Ending) (o : Outcome RangedState Flow) (next : Ending → RangedState → Run RangedState) → Stays Any o →
      ((n : Ending) (t : RangedState) → AreVariablesInside t.variables → AreVariablesInside (next n t).state.variables) →
      AreVariablesInside (after_statement of_ranged_states (ranged_flow calls) functions report_of ending o next).state.variables
  after-inside ending (done a s) next h n = n ending s h.outcome.1
  after-inside ending (fails kind place s) next h n = n reported _ (unwound-inside s h.outcome)
  after-inside ending (spent s) next h n = unwound-inside s h.outcome

  steps-inside : (steps : List (Step Statement)) (ending : Ending) (s : RangedState) → AllByRecursion (IsStep hs) steps → AreVariablesInside s.variables →
      AreVariablesInside (ran steps ending s).state.variables
  steps-inside [] ending s h e = e
  steps-inside (statement_step line st ∷ steps) ending s h e =
      after-inside ending (on_turn of_ranged_states line (ranged_flow calls st) s) (ran steps)
      (turn-keeps Any line (ranged_flow calls st) (statement-keeps hs calls inside st h.0) s.turns s e) (λ n t e. steps-inside steps n t h.1 e)
  steps-inside (command_step c ∷ steps) ending s h e = steps-inside steps ending (of_ranged_states.obey functions c s) h.1 (obeyed-inside functions c s h.0 e)

all-routines : (hs : List Heading) (items : List Item) → AllByRecursion (IsLawfulItem hs) items →
    AllByRecursion (IsRoutine hs) (map routine (definitions_of items))
all-routines hs [] h = tt
all-routines hs (statement_item line s ∷ items) h = all-routines hs items h.1
all-routines hs (command_item line c ∷ items) h = all-routines hs items h.1
all-routines hs (definition_item d ∷ items) h = (h.0, all-routines hs items h.1)

pub runs_stay_inside : RunsStayInside
runs_stay_inside hs script items n h k =
    let definitions : List Definition = definitions_of script.items in
    let routines : List (Routine Statement) = map routine definitions in
    steps-inside hs (calls_of of_ranged_states ranged_flow routines) (functions_stay_inside hs routines (all-routines hs script.items h) 256)
    (map (λ d. d.header.f) definitions) (report script) (filter_map step_of items) well _ (all-steps hs items k)
    (record { globals = tt; frames = tt; origin = inr refl })

pub scripts_stay_inside : ScriptsStayInside
scripts_stay_inside ls script h k n =
    let items = scripts_have_lawful_items ls script h k in
    runs_stay_inside (headings script.items) script script.items n items items
