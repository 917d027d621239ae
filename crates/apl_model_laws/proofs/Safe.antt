-- Over lawful variables each part of a run gives lawful values and leaves lawful variables.
use Rattle.std.proofs.Common.{ℕ, zero, suc, Bool, true, false, if◌then◌else◌, ℤ, pos, negsuc, List, [], ◌∷◌, map, Option, Some, None, Ok, Err, IfSome, refl, inr}
use Rattle.std.specs.Prelude.{slice_get}
use Rattle.std.specs.List.{AllByRecursion, filter_map, find}
use Rattle.apl_base.specs.declared.faults.ErrorKind.{ErrorKind}
use Rattle.apl_base.specs.declared.faults.Place.{Place}
use Rattle.apl_base.specs.Array.{Array, IsArray}
use Rattle.apl_model.specs.declared.functions.DyaFn.{DyaFn}
use Rattle.apl_model.specs.declared.functions.DyaFn.TheVariants as two
use Rattle.apl_model.specs.declared.functions.MonFn.{MonFn}
use Rattle.apl_model.specs.declared.functions.MonFn.TheVariants as one
use Rattle.apl_model.specs.declared.scripts.Command.{Command}
use Rattle.apl_model.specs.declared.scripts.Command.TheVariants.{Vars, Fns, Erase, Origin}
use Rattle.apl_model.specs.declared.tokens.Heading.{Heading}
use Rattle.apl_model.specs.Call.{Routine, RoutineLine, entered, turn, on_turn, line_at, next_line, run_line, run_lines, run_found, routine_of, call_within, calls_of, labels_of}
use Rattle.apl_model.specs.Frames.{with_turn, with_call}
use Rattle.apl_model.specs.Environment.{is_same_name, look_up}
use Rattle.apl_model.specs.Evaluation.{State, at_place, needed, origin_of, monadic_value, dyadic_value, replace_in, Calls, value_of, argument, positions_of, branch_by, branch_to, print_result, of_arrays, statement_flow}
use Rattle.apl_model.specs.Order.{silently, show_value, expression_in}
use Rattle.apl_model.specs.Outcome.{Outcome, done, fails, spent, and_then, Flow}
use Rattle.apl_model.specs.Grammar.{IsExpression, ArePositions, IsPosition, IsStatement, IsCommand}
use Rattle.apl_model.specs.Immediate.{of_states, Step, statement_step, command_step, obeyed, unwound, Ending, reported, well, Run, after_statement, run_steps, step_of, definitions_of, routine, report, beginning}
use Rattle.apl_model.specs.Tree as tree
use Rattle.apl_model.specs.Tree.{Tree, Slot, Positions, Statement, Script, Item, Definition, statement_item, command_item, definition_item, constant, variable, call, parenthesis, monadic, dyadic, reduction, outer_product, inner_product, assignment, indexed_assignment, output, elided, given, no_position, position, nothing, branch, expression}
use Rattle.apl_model.specs.Whole.{Answer, is_empty, is_text}
use Rattle.apl_model_laws.specs.Lawful.{IsOrigin, IsOptional, IsEnvironment, IsOutcome, CallsAreLawful, ExpressionsAreLawful, PositionsAreLawful, StatementsAreLawful, IsRoutine, FunctionsAreLawful, IsLawfulItem, RunsAreLawful, MonadicValuesAreLawful, DyadicValuesAreLawful, ReductionsAreLawful, OuterProductsAreLawful, InnerProductsAreLawful, SubscriptsAreLawful, ReplacementsAreLawful}
use Rattle.apl_model_laws.proofs.Arrays.{Gives}
use Rattle.apl_model_laws.proofs.Axes.{flipped-gives, transposed-gives, compress-gives, expand-gives, encode-gives}
use Rattle.apl_model_laws.proofs.Forms.{interval-gives, shape-gives, reshape-gives, ravel-gives, catenate-gives, reversed-gives, rotated-gives, take-gives, drop-gives, index_of-gives, member-gives, grade-gives, decode-gives}
use Rattle.apl_model_laws.proofs.Variables.{look_up-lawful, set_name-lawful, frame-lawful, gone-lawful, result-lawful, unset-globals}
use Rattle.apl_model_laws.proofs.Values.{lift1-gives, lift2-gives, reduce-gives, outer-gives, inner-gives, subscript-gives, replacement-gives, literals_are_lawful}

-- ---- functions

monadic-gives : (o : ℤ) → IsOrigin o → (f : MonFn) (b : Array) → IsArray b → Gives (monadic_value o f b)
monadic-gives o p (one.Scalar f) b h = lift1-gives f b h
monadic-gives o p one.Iota b h = interval-gives o p b
monadic-gives o p one.Shape b h = shape-gives b h
monadic-gives o p one.Ravel b h = ravel-gives b h
monadic-gives o p (one.Reverse axis) b h = reversed-gives o axis b h
monadic-gives o p one.Transpose b h = flipped-gives b h
monadic-gives o p one.GradeUp b h = grade-gives false o p b h
monadic-gives o p one.GradeDown b h = grade-gives true o p b h

dyadic-gives : (o : ℤ) → IsOrigin o → (f : DyaFn) (a b : Array) → IsArray a → IsArray b → Gives (dyadic_value o f a b)
dyadic-gives o p (two.Scalar f) a b g h = lift2-gives f a b g h
dyadic-gives o p two.Reshape a b g h = reshape-gives a b h
dyadic-gives o p two.Catenate a b g h = catenate-gives a b g h
dyadic-gives o p (two.Rotate axis) a b g h = rotated-gives o axis a b h
dyadic-gives o p two.Transpose a b g h = transposed-gives o a b g h
dyadic-gives o p two.Take a b g h = take-gives a b h
dyadic-gives o p two.Skip a b g h = drop-gives a b h
dyadic-gives o p (two.Compress axis) a b g h = compress-gives o axis a b g h
dyadic-gives o p (two.Expand axis) a b g h = expand-gives o axis a b h
dyadic-gives o p two.IndexOf a b g h = index_of-gives o p a b g h
dyadic-gives o p two.Member a b g h = member-gives a b g
dyadic-gives o p two.Encode a b g h = encode-gives a b g h
dyadic-gives o p two.Decode a b g h = decode-gives a b g h

pub monadic_values_are_lawful : MonadicValuesAreLawful
monadic_values_are_lawful o p f b h = (monadic-gives o p f b h).answer

pub dyadic_values_are_lawful : DyadicValuesAreLawful
dyadic_values_are_lawful o p f a b g h = (dyadic-gives o p f a b g h).answer

pub reductions_are_lawful : ReductionsAreLawful
reductions_are_lawful o f axis b h = (reduce-gives o f axis b h).answer

pub outer_products_are_lawful : OuterProductsAreLawful
outer_products_are_lawful f a b g h = (outer-gives f a b g h).answer

pub inner_products_are_lawful : InnerProductsAreLawful
inner_products_are_lawful f g a b p q = (inner-gives f g a b p q).answer

pub subscripts_are_lawful : SubscriptsAreLawful
subscripts_are_lawful o a ps h = (subscript-gives o a ps h).answer

pub replacements_are_lawful : ReplacementsAreLawful
replacements_are_lawful o a ps b g h = (replacement-gives o a ps b g h).answer

-- ---- outcomes

pub record Safe {A : Type 0} (Value : A → Type 0) (o : Outcome State A) : Type 0 where
  pub outcome : IsOutcome Value o

safe_then : {A B : Type 0} {P : A → Type 0} {Q : B → Type 0} {o : Outcome State A} {next : A → State → Outcome State B} →
    Safe P o → ((a : A) (t : State) → P a → IsEnvironment t.variables → Safe Q (next a t)) → Safe Q (and_then o next)
safe_then {o = done a t} h n = n a t h.outcome.0 h.outcome.1
safe_then {o = fails kind place t} h n = record { outcome = h.outcome }
safe_then {o = spent t} h n = record { outcome = h.outcome }

needed-safe : (place : Place) (a : Option Array) (s : State) → IsOptional a → IsEnvironment s.variables → Safe IsArray (needed place a s)
needed-safe place (Some a) s p e = record { outcome = (p, e) }
needed-safe place None s p e = record { outcome = e }

at-safe : (place : Place) (a : Answer) (s : State) → Gives a → IsEnvironment s.variables → Safe IsArray (at_place place a s)
at-safe place (Ok a) s g e = record { outcome = (g.answer, e) }
at-safe place (Err kind) s g e = record { outcome = e }

replace-gives : (o : ℤ) (a : Option Array) (ps : List (Option Array)) (b : Array) → IsOptional a → IsArray b → Gives (replace_in o a ps b)
replace-gives o None ps b p h = record { answer = tt }
replace-gives o (Some a) ps b p h = replacement-gives o a ps b p h

-- the arguments of a call of the language
call-slots : (hs : List Heading) (f : List ℕ) (left right : Slot) (place : Place) → IsExpression hs (call f left right place) → IsPosition hs left × IsPosition hs right
call-slots hs f elided elided place h = (tt, tt)
call-slots hs f elided (given right) place h = (tt, h.1)
call-slots hs f (given left) elided place h = absurd h
call-slots hs f (given left) (given right) place h = (h.2, h.3)

module _ (hs : List Heading) (calls : Calls) (lawful : CallsAreLawful calls) where
  call-safe : (f : List ℕ) (place : Place) (left right : Option Array) (s : State) → IsOptional left → IsOptional right → IsEnvironment s.variables → Safe IsOptional (calls f place left right s)
  call-safe f place left right s p q e = record { outcome = lawful f place left right p q s e }

  mutual
    value-safe : (t : Tree) (s : State) → IsExpression hs t → IsEnvironment s.variables → Safe IsArray (value_of calls t s)
    value-safe (constant l place) s h e = record { outcome = (literals_are_lawful l h, e) }
    value-safe (variable name place) s h e = needed-safe place (look_up s.variables name) s (look_up-lawful s.variables name e) e
    value-safe (call f left right place) s h e =
        let slots = call-slots hs f left right place h in
        safe_then (argument-safe right s slots.1 e) (λ b t q e. safe_then (argument-safe left t slots.0 e) (λ a u p e.
        safe_then (call-safe f place a b u p q e) (λ r v k e. needed-safe place r v k e)))
    value-safe (parenthesis inside place) s h e = value-safe inside s h e
    value-safe (monadic f right place) s h e =
        safe_then (value-safe right s h.1 e) (λ b t q e. at-safe place _ t (monadic-gives (origin_of t) e.origin f b q) e)
    value-safe (dyadic f left right place) s h e =
        safe_then (value-safe right s h.3 e) (λ b t q e. safe_then (value-safe left t h.2 e) (λ a u p e.
        at-safe place _ u (dyadic-gives (origin_of u) e.origin f a b p q) e))
    value-safe (reduction f axis right place) s h e =
        safe_then (value-safe right s h.1 e) (λ b t q e. at-safe place _ t (reduce-gives (origin_of t) f axis b q) e)
    value-safe (outer_product f left right place) s h e =
        safe_then (value-safe right s h.2 e) (λ b t q e. safe_then (value-safe left t h.1 e) (λ a u p e. at-safe place _ u (outer-gives f a b p q) e))
    value-safe (inner_product f g left right place) s h e =
        safe_then (value-safe right s h.2 e) (λ b t q e. safe_then (value-safe left t h.1 e) (λ a u p e. at-safe place _ u (inner-gives f g a b p q) e))
    value-safe (tree.subscript array ps place) s h e =
        safe_then (positions-safe ps s h.3 e) (λ vs t q e. safe_then (value-safe array t h.1 e) (λ a u p e.
        at-safe place _ u (subscript-gives (origin_of u) a vs p) e))
    value-safe (assignment name value place) s h e =
        safe_then (value-safe value s h.1 e) (λ a t q e. record { outcome = (q, set_name-lawful t.variables name a e q) })
    value-safe (indexed_assignment name ps value place) s h e =
        safe_then (value-safe value s h.3 e) (λ b t q e. safe_then (positions-safe ps t h.2 e) (λ vs u p e.
        safe_then (at-safe place (replace_in (origin_of u) (look_up u.variables name) vs b) u (replace-gives (origin_of u) (look_up u.variables name) vs b (look_up-lawful u.variables name e) q) e)
        (λ a v p e. record { outcome = (q, set_name-lawful v.variables name a e p) })))
    value-safe (output value place) s h e = safe_then (value-safe value s h e) (λ a t q e. record { outcome = (q, e) })

    argument-safe : (q : Slot) (s : State) → IsPosition hs q → IsEnvironment s.variables → Safe IsOptional (argument calls q s)
    argument-safe elided s h e = record { outcome = (tt, e) }
    argument-safe (given t) s h e = safe_then (value-safe t s h e) (λ a u p e. record { outcome = (p, e) })

    positions-safe : (qs : Positions) (s : State) → ArePositions hs qs → IsEnvironment s.variables → Safe (AllByRecursion IsOptional) (positions_of calls qs s)
    positions-safe no_position s h e = record { outcome = (tt, e) }
    positions-safe (position q qs) s h e =
        safe_then (positions-safe qs s h.1 e) (λ vs t p e. safe_then (argument-safe q t h.0 e) (λ v u k e. record { outcome = ((k, p), e) }))

  -- a statement's flow says nothing of arrays
  abbrev Any : Flow → Type 0
  Any flow = Unit {0}

  result-safe : (a : Option Array) (s : State) → IsEnvironment s.variables → Safe Any (print_result a s)
  result-safe (Some a) s e = record { outcome = (tt, e) }
  result-safe None s e = record { outcome = (tt, e) }

  flow-safe : (t : Tree) (s : State) → IsExpression hs t → IsEnvironment s.variables → Safe Any (and_then (value_of calls t s) (show_value (of_arrays calls)))
  flow-safe t s h e = safe_then (value-safe t s h e) (λ a u p e. record { outcome = (tt, e) })

  silent-safe : (t : Tree) (s : State) → IsExpression hs t → IsEnvironment s.variables → Safe Any (and_then (value_of calls t s) silently)
  silent-safe t s h e = safe_then (value-safe t s h e) (λ a u p e. record { outcome = (tt, e) })

  branch-safe : (place : Place) (a : Array) (s : State) → IsEnvironment s.variables → Safe Any (branch_to place a s)
  branch-safe place a s e = by (is_empty a) (is_text a)
    where
      by : (p c : Bool) → Safe Any (branch_by p c a place s)
      by true c = record { outcome = (tt, e) }
      by false true = record { outcome = e }
      by false false = record { outcome = (tt, e) }

  expression-safe : (t : Tree) (s : State) → IsExpression hs t → IsEnvironment s.variables → Safe Any (expression_in (of_arrays calls) t s)
  expression-safe (call f left right place) s h e =
      let slots = call-slots hs f left right place h in
      safe_then (argument-safe right s slots.1 e) (λ b t q e. safe_then (argument-safe left t slots.0 e) (λ a u p e.
      safe_then (call-safe f place a b u p q e) (λ r v k e. result-safe r v e)))
  expression-safe (assignment name value place) s h e = silent-safe (assignment name value place) s h e
  expression-safe (indexed_assignment name ps value place) s h e = silent-safe (indexed_assignment name ps value place) s h e
  expression-safe (output value place) s h e = silent-safe (output value place) s h e
  expression-safe (constant l p) s h e = flow-safe (constant l p) s h e
  expression-safe (variable n p) s h e = flow-safe (variable n p) s h e
  expression-safe (parenthesis t p) s h e = flow-safe (parenthesis t p) s h e
  expression-safe (monadic f b p) s h e = flow-safe (monadic f b p) s h e
  expression-safe (dyadic f a b p) s h e = flow-safe (dyadic f a b p) s h e
  expression-safe (reduction f x b p) s h e = flow-safe (reduction f x b p) s h e
  expression-safe (outer_product f a b p) s h e = flow-safe (outer_product f a b p) s h e
  expression-safe (inner_product f g a b p) s h e = flow-safe (inner_product f g a b p) s h e
  expression-safe (tree.subscript a ps p) s h e = flow-safe (tree.subscript a ps p) s h e

  statement-safe : (t : Statement) (s : State) → IsStatement hs t → IsEnvironment s.variables → Safe Any (statement_flow calls t s)
  statement-safe nothing s h e = record { outcome = (tt, e) }
  statement-safe (branch value place) s h e = safe_then (value-safe value s h e) (λ a t p e. branch-safe place a t e)
  statement-safe (expression value) s h e = expression-safe value s h e

pub expressions_are_lawful : ExpressionsAreLawful
expressions_are_lawful hs calls lawful t h s e = (value-safe hs calls lawful t s h e).outcome

pub positions_are_lawful : PositionsAreLawful
positions_are_lawful hs calls lawful qs h s e = (positions-safe hs calls lawful qs s h e).outcome

pub statements_are_lawful : StatementsAreLawful
statements_are_lawful hs calls lawful t h s e = (statement-safe hs calls lawful t s h e).outcome

-- ---- calls

turn-safe : {A : Type 0} (P : A → Type 0) (line : ℕ) (act : State → Outcome State A) → ((s : State) → IsEnvironment s.variables → Safe P (act s)) →
    (n : ℕ) (s : State) → IsEnvironment s.variables → Safe P (turn of_states line n act s)
turn-safe P line act h zero s e = record { outcome = e }
turn-safe {A} P line act h (suc left) s e = ends (act (with_turn left s)) (h (with_turn left s) e)
  where
    ends : (o : Outcome State A) → Safe P o → Safe P (entered of_states line (suc s.begun) o)
    ends (done a t) k = record { outcome = k.outcome }
    ends (fails kind place t) k = record { outcome = k.outcome }
    ends (spent t) k = record { outcome = k.outcome }

abbrev pub IsLine : List Heading → RoutineLine Statement → Type 0
IsLine hs l = IsStatement hs l.statement

pub get-line : (hs : List Heading) (body : List (RoutineLine Statement)) (k : ℕ) → AllByRecursion (IsLine hs) body → IfSome (slice_get body k) (IsLine hs)
get-line hs [] k h = tt
get-line hs (l ∷ ls) zero h = h.0
get-line hs (l ∷ ls) (suc k) h = get-line hs ls k h.1

pub line-at : (hs : List Heading) (body : List (RoutineLine Statement)) (i : ℤ) → AllByRecursion (IsLine hs) body → IfSome (line_at body i) (IsLine hs)
line-at hs body (pos zero) h = tt
line-at hs body (pos (suc k)) h = get-line hs body k h
line-at hs body (negsuc k) h = tt

abbrev Nothing : Unit {0} → Type 0
Nothing u = Unit {0}

module _ (hs : List Heading) (calls : Calls) (lawful : CallsAreLawful calls) where
  line-safe : (l : Option (RoutineLine Statement)) (s : State) (next : Flow → State → Outcome State (Unit {0})) → IfSome l (IsLine hs) → IsEnvironment s.variables →
      ((flow : Flow) (t : State) → IsEnvironment t.variables → Safe Nothing (next flow t)) → Safe Nothing (run_line of_states statement_flow calls l s next)
  line-safe None s next h e n = record { outcome = (tt, e) }
  line-safe (Some l) s next h e n =
      safe_then (turn-safe (λ flow. Unit {0}) l.line (statement_flow calls l.statement) (λ t e. statement-safe hs calls lawful l.statement t h e) s.turns s e) (λ flow t u e. n flow t e)

  lines-safe : (body : List (RoutineLine Statement)) (n : ℕ) (i : ℤ) (s : State) → AllByRecursion (IsLine hs) body → IsEnvironment s.variables →
      Safe Nothing (run_lines of_states statement_flow calls body n i s)
  lines-safe body zero i s h e = line-safe (line_at body i) s (λ flow t. spent t) (line-at hs body i h) e (λ flow t e. record { outcome = e })
  lines-safe body (suc n) i s h e =
      line-safe (line_at body i) s (λ flow t. run_lines of_states statement_flow calls body n (next_line i flow) t) (line-at hs body i h) e
      (λ flow t e. lines-safe body n (next_line i flow) t h e)

  found-safe : (r : Option (Routine Statement)) (place : Place) (left right : Option Array) (s : State) → IfSome r (IsRoutine hs) → IsOptional left → IsOptional right → IsEnvironment s.variables →
      Safe IsOptional (run_found of_states statement_flow calls r place left right s)
  found-safe None place left right s h p q e = record { outcome = e }
  found-safe (Some r) place left right s h p q e =
      let inside = with_call r.header (labels_of r.body) left right s in
      let lawful-inside : IsEnvironment inside.variables = record { globals = e.globals; frames = (frame-lawful r left right h.few p q, e.frames); origin = e.origin } in
      safe_then (lines-safe r.body s.turns (pos 1) inside h.lines lawful-inside)
      (λ u t k e. record { outcome = (result-lawful t.variables r.header.result e, record { globals = e.globals; frames = gone-lawful t.variables.frames e.frames; origin = e.origin }) })

found-routine : (hs : List Heading) (test : Routine Statement → Bool) (rs : List (Routine Statement)) → AllByRecursion (IsRoutine hs) rs → IfSome (find test rs) (IsRoutine hs)
found-routine hs test [] h = tt
found-routine hs test (r ∷ rs) h = by (test r) (find test rs) (found-routine hs test rs h.1)
  where
    by : (t : Bool) (o : Option (Routine Statement)) → IfSome o (IsRoutine hs) → IfSome (if t then Some r else o) (IsRoutine hs)
    by true o k = h.0
    by false o k = k

pub functions_are_lawful : FunctionsAreLawful
functions_are_lawful hs routines h zero f place left right p q s e = e
functions_are_lawful hs routines h (suc n) f place left right p q s e =
    (found-safe hs (call_within of_states statement_flow routines n) (functions_are_lawful hs routines h n)
    (routine_of routines f) place left right s (found-routine hs (λ r. is_same_name r.header.f f) routines h) p q e).outcome

-- ---- runs

abbrev pub IsStep : List Heading → Step Statement → Type 0
IsStep hs (statement_step line s) = IsStatement hs s
IsStep hs (command_step c) = IsCommand c

obeyed-lawful : (functions : List (List ℕ)) (c : Command) (s : State) → IsCommand c → IsEnvironment s.variables → IsEnvironment (obeyed functions c s).variables
obeyed-lawful functions Vars s h e = e
obeyed-lawful functions Fns s h e = e
obeyed-lawful functions (Erase names) s h e = record { globals = unset-globals names s.variables.globals e.globals; frames = e.frames; origin = e.origin }
obeyed-lawful functions (Origin o) s h e = record { globals = e.globals; frames = e.frames; origin = h }

unwound-lawful : (s : State) → IsEnvironment s.variables → IsEnvironment (unwound s).variables
unwound-lawful s e = record { globals = e.globals; frames = tt; origin = e.origin }

module _ (hs : List Heading) (calls : Calls) (lawful : CallsAreLawful calls) (functions : List (List ℕ)) (report_of : ErrorKind → Place → List ℕ) where
  after-lawful : (ending : Ending) (o : Outcome State Flow) (next : Ending → State → Run State) → Safe (λ flow. Unit {0}) o →
      ((n : Ending) (t : State) → IsEnvironment t.variables → IsEnvironment (next n t).state.variables) →
      IsEnvironment (after_statement of_states (statement_flow calls) functions report_of ending o next).state.variables
  after-lawful ending (done a s) next h n = n ending s h.outcome.1
  after-lawful ending (fails kind place s) next h n = n reported _ (unwound-lawful s h.outcome)
  after-lawful ending (spent s) next h n = unwound-lawful s h.outcome

  steps-lawful : (steps : List (Step Statement)) (ending : Ending) (s : State) → AllByRecursion (IsStep hs) steps → IsEnvironment s.variables →
      IsEnvironment (run_steps of_states (statement_flow calls) functions report_of steps ending s).state.variables
  steps-lawful [] ending s h e = e
  steps-lawful (statement_step line st ∷ steps) ending s h e =
      after-lawful ending (on_turn of_states line (statement_flow calls st) s) (run_steps of_states (statement_flow calls) functions report_of steps)
      (turn-safe (λ flow. Unit {0}) line (statement_flow calls st) (λ t e. statement-safe hs calls lawful st t h.0 e) s.turns s e)
      (λ n t e. steps-lawful steps n t h.1 e)
  steps-lawful (command_step c ∷ steps) ending s h e = steps-lawful steps ending (obeyed functions c s) h.1 (obeyed-lawful functions c s h.0 e)

pub all-steps : (hs : List Heading) (items : List Item) → AllByRecursion (IsLawfulItem hs) items → AllByRecursion (IsStep hs) (filter_map step_of items)
all-steps hs [] h = tt
all-steps hs (statement_item line s ∷ items) h = (h.0, all-steps hs items h.1)
all-steps hs (command_item line c ∷ items) h = (h.0, all-steps hs items h.1)
all-steps hs (definition_item d ∷ items) h = all-steps hs items h.1

all-routines : (hs : List Heading) (items : List Item) → AllByRecursion (IsLawfulItem hs) items → AllByRecursion (IsRoutine hs) (map routine (definitions_of items))
all-routines hs [] h = tt
all-routines hs (statement_item line s ∷ items) h = all-routines hs items h.1
all-routines hs (command_item line c ∷ items) h = all-routines hs items h.1
all-routines hs (definition_item d ∷ items) h = (h.0, all-routines hs items h.1)

pub runs_are_lawful : RunsAreLawful
runs_are_lawful hs script items n h k =
    let definitions : List Definition = definitions_of script.items in
    let routines : List (Routine Statement) = map routine definitions in
    steps-lawful hs (calls_of of_states statement_flow routines) (functions_are_lawful hs routines (all-routines hs script.items h) 256)
    (map (λ d. d.header.f) definitions) (report script) (filter_map step_of items) well (beginning n) (all-steps hs items k)
    (record { globals = tt; frames = tt; origin = inr refl })
