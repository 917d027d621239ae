-- Two kinds of states, values and statements that agree: one induction over expressions and statements, and one over
-- lines, calls and items.
use Rattle.std.proofs.Common.{◌≡◌, ℕ, zero, suc, ℤ, pos, negsuc, List, [], ◌∷◌, map, slice_get, Option, Some, None, refl, sym, ap, ◌∙◌}
use Rattle.std.specs.Option.{option_map}
use Rattle.apl_base.specs.declared.faults.ErrorKind.{ErrorKind}
use Rattle.apl_base.specs.declared.faults.Place.{Place}
use Rattle.apl_model.specs.Agreement.{mapped_outcome, mapped_flow, CallsAgree, ValuesAgree, ExpressionsAgree, PositionsAgree, StatementsAgree, mapped_line, mapped_routine, mapped_step, mapped_run, StatesAgree, MeaningsAgree, FunctionsAgree, RunsAgree, IsTranslation, TranslatedFunctionsAgree, TranslatedRunsAgree, RunsOverValuesAgree}
use Rattle.apl_model.specs.Call.{Routine, RoutineLine, labels_of, States, entered, turn, on_turn, line_at, next_line, run_line, run_lines, run_routine, run_found, routine_of, call_within, calls_of}
use Rattle.apl_model.specs.Environment.{is_same_name}
use Rattle.apl_model.specs.Immediate.{Ending, reported, out_of_turns, Run, Step, statement_step, command_step, after_statement, run_steps}
use Rattle.apl_model.specs.Order.{CallsOf, Values, value_in, argument_in, positions_in, show_value, silently, expression_in, flow_in}
use Rattle.apl_model.specs.Outcome.{Outcome, done, fails, spent, and_then, Flow}
use Rattle.apl_model.proofs.Mapped.{chosen}
use Rattle.apl_model.specs.Tree.{Tree, Slot, Positions, Statement, constant, variable, call, parenthesis, monadic, dyadic, reduction, outer_product, inner_product, subscript, assignment, indexed_assignment, output, elided, given, no_position, position, nothing, branch, expression}

-- an outcome that is another one taken over
pub record IsMapped {S T A B : Type 0} (state : S → T) (value : A → B) (o' : Outcome T B) (o : Outcome S A) : Type 0 where
  pub is : o' ≡ mapped_outcome state value o

-- what follows an outcome that was taken over
then_mapped : {S T A B C D : Type 0} (state : S → T) (f : A → B) (g : C → D) (o : Outcome S A) (next' : B → T → Outcome T D) (next : A → S → Outcome S C) →
    ((a : A) (s : S) → IsMapped state g (next' (f a) (state s)) (next a s)) → and_then (mapped_outcome state f o) next' ≡ mapped_outcome state g (and_then o next)
then_mapped state f g (done a s) next' next h = (h a s).is
then_mapped state f g (fails kind place s) next' next h = refl
then_mapped state f g (spent s) next' next h = refl

-- what follows agrees where what comes before does
pub mapped_then : {S T A B C D : Type 0} {state : S → T} {f : A → B} {g : C → D} {o' : Outcome T B} {o : Outcome S A} (next' : B → T → Outcome T D) {next : A → S → Outcome S C} →
    IsMapped state f o' o → ((a : A) (s : S) → IsMapped state g (next' (f a) (state s)) (next a s)) → IsMapped state g (and_then o' next') (and_then o next)
mapped_then {state = state} {f = f} {g = g} {o = o} next' {next = next} h n =
    record { is = ap (λ x. and_then x next') h.is ∙ then_mapped state f g o next' next n }

-- ---- expressions and statements

module _ {S T V W : Type 0} (state : S → T) (value : V → W) (M : Values S V) (N : Values T W) (h : ValuesAgree state value M N) where
  mutual
    pub value-agrees : (t : Tree) (s : S) → IsMapped state value (value_in N t (state s)) (value_in M t s)
    value-agrees (constant literal place) s = record { is = h.literal literal s }
    value-agrees (variable name place) s = record { is = h.name name place s }
    value-agrees (call f left right place) s =
        mapped_then _ (argument-agrees right s) (λ b t. mapped_then _ (argument-agrees left t) (λ a u.
        mapped_then _ (record { is = h.calls.agree f place a b u }) (λ r v. record { is = h.need place r v })))
    value-agrees (parenthesis inner place) s = value-agrees inner s
    value-agrees (monadic f right place) s = mapped_then _ (value-agrees right s) (λ b t. record { is = h.apply1 f b place t })
    value-agrees (dyadic f left right place) s =
        mapped_then _ (value-agrees right s) (λ b t. mapped_then _ (value-agrees left t) (λ a u. record { is = h.apply2 f a b place u }))
    value-agrees (reduction f axis right place) s = mapped_then _ (value-agrees right s) (λ b t. record { is = h.reduce f axis b place t })
    value-agrees (outer_product f left right place) s =
        mapped_then _ (value-agrees right s) (λ b t. mapped_then _ (value-agrees left t) (λ a u. record { is = h.outer f a b place u }))
    value-agrees (inner_product f g left right place) s =
        mapped_then _ (value-agrees right s) (λ b t. mapped_then _ (value-agrees left t) (λ a u. record { is = h.inner f g a b place u }))
    value-agrees (subscript array ps place) s =
        mapped_then _ (positions-agree ps s) (λ vs t. mapped_then _ (value-agrees array t) (λ a u. record { is = h.index a vs place u }))
    value-agrees (assignment name value place) s = mapped_then _ (value-agrees value s) (λ a t. record { is = h.assign name a t })
    value-agrees (indexed_assignment name ps value place) s =
        mapped_then _ (value-agrees value s) (λ b t. mapped_then _ (positions-agree ps t) (λ vs u. record { is = h.replace name vs b place u }))
    value-agrees (output value place) s = mapped_then _ (value-agrees value s) (λ a t. record { is = h.print a t })

    pub argument-agrees : (q : Slot) (s : S) → IsMapped state (option_map value) (argument_in N q (state s)) (argument_in M q s)
    argument-agrees elided s = record { is = refl }
    argument-agrees (given t) s = mapped_then _ (value-agrees t s) (λ a u. record { is = refl })

    pub positions-agree : (qs : Positions) (s : S) → IsMapped state (map (option_map value)) (positions_in N qs (state s)) (positions_in M qs s)
    positions-agree no_position s = record { is = refl }
    positions-agree (position q qs) s = mapped_then _ (positions-agree qs s) (λ vs t. mapped_then _ (argument-agrees q t) (λ v u. record { is = refl }))

  -- a value that is shown
  shown-agrees : (t : Tree) (s : S) → IsMapped state (λ (flow : Flow). flow) (and_then (value_in N t (state s)) (show_value N)) (and_then (value_in M t s) (show_value M))
  shown-agrees t s = mapped_then _ (value-agrees t s) (λ a u. record { is = h.show (Some a) u })

  -- a value after which nothing is shown
  silent-agrees : (t : Tree) (s : S) → IsMapped state (λ (flow : Flow). flow) (and_then (value_in N t (state s)) silently) (and_then (value_in M t s) silently)
  silent-agrees t s = mapped_then _ (value-agrees t s) (λ a u. record { is = refl })

  -- an expression as a statement
  expression-agrees : (t : Tree) (s : S) → IsMapped state (λ (flow : Flow). flow) (expression_in N t (state s)) (expression_in M t s)
  expression-agrees (call f left right place) s =
      mapped_then _ (argument-agrees right s) (λ b t. mapped_then _ (argument-agrees left t) (λ a u.
      mapped_then _ (record { is = h.calls.agree f place a b u }) (λ r v. record { is = h.show r v })))
  expression-agrees (assignment name value place) s = silent-agrees (assignment name value place) s
  expression-agrees (indexed_assignment name ps value place) s = silent-agrees (indexed_assignment name ps value place) s
  expression-agrees (output value place) s = silent-agrees (output value place) s
  expression-agrees (constant l p) s = shown-agrees (constant l p) s
  expression-agrees (variable n p) s = shown-agrees (variable n p) s
  expression-agrees (parenthesis e p) s = shown-agrees (parenthesis e p) s
  expression-agrees (monadic f b p) s = shown-agrees (monadic f b p) s
  expression-agrees (dyadic f a b p) s = shown-agrees (dyadic f a b p) s
  expression-agrees (reduction f x b p) s = shown-agrees (reduction f x b p) s
  expression-agrees (outer_product f a b p) s = shown-agrees (outer_product f a b p) s
  expression-agrees (inner_product f g a b p) s = shown-agrees (inner_product f g a b p) s
  expression-agrees (subscript a ps p) s = shown-agrees (subscript a ps p) s

  -- a statement
  pub flow-agrees : (t : Statement) (s : S) → IsMapped state (λ (flow : Flow). flow) (flow_in N t (state s)) (flow_in M t s)
  flow-agrees nothing s = record { is = refl }
  flow-agrees (branch value place) s = mapped_then _ (value-agrees value s) (λ a t. record { is = h.branch place a t })
  flow-agrees (expression value) s = expression-agrees value s

pub expressions_agree : (S T V W : Type 0) → ExpressionsAgree S T V W
expressions_agree S T V W state value M N h t s = (value-agrees state value M N h t s).is

pub positions_agree : (S T V W : Type 0) → PositionsAgree S T V W
positions_agree S T V W state value M N h qs s = (positions-agree state value M N h qs s).is

pub statements_agree : (S T V W : Type 0) → StatementsAgree S T V W
statements_agree S T V W state value M N h t s = (flow-agrees state value M N h t s).is

-- ---- lines, calls and items

module _ {P Q : Type 0} (statement : P → Q) where
  -- other statements have the same labels
  labels-mapped : (body : List (RoutineLine P)) → labels_of (map (mapped_line statement) body) ≡ labels_of body
  labels-mapped [] = refl
  labels-mapped (l ∷ ls) = ap (λ labels. l.label ∷ labels) (labels-mapped ls)

  line-mapped : (body : List (RoutineLine P)) (k : ℕ) → slice_get (map (mapped_line statement) body) k ≡ option_map (mapped_line statement) (slice_get body k)
  line-mapped [] k = refl
  line-mapped (l ∷ ls) zero = refl
  line-mapped (l ∷ ls) (suc k) = line-mapped ls k

  -- the line of a number
  line_at-mapped : (body : List (RoutineLine P)) (k : ℤ) → line_at (map (mapped_line statement) body) k ≡ option_map (mapped_line statement) (line_at body k)
  line_at-mapped body (pos zero) = refl
  line_at-mapped body (pos (suc k)) = line-mapped body k
  line_at-mapped body (negsuc k) = refl

  -- the function of a name
  routine_of-mapped : (routines : List (Routine P)) (f : List ℕ) → routine_of (map (mapped_routine statement) routines) f ≡ option_map (mapped_routine statement) (routine_of routines f)
  routine_of-mapped [] f = refl
  routine_of-mapped (r ∷ rs) f =
      chosen (option_map (mapped_routine statement)) (is_same_name r.header.f f) (Some r) (routine_of rs f) (Some (mapped_routine statement r)) (routine_of (map (mapped_routine statement) rs) f)
      refl (routine_of-mapped rs f)

-- where a run goes, and that a call's lines came to an end, is the same in both
abbrev same_flow : Flow → Flow
same_flow flow = flow

abbrev same_end : Unit {0} → Unit {0}
same_end u = u

module _ {S T V W : Type 0} (state : S → T) (value : V → W) (M : States S V) (N : States T W) (h : StatesAgree state value M N) where
  -- a statement that ended
  entered-mapped : {A B : Type 0} (f : A → B) (line number : ℕ) (o : Outcome S A) → entered N line number (mapped_outcome state f o) ≡ mapped_outcome state f (entered M line number o)
  entered-mapped f line number (done a s) = ap (λ t. done (f a) t) (h.end line number s)
  entered-mapped f line number (fails kind place s) = ap (λ t. fails kind place t) (h.end line number s)
  entered-mapped f line number (spent s) = refl

  -- a turn
  turn-agrees : {A B : Type 0} (f : A → B) (line : ℕ) (act' : T → Outcome T B) (act : S → Outcome S A) → ((s : S) → IsMapped state f (act' (state s)) (act s)) →
      (n : ℕ) (s : S) → IsMapped state f (turn N line n act' (state s)) (turn M line n act s)
  turn-agrees f line act' act a zero s = record { is = refl }
  turn-agrees f line act' act a (suc left) s = record {
    is = ap (λ n. entered N line (suc n) (act' (N.begin left (state s)))) (h.begun s)
        ∙ ap (λ t. entered N line (suc (M.begun s)) (act' t)) (h.begin left s)
        ∙ ap (λ o. entered N line (suc (M.begun s)) o) (a (M.begin left s)).is
        ∙ entered-mapped f line (suc (M.begun s)) (act (M.begin left s));
  }

  pub on_turn-agrees : {A B : Type 0} (f : A → B) (line : ℕ) (act' : T → Outcome T B) (act : S → Outcome S A) → ((s : S) → IsMapped state f (act' (state s)) (act s)) →
      (s : S) → IsMapped state f (on_turn N line act' (state s)) (on_turn M line act s)
  on_turn-agrees f line act' act a s =
      record { is = ap (λ n. turn N line n act' (state s)) (h.turns s) ∙ (turn-agrees f line act' act a (M.turns s) s).is }

module _ {S T V W P Q : Type 0} (state : S → T) (value : V → W) (statement : P → Q) (M : States S V) (N : States T W)
    (meaning : CallsOf S V → P → S → Outcome S Flow) (other : CallsOf T W → Q → T → Outcome T Flow)
    (h : StatesAgree state value M N) (m : MeaningsAgree state value statement meaning other) where
  module _ (calls : CallsOf S V) (others : CallsOf T W) (c : CallsAgree state value calls others) where
    -- a line of a body, and what follows it
    line-agrees : (l : Option (RoutineLine P)) (s : S) (next' : Flow → T → Outcome T (Unit {0})) (next : Flow → S → Outcome S (Unit {0})) →
        ((flow : Flow) (t : S) → IsMapped state same_end (next' flow (state t)) (next flow t)) →
        IsMapped state same_end (run_line N other others (option_map (mapped_line statement) l) (state s) next') (run_line M meaning calls l s next)
    line-agrees None s next' next n = record { is = refl }
    line-agrees (Some l) s next' next n =
        mapped_then next' (on_turn-agrees state value M N h same_flow l.line (other others (statement l.statement)) (meaning calls l.statement)
        (λ t. record { is = m.agree calls others c l.statement t }) s) n

    -- the lines of a body
    lines-agree : (body : List (RoutineLine P)) (n : ℕ) (k : ℤ) (s : S) →
        IsMapped state same_end (run_lines N other others (map (mapped_line statement) body) n k (state s)) (run_lines M meaning calls body n k s)
    lines-agree body zero k s = record {
      is = ap (λ l. run_line N other others l (state s) (λ flow t. spent t)) (line_at-mapped statement body k)
          ∙ (line-agrees (line_at body k) s (λ flow t. spent t) (λ flow t. spent t) (λ flow t. record { is = refl })).is;
    }
    lines-agree body (suc n) k s = record {
      is = ap (λ l. run_line N other others l (state s) (λ flow t. run_lines N other others (map (mapped_line statement) body) n (next_line k flow) t)) (line_at-mapped statement body k)
          ∙ (line-agrees (line_at body k) s (λ flow t. run_lines N other others (map (mapped_line statement) body) n (next_line k flow) t) (λ flow t. run_lines M meaning calls body n (next_line k flow) t)
          (λ flow t. lines-agree body n (next_line k flow) t)).is;
    }

    -- a call of a function
    routine-agrees : (r : Routine P) (left right : Option V) (s : S) →
        IsMapped state (option_map value) (run_routine N other others (mapped_routine statement r) (option_map value left) (option_map value right) (state s)) (run_routine M meaning calls r left right s)
    routine-agrees r left right s =
        let body : List (RoutineLine Q) = map (mapped_line statement) r.body in
        let inside : S = M.enter r.header (labels_of r.body) left right s in
        let outside : Unit {0} → T → Outcome T (Option W) = λ u t. done (N.result r.header.result t) (N.leave t) in
        let entering : N.enter r.header (labels_of body) (option_map value left) (option_map value right) (state s) ≡ state inside =
        ap (λ labels. N.enter r.header labels (option_map value left) (option_map value right) (state s)) (labels-mapped statement r.body) ∙ h.enter r.header (labels_of r.body) left right s in
        let leaving : IsMapped state (option_map value) (and_then (run_lines N other others body (M.turns s) (pos 1) (state inside)) outside) (run_routine M meaning calls r left right s) =
        mapped_then outside (lines-agree r.body (M.turns s) (pos 1) inside)
        (λ u t. record { is = ap (λ v. done v (N.leave (state t))) (h.result r.header.result t) ∙ ap (λ x. done (option_map value (M.result r.header.result t)) x) (h.leave t) }) in
        record {
          is = ap (λ n. and_then (run_lines N other others body n (pos 1) (N.enter r.header (labels_of body) (option_map value left) (option_map value right) (state s))) outside) (h.turns s)
              ∙ ap (λ t. and_then (run_lines N other others body (M.turns s) (pos 1) t) outside) entering
              ∙ leaving.is;
        }

    found-agrees : (r : Option (Routine P)) (place : Place) (left right : Option V) (s : S) →
        IsMapped state (option_map value) (run_found N other others (option_map (mapped_routine statement) r) place (option_map value left) (option_map value right) (state s))
        (run_found M meaning calls r place left right s)
    found-agrees None place left right s = record { is = refl }
    found-agrees (Some r) place left right s = routine-agrees r left right s

  -- calls, however many more may be pending
  pub calls-agree : (routines : List (Routine P)) (n : ℕ) →
      CallsAgree state value (call_within M meaning routines n) (call_within N other (map (mapped_routine statement) routines) n)
  calls-agree routines zero = record { agree = λ f place left right s. refl }
  calls-agree routines (suc n) =
      let others : CallsOf T W = call_within N other (map (mapped_routine statement) routines) n in
      record {
        agree = λ f place left right s.
            ap (λ r. run_found N other others r place (option_map value left) (option_map value right) (state s)) (routine_of-mapped statement routines f)
            ∙ (found-agrees (call_within M meaning routines n) others (calls-agree routines n) (routine_of routines f) place left right s).is;
      }

module _ {S T V W P Q : Type 0} (state : S → T) (value : V → W) (statement : P → Q) (M : States S V) (N : States T W) (h : StatesAgree state value M N)
    (flow_of : P → S → Outcome S Flow) (other : Q → T → Outcome T Flow) (m : (p : P) (s : S) → other (statement p) (state s) ≡ mapped_flow state (flow_of p s))
    (functions : List (List ℕ)) (report_of : ErrorKind → Place → List ℕ) where
  -- what follows a statement
  after-agrees : (ending : Ending) (o : Outcome S Flow) (next' : Ending → T → Run T) (next : Ending → S → Run S) →
      ((e : Ending) (s : S) → next' e (state s) ≡ mapped_run state (next e s)) →
      after_statement N other functions report_of ending (mapped_flow state o) next' ≡ mapped_run state (after_statement M flow_of functions report_of ending o next)
  after-agrees ending (done a s) next' next n = n ending s
  after-agrees ending (fails kind place s) next' next n =
      ap (λ t. next' reported (N.tell (report_of kind place) t)) (h.unwind s) ∙ ap (λ t. next' reported t) (h.tell (report_of kind place) (M.unwind s))
      ∙ n reported (M.tell (report_of kind place) (M.unwind s))
  after-agrees ending (spent s) next' next n = ap (λ (t : T). record { ending = out_of_turns; state = t }) (h.unwind s)

  -- statements and commands in order
  pub steps-agree : (steps : List (Step P)) (ending : Ending) (s : S) →
      run_steps N other functions report_of (map (mapped_step statement) steps) ending (state s) ≡ mapped_run state (run_steps M flow_of functions report_of steps ending s)
  steps-agree [] ending s = refl
  steps-agree (statement_step line p ∷ steps) ending s =
      let next' : Ending → T → Run T = run_steps N other functions report_of (map (mapped_step statement) steps) in
      ap (λ o. after_statement N other functions report_of ending o next')
      (on_turn-agrees state value M N h same_flow line (other (statement p)) (flow_of p) (λ t. record { is = m p t }) s).is
      ∙ after-agrees ending (on_turn M line (flow_of p) s) next' (run_steps M flow_of functions report_of steps) (steps-agree steps)
  steps-agree (command_step c ∷ steps) ending s =
      ap (λ t. run_steps N other functions report_of (map (mapped_step statement) steps) ending t) (h.obey functions c s) ∙ steps-agree steps ending (M.obey functions c s)

pub functions_agree : (S T V W P Q : Type 0) → FunctionsAgree S T V W P Q
functions_agree S T V W P Q state value statement M N meaning other h m routines n = calls-agree state value statement M N meaning other h m routines n

pub runs_agree : (S T V W P Q : Type 0) → RunsAgree S T V W P Q
runs_agree S T V W P Q state value statement M N meaning other h m routines functions report_of steps ending s =
    let calls : CallsOf S V = calls_of M meaning routines in
    let others : CallsOf T W = calls_of N other (map (mapped_routine statement) routines) in
    steps-agree state value statement M N h (meaning calls) (other others) (m.agree calls others (calls-agree state value statement M N meaning other h m routines 256)) functions report_of steps ending s

-- ---- values that stay what they are

-- a value, if there is one, taken over to itself
pub option-same : {A : Type 0} (a : Option A) → option_map (λ x. x) a ≡ a
option-same None = refl
option-same (Some a) = refl

pub options-same : {A : Type 0} (ps : List (Option A)) → map (option_map (λ x. x)) ps ≡ ps
options-same [] = refl
options-same (p ∷ ps) = ap (λ q. q ∷ map (option_map (λ x. x)) ps) (option-same p) ∙ ap (λ qs. p ∷ qs) (options-same ps)

-- an outcome whose value is taken over to itself
pub value-same : {S T A : Type 0} (state : S → T) (f : A → A) → ((a : A) → f a ≡ a) → (o : Outcome S A) → mapped_outcome state f o ≡ mapped_outcome state (λ a. a) o
value-same state f h (done a s) = ap (λ x. done x (state s)) (h a)
value-same state f h (fails kind place s) = refl
value-same state f h (spent s) = refl

outcome-same : {S A : Type 0} (o : Outcome S A) → mapped_outcome (λ s. s) (λ a. a) o ≡ o
outcome-same (done a s) = refl
outcome-same (fails kind place s) = refl
outcome-same (spent s) = refl

module _ {S T V : Type 0} (state : S → T) (calls : CallsOf S V) (others : CallsOf T V) where
  -- the arguments of a call as they are, and taken over to themselves
  arguments-same : (f : List ℕ) (place : Place) (left right : Option V) (t : T) → others f place (option_map (λ v. v) left) (option_map (λ v. v) right) t ≡ others f place left right t
  arguments-same f place left right t =
      ap (λ l. others f place l (option_map (λ v. v) right) t) (option-same left) ∙ ap (λ r. others f place left r t) (option-same right)

  -- calls that leave values as they are agree
  pub calls-kept : ((f : List ℕ) (place : Place) (left right : Option V) (s : S) → others f place left right (state s) ≡ mapped_outcome state (λ r. r) (calls f place left right s)) →
      CallsAgree state (λ v. v) calls others
  calls-kept h = record {
    agree = λ f place left right s.
        arguments-same f place left right (state s) ∙ h f place left right s ∙ sym (value-same state (option_map (λ v. v)) option-same (calls f place left right s));
  }

  -- and the other way round
  pub call-kept : CallsAgree state (λ v. v) calls others →
      (f : List ℕ) (place : Place) (left right : Option V) (s : S) → others f place left right (state s) ≡ mapped_outcome state (λ r. r) (calls f place left right s)
  call-kept c f place left right s =
      sym (arguments-same f place left right (state s)) ∙ c.agree f place left right s ∙ value-same state (option_map (λ v. v)) option-same (calls f place left right s)

-- ---- where only the statements differ

call-same : {S V : Type 0} (calls others : CallsOf S V) → CallsAgree (λ s. s) (λ v. v) calls others →
    (f : List ℕ) (place : Place) (left right : Option V) (s : S) → others f place left right s ≡ calls f place left right s
call-same calls others c f place left right s = call-kept (λ s. s) calls others c f place left right s ∙ outcome-same (calls f place left right s)

calls-same : {S V : Type 0} (calls others : CallsOf S V) → CallsAgree (λ s. s) (λ v. v) calls others → others ≡ calls
calls-same calls others c = λ i f place left right s. call-same calls others c f place left right s i

-- what turns, calls and commands do agrees with itself
states-same : {S V : Type 0} (M : States S V) → StatesAgree (λ s. s) (λ v. v) M M
states-same M = record {
  turns = λ s. refl;
  begun = λ s. refl;
  begin = λ left s. refl;
  end = λ line number s. refl;
  enter = λ header labels left right s.
      ap (λ l. M.enter header labels l (option_map (λ v. v) right) s) (option-same left) ∙ ap (λ r. M.enter header labels left r s) (option-same right);
  result = λ name s. sym (option-same (M.result name s));
  leave = λ s. refl;
  unwind = λ s. refl;
  tell = λ text s. refl;
  obey = λ functions c s. refl;
}

module _ {S V P Q : Type 0} (statement : P → Q) (meaning : CallsOf S V → P → S → Outcome S Flow) (other : CallsOf S V → Q → S → Outcome S Flow)
    (t : IsTranslation statement meaning other) where
  -- translated statements mean the same
  pub translation-agrees : MeaningsAgree (λ s. s) (λ v. v) statement meaning other
  translation-agrees = record {
    agree = λ calls others c p s. ap (λ k. other k (statement p) s) (calls-same calls others c) ∙ t calls p s ∙ sym (outcome-same (meaning calls p s));
  }

pub translated_functions_agree : (S V P Q : Type 0) → TranslatedFunctionsAgree S V P Q
translated_functions_agree S V P Q statement M meaning other t routines n f place left right s =
    call-same (call_within M meaning routines n) (call_within M other (map (mapped_routine statement) routines) n)
    (functions_agree S S V V P Q (λ s. s) (λ v. v) statement M M meaning other (states-same M) (translation-agrees statement meaning other t) routines n) f place left right s

pub translated_runs_agree : (S V P Q : Type 0) → TranslatedRunsAgree S V P Q
translated_runs_agree S V P Q statement M meaning other t routines functions report_of steps ending s =
    runs_agree S S V V P Q (λ s. s) (λ v. v) statement M M meaning other (states-same M) (translation-agrees statement meaning other t) routines functions report_of steps ending s

-- ---- where only the values differ

lines-same : {P : Type 0} (body : List (RoutineLine P)) → map (mapped_line (λ p. p)) body ≡ body
lines-same [] = refl
lines-same (l ∷ ls) = ap (λ rest. l ∷ rest) (lines-same ls)

-- functions whose statements are taken over to themselves
pub routines-same : {P : Type 0} (routines : List (Routine P)) → map (mapped_routine (λ p. p)) routines ≡ routines
routines-same [] = refl
routines-same (r ∷ rs) =
    ap (λ body. record { header = r.header; body = body } ∷ map (mapped_routine (λ p. p)) rs) (lines-same r.body) ∙ ap (λ rest. r ∷ rest) (routines-same rs)

items-same : {P : Type 0} (steps : List (Step P)) → map (mapped_step (λ p. p)) steps ≡ steps
items-same [] = refl
items-same (statement_step line p ∷ steps) = ap (λ rest. statement_step line p ∷ rest) (items-same steps)
items-same (command_step c ∷ steps) = ap (λ rest. command_step c ∷ rest) (items-same steps)

pub runs_over_values_agree : (S T V W : Type 0) → RunsOverValuesAgree S T V W
runs_over_values_agree S T V W state value M N values others h v routines functions report_of steps ending s =
    let meaning : CallsOf S V → Statement → S → Outcome S Flow = λ calls. flow_in (values calls) in
    let other : CallsOf T W → Statement → T → Outcome T Flow = λ calls. flow_in (others calls) in
    let m : MeaningsAgree state value (λ (p : Statement). p) meaning other = record { agree = λ calls k c p s. statements_agree S T V W state value (values calls) (others k) (v calls k c) p s } in
    ap (λ rs. run_steps N (other (calls_of N other rs)) functions report_of steps ending (state s)) (sym (routines-same routines))
    ∙ ap (λ items. run_steps N (other (calls_of N other (map (mapped_routine (λ p. p)) routines))) functions report_of items ending (state s)) (sym (items-same steps))
    ∙ runs_agree S T V W Statement Statement state value (λ p. p) M N meaning other h m routines functions report_of steps ending s
