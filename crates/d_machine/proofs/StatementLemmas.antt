-- Statements of a script by their codes, and how their runs end.
use Rattle.std.proofs.Common.{◌≡◌, ℕ, zero, suc, ◌+◌, ◌-◌, ◌^◌, ◌≤◌, List, [], ◌∷◌, ◌++◌, length, Some, None, Ok, Err, refl, sym, ap, subst, ◌∙◌, arith, append_assoc, true}
use Rattle.std.specs.Prelude.{Result, slice_get}
use Rattle.std.specs.List.{AllByRecursion}
use Rattle.apl_base.specs.declared.faults.Place.{Place}
use Rattle.apl_base.specs.Array.{Array}
use Rattle.array_store.specs.Follows.{none}
use Rattle.apl_model.specs.Call.{on_turn, call_within}
use Rattle.apl_model.specs.Environment.{Environment, without_frames}
use Rattle.apl_model.specs.Evaluation.{State, of_arrays}
use Rattle.apl_model.specs.Grammar.{IsStatement}
use Rattle.apl_model.specs.Immediate.{of_states, unwound}
use Rattle.apl_model.specs.Items.{IsLawfulItem}
use Rattle.apl_model.specs.Outcome.{Outcome, Flow as EvaluationFlow}
use Rattle.apl_model.specs.Script.{headings}
use Rattle.apl_model.specs.declared.tokens.Heading.{Heading}
use Rattle.apl_model.specs.Tree.{Item, Script, Statement, Tree, nothing, branch, expression, statement_item}
use Rattle.apl_model.specs.Tree.{constant, variable, call, parenthesis, monadic, dyadic, reduction, outer_product, inner_product, subscript, assignment, indexed_assignment, output}
use Rattle.apl_compile.specs.declared.codes.Code.{Code}
use Rattle.apl_compile.specs.declared.codes.Instruction.{Instruction}
use Rattle.apl_compile.specs.declared.codes.Op.TheVariants as op
use Rattle.apl_compile.specs.Code.{at, arguments, at_line, expression_code, slot_code, ending, printing, whole_code, code_on}
use Rattle.apl_compile.specs.Execution.{code_flow}
use Rattle.apl_compile.specs.Lawful.{IsLawfulCode}
use Rattle.apl_compile.specs.Program.{ProgramView, compiled, program_of}
use Rattle.apl_compile.specs.Running.{code_meaning, routines_in}
use Rattle.apl_compile.proofs.LawfulLemmas.{statements_are_lawful}
use Rattle.standing.specs.Statements.{HasStatementAt, IsStatementAt, calls_in, evaluated}
use Rattle.standing.proofs.StatementLemmas.{statement_has_code, evaluated_by_code}
use Rattle.machine_state.specs.declared.machines.Machine.{Machine}
use Rattle.machine_state.specs.StandsFor.{IsAtRest, IsLawfulMachine, beginning}
use Rattle.machine_state.specs.Steps.{pending, IsSameCount}
use Rattle.array_store.specs.Stores.{StoreView}
use Rattle.drag_along.specs.Segments.{SegmentView}
use Rattle.value_stack.specs.Stacks.{entries}
use Rattle.apl_base.specs.declared.faults.ErrorKind.{ErrorKind}
use Rattle.apl_model_laws.specs.Turns.{state_of}
use Rattle.d_machine.specs.declared.answers.Step.TheVariants as step
use Rattle.d_machine.specs.declared.answers.Stop.{Stop}
use Rattle.d_machine.specs.declared.answers.Stop.TheVariants as stop
use Rattle.d_machine.specs.declared.breaks.Break.{Break}
use Rattle.d_machine.specs.declared.breaks.Break.TheVariants as break
use Rattle.calling_steps.specs.declared.flows.Flow.{Flow}
use Rattle.calling_steps.specs.Branches.{flow_of}
use Rattle.calling_steps.specs.Calls.{EndsAll}
use Rattle.d_machine.specs.Answers.{Scene, AgreesWith, ComesTo, RunsStatement, TellsOperations, operations}
use Rattle.entry_steps.specs.Sound.{HasLawfulLiterals, IsSoundCode}
use Rattle.d_machine.specs.Running.{IsAt, AnswersFlow, AreAllArrays, AreCallsAt, AreSameTurns, BreaksOff, IsCutOff, IsLawfulStop, LeavesStopped, Stays, TakesTurn, UnlessCutOff, last_line}
use Rattle.d_machine.proofs.LiteralLemmas.{lawful_literals}
use Rattle.d_machine.proofs.RunLemmas.{with_machine, at_beginning, at_variables, stays_counted, stays_then}

-- ---- the code of a statement

-- a code ends on the line of its last instruction
last_of_more : (xs : List Instruction) (i : Instruction) → last_line (xs ++ i ∷ []) ≡ i.place.line
last_of_more [] i = refl
last_of_more (x ∷ []) i = refl
last_of_more (x ∷ y ∷ xs) i = last_of_more (y ∷ xs) i

-- a code that is some instructions and then an end
record EndsOn (line : ℕ) (code : List Instruction) : Type 0 where
  front : List Instruction
  is : code ≡ front ++ ending line

ends_printing : (line : ℕ) (front : List Instruction) → EndsOn line (front ++ printing line)
ends_printing line front = record { front = front ++ at_line line op.Print; is = sym (append_assoc front (at_line line op.Print) (ending line)) }

whole_ends : (line : ℕ) (t : Tree) → EndsOn line (whole_code line t)
whole_ends line (call f left right p) =
    let own : List Instruction = at p (op.Call f (arguments left right) true) in
    record {
      front = slot_code right ++ (slot_code left ++ (own ++ at_line line op.Print));
      is =
          ap (λ (xs : List Instruction). slot_code right ++ (slot_code left ++ xs)) (sym (append_assoc own (at_line line op.Print) (ending line)))
          ∙ ap (λ (xs : List Instruction). slot_code right ++ xs) (sym (append_assoc (slot_code left) (own ++ at_line line op.Print) (ending line)))
          ∙ sym (append_assoc (slot_code right) (slot_code left ++ (own ++ at_line line op.Print)) (ending line));
    }
whole_ends line (assignment n value p) = record { front = expression_code (assignment n value p); is = refl }
whole_ends line (indexed_assignment n qs value p) = record { front = expression_code (indexed_assignment n qs value p); is = refl }
whole_ends line (output value p) = record { front = expression_code (output value p); is = refl }
whole_ends line (constant l p) = ends_printing line (expression_code (constant l p))
whole_ends line (variable n p) = ends_printing line (expression_code (variable n p))
whole_ends line (parenthesis e p) = ends_printing line (expression_code (parenthesis e p))
whole_ends line (monadic f right p) = ends_printing line (expression_code (monadic f right p))
whole_ends line (dyadic f left right p) = ends_printing line (expression_code (dyadic f left right p))
whole_ends line (reduction f x right p) = ends_printing line (expression_code (reduction f x right p))
whole_ends line (outer_product f left right p) = ends_printing line (expression_code (outer_product f left right p))
whole_ends line (inner_product f g left right p) = ends_printing line (expression_code (inner_product f g left right p))
whole_ends line (subscript array qs p) = ends_printing line (expression_code (subscript array qs p))

code_ends : (line : ℕ) (t : Statement) → EndsOn line (code_on line t)
code_ends line nothing = record { front = []; is = refl }
code_ends line (branch value p) = record { front = expression_code value ++ at p op.Goto; is = sym (append_assoc (expression_code value) (at p op.Goto) (ending line)) }
code_ends line (expression value) = whole_ends line value

pub ends_on_its_line : (line : ℕ) (t : Statement) → last_line (code_on line t) ≡ line
ends_on_its_line line t =
    let e = code_ends line t in
    ap last_line e.is ∙ last_of_more e.front (record { place = record { line = line; column = 0 }; op = op.End })

-- the code of this number is that of the statement
pub code_is : (p : ProgramView) (script : Script) (at line : ℕ) (statement : Statement) (code : Code) → p ≡ program_of script → IsStatementAt script at line statement → Some code ≡ slice_get p.codes at → code ≡ compiled line statement
code_is p script at line statement code e there found =
    let both : Some code ≡ Some (compiled line statement) = found ∙ ap (λ (q : ProgramView). slice_get q.codes at) e ∙ statement_has_code script at line statement there in
    cc

-- ---- what it needs

statement_of_item : (items before after : List Item) (hs : List Heading) (line : ℕ) (s : Statement) → items ≡ before ++ statement_item line s ∷ after → AllByRecursion (IsLawfulItem hs) items → IsStatement hs s
statement_of_item items before after hs line s e all = by before (subst (λ (is : List Item). AllByRecursion (IsLawfulItem hs) is) e all)
  where
    by : (front : List Item) → AllByRecursion (IsLawfulItem hs) (front ++ statement_item line s ∷ after) → IsStatement hs s
    by [] h = h.0
    by (i ∷ front) h = by front h.1

module _ (p : ProgramView) (at : ℕ) (code : Code) (h : HasStatementAt p at) (found : Some code ≡ slice_get p.codes at) where
  its_code : code.instructions ≡ code_on h.line h.statement
  its_code = ap (λ (c : Code). c.instructions) (code_is p h.script at h.line h.statement code h.compiled h.there found)

  pub sound_code : IsSoundCode code.instructions
  sound_code = record {
    lawful = subst (λ (is : List Instruction). IsLawfulCode is) (sym its_code) (statements_are_lawful h.line h.statement);
    literals =
        subst (λ (is : List Instruction). HasLawfulLiterals is) (sym its_code)
        (lawful_literals (headings h.script.items) h.line h.statement
        (statement_of_item h.script.items h.there.before h.there.after (headings h.script.items) h.line h.statement h.there.items h.lawful.each));
  }

-- ---- what its evaluation comes to

pub evaluated_as : (p : ProgramView) (script : Script) (at line : ℕ) (statement : Statement) (code : Code) (s : State) → p ≡ program_of script → IsStatementAt script at line statement → Some code ≡ slice_get p.codes at → evaluated script line statement s ≡ on_turn of_states (last_line code.instructions) (code_flow (of_arrays (calls_in p)) code.instructions) s
evaluated_as p script at line statement code s e there found =
    let is : code ≡ compiled line statement = code_is p script at line statement code e there found in
    evaluated_by_code script line statement s
    ∙ ap (λ (q : ProgramView). on_turn of_states line (code_flow (of_arrays (calls_in q)) (code_on line statement)) s) (sym e)
    ∙ ap (λ (n : ℕ). on_turn of_states n (code_flow (of_arrays (calls_in p)) (code_on line statement)) s) (sym (ends_on_its_line line statement))
    ∙ ap (λ (c : Code). on_turn of_states (last_line c.instructions) (code_flow (of_arrays (calls_in p)) c.instructions) s) (sym is)

-- at rest 256 calls may be pending
pub calls_at_rest : (p : ProgramView) (m : Machine) → m.names.frames ≡ [] → AreCallsAt p m (calls_in p)
calls_at_rest p m e = ap (λ fs. call_within of_states (code_meaning of_states of_arrays) (routines_in p) (256 - length fs)) (sym e)

-- ---- how it ends

pub comes_to : (old now : Scene) (s : State) → IsAtRest now.machine → IsAt old now s → ComesTo old now s
comes_to old now s rest is = record {
  rest = rest;
  variables = is.variables;
  turns = is.turns;
  begun = is.begun;
  printed = is.printed;
  traced = is.traced;
}

-- where all calls ended, evaluation is unwound
pub at_unwound : (start old : Scene) (m : Machine) (s : State) → IsLawfulMachine old.machine none → EndsAll old.machine m → IsSameCount old.machine m → IsAt start old s → IsAt start (with_machine old m) (unwound s)
at_unwound start old m s lawful ends same is =
    at_variables start old m s (without_frames s.variables) same
    (ends.variables none lawful ∙ ap (λ (e : Environment Array). without_frames e) is.variables) is

pub rest_unwound : (old m : Machine) → IsLawfulMachine old none → old.begun + old.turns_left ≤ 2 ^ 64 - 1 → EndsAll old m → IsSameCount old m → IsAtRest m
rest_unwound old m lawful turns ends same = record {
  lawful = ends.lawful none lawful;
  stack = ends.stack;
  frames = ap (λ e. e.frames) ends.names;
  turns = omega (arith, turns, same.turns, same.begun);
}

pub tells_unwound : (start old : Scene) (m : Machine) → EndsAll old.machine m → IsSameCount old.machine m → TellsOperations start old → TellsOperations start (with_machine old m)
tells_unwound start old m ends same tells gained costs below =
    let counts : operations m ≡ operations old.machine = ap (λ c. c.fetched + c.made + c.applied) ends.counts in
    counts ∙ tells gained (sym (ap (λ c. c.items) same.costs) ∙ costs) (omega (arith, below, counts))

-- as many frames as none are none
pub no_frames : {A : Type 0} → (fs gs : List A) → length fs ≡ length gs → gs ≡ [] → fs ≡ []
no_frames [] gs e none_there = refl
no_frames (f ∷ fs) gs e none_there = absurd (some_more (length fs) (e ∙ ap length none_there))
  where
    some_more : (n : ℕ) → suc n ≡ 0 → ⊥
    some_more n h = cc

module _ (p : ProgramView) (at : ℕ) (code : Code) (old mid : Scene) (found : Some code ≡ slice_get p.codes at) (rest : IsAtRest old.machine) where
  -- what the turn answers, of the evaluation of a statement that has this code
  turn_answers : (answer : Result Flow Break) → TakesTurn p (last_line code.instructions) code.instructions old mid answer → AnswersFlow old mid (on_turn of_states (last_line code.instructions) (code_flow (of_arrays (calls_in p)) code.instructions) (beginning old.machine)) answer
  turn_answers answer t = t.answers (calls_in p) old (beginning old.machine) (calls_at_rest p old.machine rest.frames) (at_beginning old)

  pub runs_done : (to : Flow) → TakesTurn p (last_line code.instructions) code.instructions old mid (Ok to) → IsAtRest mid.machine → RunsStatement p at old mid (Ok step.Done)
  runs_done to t still =
      let a = turn_answers (Ok to) t in
      record {
        agrees = λ script line statement e there. (
          flow_of to,
          a.0,
          evaluated_as p script at line statement code (beginning old.machine) e there found ∙ a.1,
          record { comes = comes_to old mid a.0 still a.2; operations = t.operations },
        );
        origin = t.stays.origin;
        limit = t.stays.limit;
        traced = t.stays.traced;
        untraced = t.stays.untraced;
        out_faults = t.stays.out_faults;
        trace_faults = t.stays.trace_faults;
      }

  agrees_stop : (why : Stop) → ¬ (why ≡ stop.Spent) → (o u : Outcome State EvaluationFlow) → o ≡ u → BreaksOff old mid u (break.Stop why) → AgreesWith old mid o (Err why)
  agrees_stop stop.Spent other o u e b = absurd (other refl)
  agrees_stop (stop.WsFull live asked) other o u e b = subst (λ (x : Outcome State EvaluationFlow). IsCutOff old mid (state_of x) (stop.WsFull live asked)) (sym e) b
  agrees_stop stop.NoMemory other o u e b = subst (λ (x : Outcome State EvaluationFlow). IsCutOff old mid (state_of x) stop.NoMemory) (sym e) b
  agrees_stop stop.OutFault other o u e b = subst (λ (x : Outcome State EvaluationFlow). IsCutOff old mid (state_of x) stop.OutFault) (sym e) b
  agrees_stop stop.TraceFault other o u e b = subst (λ (x : Outcome State EvaluationFlow). IsCutOff old mid (state_of x) stop.TraceFault) (sym e) b

  -- it was cut off
  pub runs_stop : (why : Stop) → ¬ (why ≡ stop.Spent) → TakesTurn p (last_line code.instructions) code.instructions old mid (Err (break.Stop why)) → RunsStatement p at old mid (Err why)
  runs_stop why other t =
      let a = turn_answers (Err (break.Stop why)) t in
      record {
        agrees = λ script line statement e there.
            agrees_stop why other (evaluated script line statement (beginning old.machine))
            (on_turn of_states (last_line code.instructions) (code_flow (of_arrays (calls_in p)) code.instructions) (beginning old.machine))
            (evaluated_as p script at line statement code (beginning old.machine) e there found) a;
        origin = t.stays.origin;
        limit = t.stays.limit;
        traced = t.stays.traced;
        untraced = t.stays.untraced;
        out_faults = t.stays.out_faults;
        trace_faults = t.stays.trace_faults;
      }

  -- all calls ended after it
  module _ (m : Machine) (lawful : IsLawfulMachine mid.machine none) (turns : AreSameTurns old.machine mid.machine) (ends : EndsAll mid.machine m) (same : IsSameCount mid.machine m) where
    still : IsAtRest m
    still = rest_unwound mid.machine m lawful (omega (arith, turns, rest.turns)) ends same

    stays_all : (answer : Result Flow Break) → TakesTurn p (last_line code.instructions) code.instructions old mid answer → Stays old (with_machine mid m)
    stays_all answer t = stays_then old mid (with_machine mid m) t.stays (stays_counted mid m same)

    pub runs_error : (kind : ErrorKind) (place : Place) → TakesTurn p (last_line code.instructions) code.instructions old mid (Err (break.Error kind place)) → RunsStatement p at old (with_machine mid m) (Ok (step.Error kind place))
    runs_error kind place t =
        let a = turn_answers (Err (break.Error kind place)) t in
        let s = stays_all (Err (break.Error kind place)) t in
        record {
          agrees = λ script line statement e there. (
            a.0,
            evaluated_as p script at line statement code (beginning old.machine) e there found ∙ a.1,
            record {
              comes = comes_to old (with_machine mid m) (unwound a.0) still (at_unwound old mid m a.0 lawful ends same a.2);
              operations = λ w. tells_unwound old mid m ends same (t.operations w);
            },
          );
          origin = s.origin;
          limit = s.limit;
          traced = s.traced;
          untraced = s.untraced;
          out_faults = s.out_faults;
          trace_faults = s.trace_faults;
        }

    pub runs_spent : TakesTurn p (last_line code.instructions) code.instructions old mid (Err (break.Stop stop.Spent)) → RunsStatement p at old (with_machine mid m) (Err stop.Spent)
    runs_spent t =
        let a = turn_answers (Err (break.Stop stop.Spent)) t in
        let s = stays_all (Err (break.Stop stop.Spent)) t in
        record {
          agrees = λ script line statement e there. (
            a.0,
            evaluated_as p script at line statement code (beginning old.machine) e there found ∙ a.1,
            comes_to old (with_machine mid m) (unwound a.0) still (at_unwound old mid m a.0 lawful ends same a.2),
          );
          origin = s.origin;
          limit = s.limit;
          traced = s.traced;
          untraced = s.untraced;
          out_faults = s.out_faults;
          trace_faults = s.trace_faults;
        }

-- nothing is pending where nothing was, and no call
pub still_at_rest : (old new : Machine) → IsAtRest old → IsLawfulMachine new none → AreSameTurns old new → pending new ≡ pending old → length new.names.frames ≡ length old.names.frames → IsAtRest new
still_at_rest old new rest lawful turns same depth = record {
  lawful = lawful;
  stack = none_pending new.store new.stack (same ∙ ap (entries old.store) rest.stack);
  frames = no_frames new.names.frames old.names.frames depth rest.frames;
  turns = omega (arith, turns, rest.turns);
}
  where
    none_pending : (store : StoreView) (stack : List SegmentView) → entries store stack ≡ [] → stack ≡ []
    none_pending store [] e = refl
    none_pending store (s ∷ stack) e = absurd cc

-- a statement of the script has a code
pub code_there : (p : ProgramView) (at : ℕ) → HasStatementAt p at → slice_get p.codes at ≡ None → ⊥
code_there p at h none_there =
    let there : slice_get p.codes at ≡ Some (compiled h.line h.statement) =
    ap (λ (q : ProgramView). slice_get q.codes at) h.compiled ∙ statement_has_code h.script at h.line h.statement h.there in
    let no : None ≡ Some (compiled h.line h.statement) = sym none_there ∙ there in
    absurd cc

-- at rest all entries are arrays: there are none
pub arrays_at_rest : (m : Machine) → IsAtRest m → AreAllArrays (pending m)
arrays_at_rest m rest = ([], ap (entries m.store) rest.stack)

-- a run that was cut off
not_spent_full : (live asked : ℕ) → stop.WsFull live asked ≡ stop.Spent → ⊥
not_spent_full live asked e = cc

not_spent_memory : stop.NoMemory ≡ stop.Spent → ⊥
not_spent_memory e = cc

not_spent_out : stop.OutFault ≡ stop.Spent → ⊥
not_spent_out e = cc

not_spent_trace : stop.TraceFault ≡ stop.Spent → ⊥
not_spent_trace e = cc

cut_off : (p : ProgramView) (at : ℕ) (code : Code) (old mid : Scene) (found : Some code ≡ slice_get p.codes at) (rest : IsAtRest old.machine) (m : Machine) (why : Stop) → ¬ (why ≡ stop.Spent) → TakesTurn p (last_line code.instructions) code.instructions old mid (Err (break.Stop why)) → m ≡ mid.machine → RunsStatement p at old (with_machine mid m) (Err why)
cut_off p at code old mid found rest m why other t same =
    subst (λ (x : Machine). RunsStatement p at old (with_machine mid x) (Err why)) (sym same) (runs_stop p at code old mid found rest why other t)

-- what a stop leaves: spent, or cut off
pub runs_stopped : (p : ProgramView) (at : ℕ) (code : Code) (old mid : Scene) (found : Some code ≡ slice_get p.codes at) (rest : IsAtRest old.machine) (m : Machine) (why : Stop) → TakesTurn p (last_line code.instructions) code.instructions old mid (Err (break.Stop why)) → UnlessCutOff {A = Flow} (Err (break.Stop why)) (IsLawfulMachine mid.machine none) → UnlessCutOff {A = Flow} (Err (break.Stop why)) (AreSameTurns old.machine mid.machine) → LeavesStopped why mid.machine m → RunsStatement p at old (with_machine mid m) (Err why)
runs_stopped p at code old mid found rest m stop.Spent t lawful turns l = runs_spent p at code old mid found rest m lawful turns l.0 l.1 t
runs_stopped p at code old mid found rest m (stop.WsFull live asked) t lawful turns l = cut_off p at code old mid found rest m (stop.WsFull live asked) (λ is. absurd (not_spent_full live asked is)) t l
runs_stopped p at code old mid found rest m stop.NoMemory t lawful turns l = cut_off p at code old mid found rest m stop.NoMemory (λ is. absurd (not_spent_memory is)) t l
runs_stopped p at code old mid found rest m stop.OutFault t lawful turns l = cut_off p at code old mid found rest m stop.OutFault (λ is. absurd (not_spent_out is)) t l
runs_stopped p at code old mid found rest m stop.TraceFault t lawful turns l = cut_off p at code old mid found rest m stop.TraceFault (λ is. absurd (not_spent_trace is)) t l

pub lawful_stop : (why : Stop) (m : Machine) → UnlessCutOff {A = Flow} (Err (break.Stop why)) (IsLawfulMachine m none) → IsLawfulStop why m
lawful_stop stop.Spent m l = (none, l)
lawful_stop (stop.WsFull live asked) m l = tt
lawful_stop stop.NoMemory m l = tt
lawful_stop stop.OutFault m l = tt
lawful_stop stop.TraceFault m l = tt

the_same : (x i : Instruction) → Some x ≡ Some i → x ≡ i
the_same x i e = cc

-- the last instruction tells the line
pub last_is : (code : List Instruction) (k : ℕ) (i : Instruction) → k + 1 ≡ length code → slice_get code k ≡ Some i → last_line code ≡ i.place.line
last_is [] k i many e = absurd cc
last_is (x ∷ []) zero i many e = ap (λ (j : Instruction). j.place.line) (the_same x i e)
last_is (x ∷ []) (suc k) i many e = absurd cc
last_is (x ∷ y ∷ xs) zero i many e = absurd (too_few (length xs) (omega (arith, many)))
  where
    too_few : (n : ℕ) → suc (suc n) ≤ 1 → ⊥
    too_few n h = omega (arith, h)
last_is (x ∷ y ∷ xs) (suc k) i many e = last_is (y ∷ xs) k i (omega (arith, many)) e

pub none_is : (code : List Instruction) (k : ℕ) → k ≡ length code - 1 → slice_get code k ≡ None → last_line code ≡ 0
none_is [] k e none_there = refl
none_is (x ∷ xs) k e none_there =
    let past : suc (length xs) ≤ k = past_there (x ∷ xs) k none_there in
    absurd (no_more (length xs) (omega (arith, past, e)))
  where
    no_more : (n : ℕ) → suc n ≤ n → ⊥
    no_more n h = omega (arith, h)

    past_there : (ys : List Instruction) (k : ℕ) → slice_get ys k ≡ None → length ys ≤ k
    past_there [] k e = omega arith
    past_there (y ∷ ys) zero e = absurd cc
    past_there (y ∷ ys) (suc k) e = omega (arith, past_there ys k e)
