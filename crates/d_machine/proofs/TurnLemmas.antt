-- Turns: a statement begins, is run by its code, and ends.
use Rattle.std.proofs.Common.{◌≡◌, inl, inr, ℕ, suc, ◌+◌, ◌-◌, ◌^◌, ◌≤◌, Bool, false, true, List, [], ◌∷◌, ◌++◌, length, Ok, Err, refl, sym, ap, subst, ◌∙◌, arith, append_assoc, append-nil, encode_utf8_all, drop, length-append}
use Rattle.std.specs.Prelude.{Option, Some, None, Result, IsTrue, sum_by, min}
use Rattle.std.specs.List.{flat_map}
use Rattle.std.proofs.lemmas.Str.{encodes-append}
use Rattle.std.proofs.lemmas.List.{drop_at}
use Rattle.std.proofs.lemmas.List.Sums.{sum_by-append, sum_by-cons}
use Rattle.apl_base.specs.declared.faults.ErrorKind.{ErrorKind}
use Rattle.apl_base.specs.declared.faults.Place.{Place}
use Rattle.apl_compile.specs.declared.codes.Instruction.{Instruction}
use Rattle.apl_compile.specs.Execution.{code_flow}
use Rattle.apl_compile.specs.Program.{ProgramView}
use Rattle.apl_outside.specs.Bytes.{after_adding, Gains}
use Rattle.apl_print.specs.declared.costs.Cost.{Cost}
use Rattle.apl_print.specs.Bytes.{GainsPrefix}
use Rattle.apl_print.specs.Lines.{cost_line}
use Rattle.apl_model.specs.Call.{on_turn, turn, entered}
use Rattle.apl_model.specs.Evaluation.{State, Ended, Calls, of_arrays}
use Rattle.apl_model.specs.Frames.{with_turn, with_ended}
use Rattle.apl_model.specs.Immediate.{of_states}
use Rattle.apl_model.specs.Outcome.{Outcome, done, fails, spent, Flow as EvaluationFlow}
use Rattle.apl_model_laws.specs.Turns.{state_of}
use Rattle.machine_state.specs.declared.machines.Machine.{Machine}
use Rattle.array_store.specs.Follows.{none}
use Rattle.machine_state.specs.StandsFor.{IsLawfulMachine, variables}
use Rattle.machine_state.specs.Steps.{pending}
use Rattle.calling_steps.specs.Traces.{TracesEnd, IsNotTold}
use Rattle.calling_steps.specs.declared.flows.Flow.{Flow}
use Rattle.d_machine.specs.declared.answers.Stop.{Stop}
use Rattle.d_machine.specs.declared.answers.Stop.TheVariants as stop
use Rattle.d_machine.specs.declared.breaks.Break.{Break}
use Rattle.d_machine.specs.declared.breaks.Break.TheVariants as break
use Rattle.d_machine.specs.declared.turns.Begin.{Begin}
use Rattle.d_machine.specs.Answers.{Scene, StopsBefore, lines_of, statements_in, TellsOperations, operations}
use Rattle.d_machine.specs.Running.{Stays, IsAt, IsCutOff, AnswersFlow, AreCallsAt, AreSameTurns, BreaksOff, RunsCode, TakesTurn, TellsSince}
use Rattle.d_machine.proofs.RunLemmas.{with_machine, Extends, all_is_front, cut_more, stays_itself, stays_then}
use Rattle.d_machine.proofs.CodeLemmas.{Came}
use Rattle.entry_steps.proofs.EntryLemmas.{split}

-- ---- a turn is taken

-- a statement that is not begun
pub not_begun : (line : ℕ) (act : State → Outcome State EvaluationFlow) (s : State) → s.turns ≡ 0 → on_turn of_states line act s ≡ spent s
not_begun line act s e = ap (λ (n : ℕ). turn of_states line n act s) e

-- one that is
pub is_begun : (line left : ℕ) (act : State → Outcome State EvaluationFlow) (s : State) → s.turns ≡ suc left → on_turn of_states line act s ≡ entered of_states line (suc s.begun) (act (with_turn left s))
is_begun line left act s e = ap (λ (n : ℕ). turn of_states line n act s) e

-- the machine has begun it
pub at_begun : (start old : Scene) (left number : ℕ) (s : State) → number ≡ suc old.machine.begun → IsAt start old s → IsAt start (with_machine old (record old.machine { turns_left = left; begun = number })) (with_turn left s)
at_begun start old left number s e is = record {
  since = record {
    origin = is.since.origin;
    limit = is.since.limit;
    traced = is.since.traced;
    untraced = is.since.untraced;
    out_faults = is.since.out_faults;
    trace_faults = is.since.trace_faults;
  };
  variables = is.variables;
  turns = refl;
  begun = e ∙ ap suc is.begun;
  printed = is.printed;
  traced = λ wanted.
      let t = is.traced wanted in
      record { gained = t.gained; costs = t.costs; statements = t.statements; lines = t.lines };
}

-- ---- a statement ends

-- the scene with another machine and another trace
abbrev pub ended_scene : Scene → Machine → Option (List ℕ) → ℕ → Scene
ended_scene old m told faults = record old { machine = m; trace = told; trace_faults = faults }

traced_on : (t : Bool) → IsTrue t → t ≡ false → ⊥
traced_on true w e = cc
traced_on false w e = cc

pub extends_ended : (line number : ℕ) (s : State) → Extends s (with_ended line number s)
extends_ended line number s = record { more = []; printed = sym (append-nil s.printed); entered = record { line = line; begun = number } ∷ []; ended = refl }

-- the end of a statement comes after what it comes to
pub extends_entered : (line number : ℕ) (o : Outcome State EvaluationFlow) → Extends (state_of o) (state_of (entered of_states line number o))
extends_entered line number (done to s) = extends_ended line number s
extends_entered line number (fails kind place s) = extends_ended line number s
extends_entered line number (spent s) = record { more = []; printed = sym (append-nil s.printed); entered = []; ended = sym (append-nil s.ended) }

-- what goes out one after the other
pub gains_then : (a b c : Option (List ℕ)) (xs ys : List ℕ) → Gains a b xs → Gains b c ys → Gains a c (xs ++ ys)
gains_then None b c xs ys first second = second ∙ ap (λ (o : Option (List ℕ)). after_adding o ys) first
gains_then (Some held) b c xs ys first second =
    second ∙ ap (λ (o : Option (List ℕ)). after_adding o ys) first ∙ ap (λ (bs : List ℕ). Some bs) (append_assoc held xs ys)

pub front_then : (a b c : Option (List ℕ)) (xs ys : List ℕ) → Gains a b xs → GainsPrefix b c ys → GainsPrefix a c (xs ++ ys)
front_then a b c xs ys first second = record {
  front = xs ++ second.front;
  rest = second.rest;
  whole = append_assoc xs second.front second.rest ∙ ap (λ (bs : List ℕ). xs ++ bs) second.whole;
  gained = gains_then a b c xs second.front first second.gained;
}

statements_more : (gained : List Cost) (cost : Cost) → statements_in (gained ++ cost ∷ []) ≡ statements_in gained ++ record { line = cost.line; begun = cost.begun } ∷ []
statements_more [] cost = refl
statements_more (c ∷ gained) cost = ap (λ (es : List Ended). record { line = c.line; begun = c.begun } ∷ es) (statements_more gained cost)

flat_more : (gained : List Cost) (cost : Cost) → flat_map cost_line (gained ++ cost ∷ []) ≡ flat_map cost_line gained ++ cost_line cost
flat_more [] cost = append-nil (cost_line cost)
flat_more (c ∷ gained) cost = ap (λ (bs : List ℕ). cost_line c ++ bs) (flat_more gained cost) ∙ sym (append_assoc (cost_line c) (flat_map cost_line gained) (cost_line cost))

pub lines_more : (gained : List Cost) (cost : Cost) → lines_of (gained ++ cost ∷ []) ≡ lines_of gained ++ encode_utf8_all (cost_line cost)
lines_more gained cost = ap encode_utf8_all (flat_more gained cost) ∙ encodes-append (flat_map cost_line gained) (cost_line cost)

-- the entry of a statement that ended came, and its line went out
pub at_ended : (start old : Scene) (m : Machine) (told : Option (List ℕ)) (faults : ℕ) (cost : Cost) (s : State) → m ≡ record old.machine { costs = m.costs } → old.trace_faults ≤ faults → IsTrue old.machine.traced → TracesEnd Gains old.machine m old.trace told cost → IsAt start old s → IsAt start (ended_scene old m told faults) (with_ended cost.line cost.begun s)
at_ended start old m told faults cost s e rose wanted ends is = record {
  since = record {
    origin = ap (λ (x : Machine). x.origin) e ∙ is.since.origin;
    limit = ap (λ (x : Machine). x.store.limit) e ∙ is.since.limit;
    traced = ap (λ (x : Machine). x.traced) e ∙ is.since.traced;
    untraced = λ off. absurd (traced_on old.machine.traced wanted (is.since.traced ∙ off));
    out_faults = is.since.out_faults;
    trace_faults = omega (arith, is.since.trace_faults, rose);
  };
  variables = ap variables e ∙ is.variables;
  turns = ap (λ (x : Machine). x.turns_left) e ∙ is.turns;
  begun = ap (λ (x : Machine). x.begun) e ∙ is.begun;
  printed = is.printed;
  traced = λ w.
      let t = is.traced w in
      record {
        gained = t.gained ++ cost ∷ [];
        costs = ends.entered ∙ ap (λ (cs : List Cost). cs ++ cost ∷ []) t.costs ∙ append_assoc start.machine.costs.items t.gained (cost ∷ []);
        statements = statements_more t.gained cost ∙ ap (λ (es : List Ended). es ++ record { line = cost.line; begun = cost.begun } ∷ []) t.statements;
        lines = subst (λ (bs : List ℕ). Gains start.trace told bs) (sym (lines_more t.gained cost)) (gains_then start.trace old.trace told (lines_of t.gained) (encode_utf8_all (cost_line cost)) t.lines ends.line);
      };
}

-- where no trace is wanted, nothing comes
pub at_untraced : (start old : Scene) (cost : Cost) (s : State) → old.machine.traced ≡ false → IsAt start old s → IsAt start old (with_ended cost.line cost.begun s)
at_untraced start old cost s off is = record {
  since = is.since;
  variables = is.variables;
  turns = is.turns;
  begun = is.begun;
  printed = is.printed;
  traced = λ w. absurd (traced_on old.machine.traced (subst IsTrue (sym is.since.traced) w) off);
}

-- the entry was not told whole
pub stops_ended : (start old : Scene) (m : Machine) (told : Option (List ℕ)) (faults : ℕ) (cost : Cost) (s : State) → IsNotTold old.machine m old.trace told cost → IsAt start old s → StopsBefore GainsPrefix start (ended_scene old m told faults) (with_ended cost.line cost.begun s)
stops_ended start old m told faults cost s (inl same) is = record {
  printed = all_is_front start.out old.out (encode_utf8_all s.printed) is.printed;
  traced = λ w.
      let t = is.traced w in
      record {
        gained = t.gained;
        others = record { line = cost.line; begun = cost.begun } ∷ [];
        costs = same.entered ∙ t.costs;
        statements = ap (λ (es : List Ended). es ++ record { line = cost.line; begun = cost.begun } ∷ []) t.statements;
        lines = all_is_front start.trace told (lines_of t.gained) (subst (λ (o : Option (List ℕ)). Gains start.trace o (lines_of t.gained)) (sym same.line) t.lines);
      };
}
stops_ended start old m told faults cost s (inr ends) is = record {
  printed = all_is_front start.out old.out (encode_utf8_all s.printed) is.printed;
  traced = λ w.
      let t = is.traced w in
      record {
        gained = t.gained ++ cost ∷ [];
        others = [];
        costs = ends.entered ∙ ap (λ (cs : List Cost). cs ++ cost ∷ []) t.costs ∙ append_assoc start.machine.costs.items t.gained (cost ∷ []);
        statements = append-nil (statements_in (t.gained ++ cost ∷ [])) ∙ statements_more t.gained cost ∙ ap (λ (es : List Ended). es ++ record { line = cost.line; begun = cost.begun } ∷ []) t.statements;
        lines = subst (λ (bs : List ℕ). GainsPrefix start.trace told bs) (sym (lines_more t.gained cost)) (front_then start.trace old.trace told (lines_of t.gained) (encode_utf8_all (cost_line cost)) t.lines ends.line);
      };
}

-- ---- since it began the entries tell of every operation

pub tells_ended : (began : Begin) (m : Machine) (new : Scene) (entered : List Cost) (now : ℕ) (cost : Cost) → began.entries ≤ length m.costs.items → entered ≡ drop began.entries m.costs.items → now ≡ min (operations m) (2 ^ 64 - 1) → now ≡ began.operations + sum_by (λ c. c.ops) entered + cost.ops → new.machine.costs.items ≡ m.costs.items ++ cost ∷ [] → operations new.machine ≡ operations m → TellsSince began new
tells_ended began m new entered now cost within since counted own costs same old before entries gained more below =
    let both : m.costs.items ++ cost ∷ [] ≡ old.machine.costs.items ++ gained = sym costs ∙ more in
    let lengths : length m.costs.items + 1 ≡ length old.machine.costs.items + length gained = sym (length-append m.costs.items (cost ∷ [])) ∙ ap length both ∙ length-append old.machine.costs.items gained in
    let s = split m.costs.items (cost ∷ []) old.machine.costs.items gained both (omega (arith, lengths, entries, within)) in
    let dropped : entered ≡ s.front = since ∙ ap (λ (n : ℕ). drop n m.costs.items) entries ∙ ap (drop (length old.machine.costs.items)) s.older_is ∙ drop_at old.machine.costs.items s.front (length old.machine.costs.items) refl in
    let sums : sum_by (λ c. c.ops) gained ≡ sum_by (λ c. c.ops) entered + cost.ops =
    ap (sum_by (λ c. c.ops)) s.mine_is ∙ sum_by-append (λ c. c.ops) s.front (cost ∷ []) ∙ ap (λ (n : ℕ). n + sum_by (λ c. c.ops) (cost ∷ [])) (ap (sum_by (λ c. c.ops)) (sym dropped)) ∙ ap (λ (n : ℕ). sum_by (λ c. c.ops) entered + n) (one_sum cost) in
    omega (arith, sums, own, counted, before, below, same)
  where
    one_sum : (c : Cost) → sum_by (λ x. x.ops) (c ∷ []) ≡ c.ops
    one_sum c = omega (arith, sum_by-cons (λ x. x.ops) c [])

-- ---- what a turn answers

module _ (p : ProgramView) (line : ℕ) (code : List Instruction) (old mid : Scene) (left number : ℕ) (answer : Result Flow Break)
    (one : old.machine.turns_left ≡ suc left) (numbered : number ≡ suc old.machine.begun)
    (runs : RunsCode p code (with_machine old (record old.machine { turns_left = left; begun = number })) mid answer) where
  -- the turn of a state, by what comes of the code
  turn_is : (calls : Calls) (start : Scene) (s : State) → IsAt start old s → on_turn of_states line (code_flow (of_arrays calls) code) s ≡ entered of_states line number (code_flow (of_arrays calls) code (with_turn left s))
  turn_is calls start s is =
      is_begun line left (code_flow (of_arrays calls) code) s (sym is.turns ∙ one)
      ∙ ap (λ (n : ℕ). entered of_states line n (code_flow (of_arrays calls) code (with_turn left s))) (sym (numbered ∙ ap suc is.begun))

  code_answers : (calls : Calls) (start : Scene) (s : State) → AreCallsAt p old.machine calls → IsAt start old s → AnswersFlow start mid (code_flow (of_arrays calls) code (with_turn left s)) answer
  code_answers calls start s here is = runs.answers calls start (with_turn left s) here (at_begun start old left number s numbered is)

  pub turn_done : (to : Flow) (new : Scene) → answer ≡ Ok to → ((start : Scene) (t : State) → IsAt start mid t → IsAt start new (with_ended line number t)) → (calls : Calls) (start : Scene) (s : State) → AreCallsAt p old.machine calls → IsAt start old s → AnswersFlow start new (on_turn of_states line (code_flow (of_arrays calls) code) s) (Ok to)
  turn_done to new e enters calls start s here is =
      let a : AnswersFlow start mid (code_flow (of_arrays calls) code (with_turn left s)) (Ok to) = subst (λ (r : Result Flow Break). AnswersFlow start mid (code_flow (of_arrays calls) code (with_turn left s)) r) e (code_answers calls start s here is) in
      (with_ended line number a.0, turn_is calls start s is ∙ ap (entered of_states line number) a.1, enters start a.0 a.2)

  pub turn_fails : (kind : ErrorKind) (place : Place) (new : Scene) → answer ≡ Err (break.Error kind place) → ((start : Scene) (t : State) → IsAt start mid t → IsAt start new (with_ended line number t)) → (calls : Calls) (start : Scene) (s : State) → AreCallsAt p old.machine calls → IsAt start old s → AnswersFlow start new (on_turn of_states line (code_flow (of_arrays calls) code) s) (Err (break.Error kind place))
  turn_fails kind place new e enters calls start s here is =
      let a : AnswersFlow start mid (code_flow (of_arrays calls) code (with_turn left s)) (Err (break.Error kind place)) = subst (λ (r : Result Flow Break). AnswersFlow start mid (code_flow (of_arrays calls) code (with_turn left s)) r) e (code_answers calls start s here is) in
      (with_ended line number a.0, turn_is calls start s is ∙ ap (entered of_states line number) a.1, enters start a.0 a.2)

  -- the code was cut off
  cut_entered : (start : Scene) (why : Stop) (o u : Outcome State EvaluationFlow) → u ≡ entered of_states line number o → IsCutOff start mid (state_of o) why → IsCutOff start mid (state_of u) why
  cut_entered start why o u e cut =
      subst (λ (x : Outcome State EvaluationFlow). IsCutOff start mid (state_of x) why) (sym e) (cut_more start mid (state_of o) (state_of (entered of_states line number o)) why (extends_entered line number o) cut)

  stops_as : (start : Scene) (why : Stop) (o u : Outcome State EvaluationFlow) → u ≡ entered of_states line number o → BreaksOff start mid o (break.Stop why) → BreaksOff start mid u (break.Stop why)
  stops_as start stop.Spent o u e a = (a.0, e ∙ ap (entered of_states line number) a.1, a.2)
  stops_as start (stop.WsFull live asked) o u e a = cut_entered start (stop.WsFull live asked) o u e a
  stops_as start stop.NoMemory o u e a = cut_entered start stop.NoMemory o u e a
  stops_as start stop.OutFault o u e a = cut_entered start stop.OutFault o u e a
  stops_as start stop.TraceFault o u e a = cut_entered start stop.TraceFault o u e a

  pub turn_stops : (why : Stop) → answer ≡ Err (break.Stop why) → (calls : Calls) (start : Scene) (s : State) → AreCallsAt p old.machine calls → IsAt start old s → AnswersFlow start mid (on_turn of_states line (code_flow (of_arrays calls) code) s) (Err (break.Stop why))
  turn_stops why e calls start s here is =
      stops_as start why (code_flow (of_arrays calls) code (with_turn left s)) (on_turn of_states line (code_flow (of_arrays calls) code) s) (turn_is calls start s is)
      (subst (λ (r : Result Flow Break). AnswersFlow start mid (code_flow (of_arrays calls) code (with_turn left s)) r) e (code_answers calls start s here is))

  -- its end was not entered whole
  why_stops : (start new : Scene) (why : Stop) (u : Outcome State EvaluationFlow) (t : State) → state_of u ≡ t → IsCutOff start new t why → BreaksOff start new u (break.Stop why)
  why_stops start new stop.Spent u t e cut = absurd cut
  why_stops start new (stop.WsFull live asked) u t e cut = subst (λ (x : State). IsCutOff start new x (stop.WsFull live asked)) (sym e) cut
  why_stops start new stop.NoMemory u t e cut = subst (λ (x : State). IsCutOff start new x stop.NoMemory) (sym e) cut
  why_stops start new stop.OutFault u t e cut = subst (λ (x : State). IsCutOff start new x stop.OutFault) (sym e) cut
  why_stops start new stop.TraceFault u t e cut = subst (λ (x : State). IsCutOff start new x stop.TraceFault) (sym e) cut

  pub end_stops : (to : Flow) (new : Scene) (why : Stop) → answer ≡ Ok to → ((start : Scene) (t : State) → IsAt start mid t → IsCutOff start new (with_ended line number t) why) → (calls : Calls) (start : Scene) (s : State) → AreCallsAt p old.machine calls → IsAt start old s → AnswersFlow start new (on_turn of_states line (code_flow (of_arrays calls) code) s) (Err (break.Stop why))
  end_stops to new why e cut calls start s here is =
      let a : AnswersFlow start mid (code_flow (of_arrays calls) code (with_turn left s)) (Ok to) = subst (λ (r : Result Flow Break). AnswersFlow start mid (code_flow (of_arrays calls) code (with_turn left s)) r) e (code_answers calls start s here is) in
      why_stops start new why (on_turn of_states line (code_flow (of_arrays calls) code) s) (with_ended line number a.0) (ap state_of (turn_is calls start s is ∙ ap (entered of_states line number) a.1)) (cut start a.0 a.2)

  pub end_stops_error : (kind : ErrorKind) (place : Place) (new : Scene) (why : Stop) → answer ≡ Err (break.Error kind place) → ((start : Scene) (t : State) → IsAt start mid t → IsCutOff start new (with_ended line number t) why) → (calls : Calls) (start : Scene) (s : State) → AreCallsAt p old.machine calls → IsAt start old s → AnswersFlow start new (on_turn of_states line (code_flow (of_arrays calls) code) s) (Err (break.Stop why))
  end_stops_error kind place new why e cut calls start s here is =
      let a : AnswersFlow start mid (code_flow (of_arrays calls) code (with_turn left s)) (Err (break.Error kind place)) = subst (λ (r : Result Flow Break). AnswersFlow start mid (code_flow (of_arrays calls) code (with_turn left s)) r) e (code_answers calls start s here is) in
      why_stops start new why (on_turn of_states line (code_flow (of_arrays calls) code) s) (with_ended line number a.0) (ap state_of (turn_is calls start s is ∙ ap (entered of_states line number) a.1)) (cut start a.0 a.2)

-- ---- the parts of a turn

-- a statement that is begun changes nothing that stays
pub stays_begun : (old mid : Scene) (left number : ℕ) → Stays (with_machine old (record old.machine { turns_left = left; begun = number })) mid → Stays old mid
stays_begun old mid left number s = record {
  origin = s.origin;
  limit = s.limit;
  traced = s.traced;
  untraced = s.untraced;
  out_faults = s.out_faults;
  trace_faults = s.trace_faults;
}

-- entries stay
pub came_longer : (old mid : Scene) → Came old mid → IsTrue mid.machine.traced → length old.machine.costs.items ≤ length mid.machine.costs.items
came_longer old mid came wanted =
    let t = came.here.traced (subst IsTrue came.here.since.traced wanted) in
    omega (arith, ap length t.costs, length-append old.machine.costs.items t.gained)

-- a statement that is not begun
pub turn_spent : (p : ProgramView) (line : ℕ) (code : List Instruction) (old : Scene) → old.machine.turns_left ≡ 0 → TakesTurn p line code old old (Err (break.Stop stop.Spent))
turn_spent p line code old none_left = record {
  answers = λ calls start s here is. (s, not_begun line (code_flow (of_arrays calls) code) s (sym is.turns ∙ none_left), is);
  stays = stays_itself old;
  operations = λ w. tt;
}

module _ (p : ProgramView) (line : ℕ) (code : List Instruction) (old mid new : Scene) (left number : ℕ)
    (one : old.machine.turns_left ≡ suc left) (numbered : number ≡ suc old.machine.begun) (stays : Stays mid new) where
  stays_all : (answer : Result Flow Break) → RunsCode p code (with_machine old (record old.machine { turns_left = left; begun = number })) mid answer → Stays old new
  stays_all answer runs = stays_then old mid new (stays_begun old mid left number runs.stays) stays

  traced_mid : (answer : Result Flow Break) → RunsCode p code (with_machine old (record old.machine { turns_left = left; begun = number })) mid answer → IsTrue old.machine.traced → IsTrue mid.machine.traced
  traced_mid answer runs w = subst IsTrue (sym runs.stays.traced) w

  pub takes_done : (to : Flow) → RunsCode p code (with_machine old (record old.machine { turns_left = left; begun = number })) mid (Ok to) → ((start : Scene) (t : State) → IsAt start mid t → IsAt start new (with_ended line number t)) → (IsTrue mid.machine.traced → TellsOperations old new) → TakesTurn p line code old new (Ok to)
  takes_done to runs enters tells = record {
    answers = turn_done p line code old mid left number (Ok to) one numbered runs to new refl enters;
    stays = stays_all (Ok to) runs;
    operations = λ w. tells (traced_mid (Ok to) runs w);
  }

  pub takes_error : (kind : ErrorKind) (place : Place) → RunsCode p code (with_machine old (record old.machine { turns_left = left; begun = number })) mid (Err (break.Error kind place)) → ((start : Scene) (t : State) → IsAt start mid t → IsAt start new (with_ended line number t)) → (IsTrue mid.machine.traced → TellsOperations old new) → TakesTurn p line code old new (Err (break.Error kind place))
  takes_error kind place runs enters tells = record {
    answers = turn_fails p line code old mid left number (Err (break.Error kind place)) one numbered runs kind place new refl enters;
    stays = stays_all (Err (break.Error kind place)) runs;
    operations = λ w. tells (traced_mid (Err (break.Error kind place)) runs w);
  }

  pub takes_end_stop : (to : Flow) (why : Stop) → RunsCode p code (with_machine old (record old.machine { turns_left = left; begun = number })) mid (Ok to) → ((start : Scene) (t : State) → IsAt start mid t → IsCutOff start new (with_ended line number t) why) → TakesTurn p line code old new (Err (break.Stop why))
  takes_end_stop to why runs cut = record {
    answers = end_stops p line code old mid left number (Ok to) one numbered runs to new why refl cut;
    stays = stays_all (Ok to) runs;
    operations = λ w. tt;
  }

  pub takes_error_stop : (kind : ErrorKind) (place : Place) (why : Stop) → RunsCode p code (with_machine old (record old.machine { turns_left = left; begun = number })) mid (Err (break.Error kind place)) → ((start : Scene) (t : State) → IsAt start mid t → IsCutOff start new (with_ended line number t) why) → TakesTurn p line code old new (Err (break.Stop why))
  takes_error_stop kind place why runs cut = record {
    answers = end_stops_error p line code old mid left number (Err (break.Error kind place)) one numbered runs kind place new why refl cut;
    stays = stays_all (Err (break.Error kind place)) runs;
    operations = λ w. tt;
  }

-- the code was cut off, or spent
pub takes_stop : (p : ProgramView) (line : ℕ) (code : List Instruction) (old mid : Scene) (left number : ℕ) (why : Stop) → old.machine.turns_left ≡ suc left → number ≡ suc old.machine.begun → RunsCode p code (with_machine old (record old.machine { turns_left = left; begun = number })) mid (Err (break.Stop why)) → TakesTurn p line code old mid (Err (break.Stop why))
takes_stop p line code old mid left number why one numbered runs = record {
  answers = turn_stops p line code old mid left number (Err (break.Stop why)) one numbered runs why refl;
  stays = stays_begun old mid left number runs.stays;
  operations = λ w. tt;
}

-- ---- what an entry leaves of the machine

pub lawful_entered : (mid new : Machine) → new ≡ record mid { costs = new.costs } → IsLawfulMachine mid none → IsLawfulMachine new none
lawful_entered mid new e l = subst (λ (m : Machine). IsLawfulMachine m none) (sym e) (record { desk = l.desk; origin = l.origin })

pub turns_begun : (old mid : Machine) (left number : ℕ) → old.turns_left ≡ suc left → number ≡ suc old.begun → AreSameTurns (record old { turns_left = left; begun = number }) mid → AreSameTurns old mid
turns_begun old mid left number one numbered same = omega (arith, one, numbered, same)

pub turns_entered : (old mid new : Machine) (left number : ℕ) → old.turns_left ≡ suc left → number ≡ suc old.begun → AreSameTurns (record old { turns_left = left; begun = number }) mid → new ≡ record mid { costs = new.costs } → AreSameTurns old new
turns_entered old mid new left number one numbered same e =
    omega (arith, one, numbered, same, ap (λ (m : Machine). m.begun) e, ap (λ (m : Machine). m.turns_left) e)

pub depth_entered : (old mid new : Machine) → new ≡ record mid { costs = new.costs } → length mid.names.frames ≡ length old.names.frames → length new.names.frames ≡ length old.names.frames
depth_entered old mid new e same = ap (λ (m : Machine). length m.names.frames) e ∙ same

pub pending_entered : (mid new : Machine) → new ≡ record mid { costs = new.costs } → pending new ≡ pending mid
pending_entered mid new e = ap pending e
