-- A run goes on: what each part of a run keeps, and what is so where one is cut off.
use Rattle.std.proofs.Common.{◌≡◌, ℕ, ◌-◌, List, [], ◌∷◌, ◌++◌, length, Ok, Err, refl, sym, ap, subst, ◌∙◌, arith, append_assoc, append-nil, encode_utf8_all}
use Rattle.std.specs.Prelude.{Option, Some, None, IsTrue}
use Rattle.std.proofs.lemmas.Str.{encodes-append}
use Rattle.apl_base.specs.declared.faults.ErrorKind.TheVariants as error
use Rattle.apl_base.specs.Array.{Array}
use Rattle.array_store.specs.Follows.{none}
use Rattle.apl_outside.specs.Bytes.{Gains}
use Rattle.apl_print.specs.Bytes.{GainsPrefix}
use Rattle.apl_model.specs.Environment.{Environment}
use Rattle.apl_model.specs.Evaluation.{State, Ended, Calls, of_arrays, with_variables}
use Rattle.apl_model.specs.Outcome.{Outcome, fails, Flow as EvaluationFlow}
use Rattle.apl_model_laws.specs.Turns.{state_of}
use Rattle.apl_compile.specs.declared.codes.Instruction.{Instruction}
use Rattle.apl_compile.specs.Execution.{comes}
use Rattle.apl_compile.specs.Lawful.{Operands}
use Rattle.apl_compile.specs.Program.{ProgramView}
use Rattle.apl_compile.specs.Running.{code_meaning, routines_in}
use Rattle.apl_model.specs.Call.{call_within}
use Rattle.apl_model.specs.Immediate.{of_states}
use Rattle.drag_along.specs.Meaning.{Meaning, Means, Faults}
use Rattle.standing.specs.Stand.{Stand, going, stand_on, runs_from}
use Rattle.standing.specs.Growing.{Grows, CallsGrow}
use Rattle.standing.proofs.StandLemmas.{end_stays}
use Rattle.standing.proofs.GrowingLemmas.{growing, code_grows, functions_grow}
use Rattle.pending_steps.specs.declared.halts.Halt.{Halt}
use Rattle.pending_steps.specs.declared.halts.Halt.TheVariants as halt
use Rattle.pending_steps.specs.Steps.{Reaches, OnError}
use Rattle.machine_state.specs.declared.machines.Machine.{Machine}
use Rattle.machine_state.specs.StandsFor.{IsLawfulMachine, beginning, variables}
use Rattle.machine_state.specs.Steps.{pending, Keeps, IsSameRun, IsSameCount}
use Rattle.d_machine.specs.declared.answers.Stop.{Stop}
use Rattle.d_machine.specs.declared.answers.Stop.TheVariants as stop
use Rattle.calling_steps.specs.declared.flows.Flow.{Flow}
use Rattle.d_machine.specs.Answers.{Scene, TracesAll, TracesFirst, StopsBefore, lines_of, statements_in}
use Rattle.d_machine.specs.Running.{Stays, IsAt, AnswersInstruction, IsCutOff, AreCallsAt, AreSameTurns, IsSameCall, break_of}
use Rattle.entry_steps.specs.Changing.{IsBefore, Changes, IsHaltedBefore}
use Rattle.calling_steps.specs.Branches.{flow_of}

-- ---- what stays

pub stays_itself : (a : Scene) → Stays a a
stays_itself a = record {
  origin = refl;
  limit = refl;
  traced = refl;
  untraced = λ _. (refl, refl);
  out_faults = omega arith;
  trace_faults = omega arith;
}

pub stays_then : (a b c : Scene) → Stays a b → Stays b c → Stays a c
stays_then a b c first second = record {
  origin = second.origin ∙ first.origin;
  limit = second.limit ∙ first.limit;
  traced = second.traced ∙ first.traced;
  untraced = λ e.
      let x = first.untraced e in
      let y = second.untraced (first.traced ∙ e) in
      (y.0 ∙ x.0, y.1 ∙ x.1);
  out_faults = omega (arith, first.out_faults, second.out_faults);
  trace_faults = omega (arith, first.trace_faults, second.trace_faults);
}

-- the scene with another machine
abbrev pub with_machine : Scene → Machine → Scene
with_machine old m = record old { machine = m }

pub stays_counted : (old : Scene) (m : Machine) → IsSameCount old.machine m → Stays old (with_machine old m)
stays_counted old m same = record {
  origin = same.origin;
  limit = same.limit;
  traced = same.traced;
  untraced = λ _. (ap (λ c. c.items) same.costs, refl);
  out_faults = omega arith;
  trace_faults = omega arith;
}

pub count_of_run : (old new : Machine) → IsSameRun old new → IsSameCount old new
count_of_run old new r = record { limit = r.limit; turns = r.turns; begun = r.begun; traced = r.traced; costs = r.costs; origin = r.origin }

pub same_turns : (old new : Machine) → IsSameCount old new → AreSameTurns old new
same_turns old new same = omega (arith, same.turns, same.begun)

pub same_call : (old new : Machine) → IsSameRun old new → IsSameCall old new
same_call old new same = record { depth = ap (λ n. length n.frames) same.names; turns = same_turns old new (count_of_run old new same) }

-- ---- where a run is

-- other variables, and everything else as it was
pub at_variables : (start old : Scene) (m : Machine) (s : State) (e : Environment Array) → IsSameCount old.machine m → variables m ≡ e → IsAt start old s → IsAt start (with_machine old m) (with_variables e s)
at_variables start old m s e same vars is = record {
  since = stays_then start old (with_machine old m) is.since (stays_counted old m same);
  variables = vars;
  turns = same.turns ∙ is.turns;
  begun = same.begun ∙ is.begun;
  printed = is.printed;
  traced = λ wanted.
      let t = is.traced wanted in
      record { gained = t.gained; costs = ap (λ c. c.items) same.costs ∙ t.costs; statements = t.statements; lines = t.lines };
}

pub at_same : (start old : Scene) (m : Machine) (s : State) → IsSameRun old.machine m → Keeps old.machine m → IsLawfulMachine old.machine none → IsAt start old s → IsAt start (with_machine old m) s
at_same start old m s same k lawful is =
    at_variables start old m s s.variables (count_of_run old.machine m same) (k.variables none lawful ∙ is.variables) is

-- ---- where a run begins

gains_none : (a : Option (List ℕ)) → Gains a a []
gains_none None = refl
gains_none (Some held) = ap (λ bs. Some bs) (sym (append-nil held))

pub at_beginning : (old : Scene) → IsAt old old (beginning old.machine)
at_beginning old = record {
  since = stays_itself old;
  variables = refl;
  turns = refl;
  begun = refl;
  printed = gains_none old.out;
  traced = λ _. record { gained = []; costs = sym (append-nil old.machine.costs.items); statements = refl; lines = gains_none old.trace };
}

-- ---- where a run is cut off

-- what is told of a run
pub record IsTold (start now : Scene) (s : State) : Type 0 where
  pub printed : Gains start.out now.out (encode_utf8_all s.printed)
  pub traced : IsTrue start.machine.traced → TracesAll start now s.ended

pub told_at : (start now : Scene) (s : State) → IsAt start now s → IsTold start now s
told_at start now s is = record { printed = is.printed; traced = is.traced }

pub told_counted : (start old : Scene) (m : Machine) (s : State) → m.costs.items ≡ old.machine.costs.items → IsTold start old s → IsTold start (with_machine old m) s
told_counted start old m s costs is = record {
  printed = is.printed;
  traced = λ wanted.
      let t = is.traced wanted in
      record { gained = t.gained; costs = costs ∙ t.costs; statements = t.statements; lines = t.lines };
}

-- what a sink gains in full it gains as far as the front
pub all_is_front : (old new : Option (List ℕ)) (bytes : List ℕ) → Gains old new bytes → GainsPrefix old new bytes
all_is_front old new bytes g = record { front = bytes; rest = []; whole = append-nil bytes; gained = g }

-- a state that comes later: nothing was taken back
pub record Extends (s t : State) : Type 0 where
  pub more : List ℕ
  pub printed : t.printed ≡ s.printed ++ more
  pub entered : List Ended
  pub ended : t.ended ≡ s.ended ++ entered

pub extends_grown : (s t : State) → Grows s t → Extends s t
extends_grown s t g = record { more = g.printed.0; printed = g.printed.1; entered = g.entered; ended = g.ended }

-- all that was printed is a front of what is printed in the end
pub front_of_more : (old new : Option (List ℕ)) (s t : State) → Extends s t → GainsPrefix old new (encode_utf8_all s.printed) → GainsPrefix old new (encode_utf8_all t.printed)
front_of_more old new s t x g = record {
  front = g.front;
  rest = g.rest ++ encode_utf8_all x.more;
  whole = sym (append_assoc g.front g.rest (encode_utf8_all x.more)) ∙ ap (λ (bs : List ℕ). bs ++ encode_utf8_all x.more) g.whole ∙ sym (ap encode_utf8_all x.printed ∙ encodes-append s.printed x.more);
  gained = g.gained;
}

pub first_of_more : (Out : Option (List ℕ) → Option (List ℕ) → List ℕ → Type 0) (start now : Scene) (s t : State) → Extends s t → TracesFirst Out start now s.ended → TracesFirst Out start now t.ended
first_of_more Out start now s t x f = record {
  gained = f.gained;
  others = f.others ++ x.entered;
  costs = f.costs;
  statements = sym (append_assoc (statements_in f.gained) f.others x.entered) ∙ ap (λ (es : List Ended). es ++ x.entered) f.statements ∙ sym x.ended;
  lines = f.lines;
}

pub stops_more : (Out : Option (List ℕ) → Option (List ℕ) → List ℕ → Type 0) (start now : Scene) (s t : State) → Extends s t → StopsBefore Out start now s → StopsBefore Out start now t
stops_more Out start now s t x b = record {
  printed = front_of_more start.out now.out s t x b.printed;
  traced = λ wanted. first_of_more Out start now s t x (b.traced wanted);
}

-- a run that was cut off before a state was so before a later one
pub cut_more : (start now : Scene) (s t : State) (why : Stop) → Extends s t → IsCutOff start now s why → IsCutOff start now t why
cut_more start now s t stop.Spent x c = c
cut_more start now s t (stop.WsFull live asked) x c = (c.0, stops_more Gains start now s t x c.1)
cut_more start now s t stop.NoMemory x c = stops_more GainsPrefix start now s t x c
cut_more start now s t stop.OutFault x c = (c.0, stops_more GainsPrefix start now s t x c.1)
cut_more start now s t stop.TraceFault x c = (c.0, c.1, stops_more GainsPrefix start now s t x c.2)

-- where a run is, it may be stopped
stops_here : (Out : Option (List ℕ) → Option (List ℕ) → List ℕ → Type 0) → ((a b : Option (List ℕ)) (bytes : List ℕ) → Gains a b bytes → Out a b bytes) → (start now : Scene) (s : State) → IsTold start now s → StopsBefore Out start now s
stops_here Out so start now s told = record {
  printed = all_is_front start.out now.out (encode_utf8_all s.printed) told.printed;
  traced = λ wanted.
      let all = told.traced wanted in
      record { gained = all.gained; others = []; costs = all.costs; statements = append-nil (statements_in all.gained) ∙ all.statements; lines = so start.trace now.trace (lines_of all.gained) all.lines };
}

pub cut_here : (Out : Option (List ℕ) → Option (List ℕ) → List ℕ → Type 0) → ((a b : Option (List ℕ)) (bytes : List ℕ) → Gains a b bytes → Out a b bytes) → (start now : Scene) (s t : State) → Grows s t → IsTold start now s → StopsBefore Out start now t
cut_here Out so start now s t grows told = stops_more Out start now s t (extends_grown s t grows) (stops_here Out so start now s told)

-- ---- what follows grows

pub calls_grow : (p : ProgramView) (m : Machine) (calls : Calls) → AreCallsAt p m calls → CallsGrow calls
calls_grow p m calls e = subst (λ (c : Calls). CallsGrow c) (sym e) (functions_grow (routines_in p) (256 - length m.names.frames))

-- what calls mean where so many are pending
abbrev depth_calls : ProgramView → ℕ → Calls
depth_calls p depth = call_within of_states (code_meaning of_states of_arrays) (routines_in p) (256 - depth)

pub calls_still : (p : ProgramView) (a b : Machine) (calls : Calls) → length b.names.frames ≡ length a.names.frames → AreCallsAt p a calls → AreCallsAt p b calls
calls_still p a b calls depth e = e ∙ ap (depth_calls p) (sym depth)

pub comes_same : (a b : Outcome State EvaluationFlow) → comes a ≡ comes b → a ≡ b
comes_same a b e = cc

-- evaluation that goes on from pending entries takes back nothing
pub grows_on : (calls : Calls) (code : List Instruction) (mine : List Meaning) (vs : List Array) (to : EvaluationFlow) (s : State) (o : Outcome State EvaluationFlow) → CallsGrow calls → runs_from (of_arrays calls) code (stand_on (going vs to s) mine) ≡ comes o → Grows s (state_of o)
grows_on calls code [] vs to s o grow e = code_grows calls code vs to s o grow e
grows_on calls code (Means a ∷ mine) vs to s o grow e = grows_on calls code mine (a ∷ vs) to s o grow e
grows_on calls code (Faults place ∷ mine) vs to s o grow e =
    let end : comes (fails error.Domain place s) ≡ comes o = sym (ap (λ (z : Stand). runs_from (of_arrays calls) code z) (end_stays (fails error.Domain place s) mine)) ∙ e in
    subst (λ (x : Outcome State EvaluationFlow). Grows s (state_of x)) (comes_same (fails error.Domain place s) o end) (growing.same s)

-- ---- instructions on entries

pub entries_perform : (p : ProgramView) (base : ℕ) (i : Instruction) (old : Scene) (m : Machine) (to : Flow) → IsLawfulMachine old.machine none → IsSameRun old.machine m → Keeps old.machine m → ((below : List Array) (mine : List Meaning) (next : Operands) → IsBefore i.op (pending old.machine) below mine next → Changes i old.machine m below mine next) → AnswersInstruction p base i old (with_machine old m) to (Ok to)
entries_perform p base i old m to lawful same k changed below mine next low b =
    let c = changed below mine next b in
    record {
      left = c.left;
      all = c.all;
      many = c.many;
      goes = λ calls start s here is. (s, at_same start old m s same k lawful is, c.goes calls (flow_of to) s (sym is.variables));
    }

-- a halt before an instruction, whose machine tells what it told
pub halts : (p : ProgramView) (base : ℕ) (i : Instruction) (old : Scene) (m : Machine) (to : Flow) (h : Halt) → IsLawfulMachine old.machine none → IsSameCount old.machine m → OnError (Err h) (Keeps old.machine m) → IsHaltedBefore i old.machine h → AnswersInstruction p base i old (with_machine old m) to (Err (break_of h))
halts p base i old m to (halt.Error kind place) lawful same k halted below mine next low b calls start s rest o here is e = (
  s,
  comes_same o (fails kind place s) (sym e ∙ halted below mine next b calls (flow_of to) s (sym is.variables) rest),
  at_variables start old m s s.variables same (k.variables none lawful ∙ is.variables) is,
)
halts p base i old m to (halt.WsFull live asked) lawful same k halted below mine next low b calls start s rest o here is e = (
  omega (arith, halted, is.since.limit),
  cut_here Gains (λ _ _ _ g. g) start (with_machine old m) s (state_of o) (grows_on calls (i ∷ rest) mine [] (flow_of to) s o (calls_grow p old.machine calls here) e)
      (told_counted start old m s (ap (λ c. c.items) same.costs) (told_at start old s is)),
)
halts p base i old m to halt.NoMemory lawful same k halted below mine next low b calls start s rest o here is e =
    cut_here GainsPrefix all_is_front start (with_machine old m) s (state_of o) (grows_on calls (i ∷ rest) mine [] (flow_of to) s o (calls_grow p old.machine calls here) e)
    (told_counted start old m s (ap (λ c. c.items) same.costs) (told_at start old s is))

-- what is so where a step goes on or is at an error is so at an error
pub reached_error : (h : Halt) (P : Type 0) → Reaches (Err h) P → OnError (Err h) P
reached_error (halt.Error kind place) P p = p
reached_error (halt.WsFull live asked) P p = tt
reached_error halt.NoMemory P p = tt
