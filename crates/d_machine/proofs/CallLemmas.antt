-- Calls: what they mean, and what comes of one whose lines were run.
use Rattle.std.proofs.Common.{◌≡◌, ℕ, pos, suc, ◌+◌, ◌-◌, ◌<◌, ◌≤◌, Bool, true, false, List, [], ◌∷◌, ◌++◌, map, length, Option, Some, None, refl, sym, ap, subst, ◌∙◌, arith, append-nil, length-append}
use Rattle.std.proofs.lemmas.List.{length-map, reverse-append}
use Rattle.std.specs.Prelude.{Result, reverse}
use Rattle.std.specs.Option.{is_some, option_to_list}
use Rattle.apl_base.specs.declared.faults.ErrorKind.TheVariants as error
use Rattle.apl_base.specs.declared.faults.Place.{Place}
use Rattle.apl_base.specs.Array.{Array}
use Rattle.apl_model.specs.Call.{Routine, call_within, labels_of, routine_of, run_found, run_lines}
use Rattle.apl_model.specs.declared.scripts.Header.{Header}
use Rattle.apl_model.specs.Environment.{Environment, with_frame, without_frame}
use Rattle.apl_model.specs.Evaluation.{State, Calls, of_arrays, needed}
use Rattle.apl_model.specs.Frames.{frame_of, line_number, result_in, with_call, without_call}
use Rattle.apl_model.specs.Immediate.{of_states}
use Rattle.apl_model.specs.Outcome.{Outcome, done, fails, spent, and_then, Flow as EvaluationFlow}
use Rattle.apl_model_laws.specs.Turns.{state_of}
use Rattle.apl_compile.specs.declared.codes.Code.{Code}
use Rattle.apl_compile.specs.declared.codes.Instruction.{Instruction}
use Rattle.apl_compile.specs.declared.codes.Op.TheVariants as op
use Rattle.apl_compile.specs.Execution.{Doing, comes, called, exec, goes_on, put, with_result}
use Rattle.apl_compile.specs.Lawful.{Operands}
use Rattle.apl_compile.specs.Program.{ProgramView}
use Rattle.apl_compile.specs.Running.{code_meaning, routines_in}
use Rattle.array_store.specs.Follows.{none}
use Rattle.drag_along.specs.Meaning.{Meaning, Means}
use Rattle.standing.specs.Stand.{Stand, going, stand_on, runs_from}
use Rattle.standing.specs.Growing.{Grows, CallsGrow}
use Rattle.standing.proofs.StandLemmas.{arrays_are_pending}
use Rattle.standing.proofs.GrowingLemmas.{growing, code_grows}
use Rattle.machine_state.specs.declared.machines.Machine.{Machine}
use Rattle.machine_state.specs.StandsFor.{IsLawfulMachine}
use Rattle.machine_state.specs.Steps.{pending, IsSameCount}
use Rattle.calling_steps.specs.Calls.{Enters, Leaves, arguments, operands_of}
use Rattle.entry_steps.specs.Changing.{IsBefore}
use Rattle.entry_steps.proofs.EntryLemmas.{split, arrays_apart}
use Rattle.d_machine.specs.declared.breaks.Break.{Break}
use Rattle.d_machine.specs.declared.breaks.Break.TheVariants as break
use Rattle.d_machine.specs.declared.answers.Stop.TheVariants as stop
use Rattle.d_machine.specs.Answers.{Scene}
use Rattle.d_machine.specs.Calling.{AnswersLines, RunsLines}
use Rattle.d_machine.specs.Running.{IsAt, AreCallsAt, BreaksOff}
use Rattle.d_machine.proofs.ArgumentLemmas.{CallFinds, arguments_many, called_with_is}
use Rattle.d_machine.proofs.RunLemmas.{with_machine, at_variables, comes_same, cut_more, extends_grown}

-- ---- what a call means

-- what calls mean where so many are pending
abbrev pub inner_calls : ProgramView → Machine → Calls
inner_calls p m = call_within of_states (code_meaning of_states of_arrays) (routines_in p) (256 - length m.names.frames)

-- where fewer than 256 are pending
pub call_is : (p : ProgramView) (old inner : Machine) (calls : Calls) (f : List ℕ) (place : Place) (left right : Option Array) (s : State) → length old.names.frames < 256 → length inner.names.frames ≡ suc (length old.names.frames) → AreCallsAt p old calls → calls f place left right s ≡ run_found of_states (code_meaning of_states of_arrays) (inner_calls p inner) (routine_of (routines_in p) f) place left right s
call_is p old inner calls f place left right s few deeper here =
    ap (λ (c : Calls). c f place left right s) here
    ∙ ap (λ (n : ℕ). call_within of_states (code_meaning of_states of_arrays) (routines_in p) n f place left right s) one_more
  where
    one_more : 256 - length old.names.frames ≡ suc (256 - length inner.names.frames)
    one_more = omega (arith, few, deeper)

-- too many are
pub call_too_deep : (p : ProgramView) (m : Machine) (calls : Calls) (f : List ℕ) (place : Place) (left right : Option Array) (s : State) → 256 ≤ length m.names.frames → AreCallsAt p m calls → calls f place left right s ≡ fails error.Depth place s
call_too_deep p m calls f place left right s deep here =
    ap (λ (c : Calls). c f place left right s) here
    ∙ ap (λ (n : ℕ). call_within of_states (code_meaning of_states of_arrays) (routines_in p) n f place left right s) none_left
  where
    none_left : 256 - length m.names.frames ≡ 0
    none_left = omega (arith, deep)

-- the name heads no definition
pub call_unknown : (p : ProgramView) (m : Machine) (calls : Calls) (f : List ℕ) (place : Place) (left right : Option Array) (s : State) → length m.names.frames < 256 → routine_of (routines_in p) f ≡ None → AreCallsAt p m calls → calls f place left right s ≡ fails error.Value place s
call_unknown p m calls f place left right s few unknown here =
    ap (λ (c : Calls). c f place left right s) here
    ∙ ap (λ (n : ℕ). call_within of_states (code_meaning of_states of_arrays) (routines_in p) n f place left right s) one_more
    ∙ ap (λ (o : Option (Routine Code)). run_found of_states (code_meaning of_states of_arrays) (call_within of_states (code_meaning of_states of_arrays) (routines_in p) (255 - length m.names.frames)) o place left right s) unknown
  where
    one_more : 256 - length m.names.frames ≡ suc (255 - length m.names.frames)
    one_more = omega (arith, few)

-- ---- what is done with the result of a call

abbrev pub after_result : Calls → Bool → Place → Option Array → List Array → EvaluationFlow → State → List Instruction → Doing State EvaluationFlow
after_result calls false place r vs to t rest = goes_on (needed place r t) (put (of_arrays calls) vs to (exec (of_arrays calls) rest))
after_result calls true place r vs to t rest = exec (of_arrays calls) rest (with_result r vs) to t

-- a call and what goes on, by what comes of it
pub called_is : (calls : Calls) (whole : Bool) (f : List ℕ) (place : Place) (left right : Option Array) (vs : List Array) (to : EvaluationFlow) (s : State) (rest : List Instruction) (o : Outcome State (Option Array)) → calls f place left right s ≡ o → called (of_arrays calls) whole f place left right vs to s (exec (of_arrays calls) rest) ≡ goes_on o (λ r t. after_result calls whole place r vs to t rest)
called_is calls false f place left right vs to s rest o e =
    ap (λ (x : Outcome State (Option Array)). goes_on x (λ r t. goes_on (needed place r t) (put (of_arrays calls) vs to (exec (of_arrays calls) rest)))) e
called_is calls true f place left right vs to s rest o e =
    ap (λ (x : Outcome State (Option Array)). goes_on x (λ r t. exec (of_arrays calls) rest (with_result r vs) to t)) e

-- a result that is needed is there
pub result_goes : (calls : Calls) (whole : Bool) (place : Place) (r : Option Array) (front : List Array) (to : EvaluationFlow) (t : State) (rest : List Instruction) → (whole ≡ false → is_some r ≡ true) → after_result calls whole place r (reverse front) to t rest ≡ runs_from (of_arrays calls) rest (stand_on (going [] to t) (map Means (front ++ option_to_list r)))
result_goes calls false place None front to t rest given = absurd (never (given refl))
  where
    never : false ≡ true → ⊥
    never e = cc
result_goes calls false place (Some a) front to t rest given =
    ap (λ (vs : List Array). exec (of_arrays calls) rest vs to t) (sym (reverse-append front (a ∷ [])))
    ∙ sym (ap (λ (z : Stand). runs_from (of_arrays calls) rest z) (arrays_are_pending (front ++ a ∷ []) to t))
result_goes calls true place None front to t rest given =
    ap (λ (vs : List Array). exec (of_arrays calls) rest (reverse vs) to t) (sym (append-nil front))
    ∙ sym (ap (λ (z : Stand). runs_from (of_arrays calls) rest z) (arrays_are_pending (front ++ []) to t))
result_goes calls true place (Some a) front to t rest given =
    ap (λ (vs : List Array). exec (of_arrays calls) rest vs to t) (sym (reverse-append front (a ∷ [])))
    ∙ sym (ap (λ (z : Stand). runs_from (of_arrays calls) rest z) (arrays_are_pending (front ++ a ∷ []) to t))

-- what goes on after a call takes back nothing
pub result_grows : (calls : Calls) → CallsGrow calls → (whole : Bool) (place : Place) (r : Option Array) (vs : List Array) (to : EvaluationFlow) (t : State) (rest : List Instruction) (o : Outcome State EvaluationFlow) → after_result calls whole place r vs to t rest ≡ comes o → Grows t (state_of o)
result_grows calls grow false place None vs to t rest o e =
    subst (λ (x : Outcome State EvaluationFlow). Grows t (state_of x)) (comes_same (fails error.Value place t) o e) (growing.same t)
result_grows calls grow false place (Some a) vs to t rest o e = code_grows calls rest (a ∷ vs) to t o grow e
result_grows calls grow true place r vs to t rest o e = code_grows calls rest (with_result r vs) to t o grow e

-- a frame that goes takes back nothing
pub leaving_grows : (t u : State) → Grows (without_call t) u → Grows t u
leaving_grows t u g = record {
  printed = g.printed;
  entered = g.entered;
  ended = g.ended;
  turns = record { turns = g.turns.turns; begun = g.turns.begun; ended = g.turns.ended };
}

-- ---- frames

-- the frame is entered
pub at_entered : (start old : Scene) (m : Machine) (header : Header) (labels : List (Option (List ℕ))) (number : ℕ) (s : State) (e : Enters old.machine m header labels number) → IsLawfulMachine old.machine none → IsSameCount old.machine m → IsAt start old s → IsAt start (with_machine old m) (with_call header labels e.left e.right s)
at_entered start old m header labels number s e lawful same is =
    at_variables start old m s (with_frame (frame_of line_number header labels e.left e.right) s.variables) same
    (e.variables none lawful ∙ ap (λ (x : Environment Array). with_frame (frame_of line_number header labels e.left e.right) x) is.variables) is

-- and left
pub at_left : (start old : Scene) (m : Machine) (name : Option (List ℕ)) (s : State) → Leaves old.machine m name → IsLawfulMachine old.machine none → IsSameCount old.machine m → IsAt start old s → IsAt start (with_machine old m) (without_call s)
at_left start old m name s l lawful same is =
    at_variables start old m s (without_frame s.variables) same
    (l.variables none lawful ∙ ap (λ (x : Environment Array). without_frame x) is.variables) is

-- ---- what comes of a routine

-- a routine gives the value of its result's name
abbrev pub routine_result : Routine Code → Outcome State (Unit {0}) → Outcome State (Option Array)
routine_result r o = and_then o (λ _ u. done (result_in u.variables r.header.result) (without_call u))

-- a call was begun
pub record Begins (p : ProgramView) (f : List ℕ) (n : ℕ) (old : Scene) (inner : Machine) : Type 0 where
  pub routine : Routine Code
  pub found : routine_of (routines_in p) f ≡ Some routine
  pub labels : List (Option (List ℕ))
  pub labelled : labels_of routine.body ≡ labels
  pub few : length old.machine.names.frames < 256
  pub lawful : IsLawfulMachine old.machine none
  pub enters : Enters old.machine inner routine.header labels n
  pub entered : IsSameCount old.machine inner

module _ (p : ProgramView) (f : List ℕ) (n : ℕ) (old : Scene) (inner : Machine) (c : Begins p f n old inner) where
  -- the state inside the call
  abbrev pub inside : State → State
  inside v = with_call c.routine.header c.labels c.enters.left c.enters.right v

  -- what comes of the lines
  abbrev pub lines_outcome : State → Outcome State (Unit {0})
  lines_outcome v = run_lines of_states (code_meaning of_states of_arrays) (inner_calls p inner) c.routine.body v.turns (pos 1) (inside v)

  pub call_gives : (calls : Calls) (place : Place) (v : State) → AreCallsAt p old.machine calls → calls f place c.enters.left c.enters.right v ≡ routine_result c.routine (lines_outcome v)
  call_gives calls place v here =
      call_is p old.machine inner calls f place c.enters.left c.enters.right v c.few c.enters.depth here
      ∙ ap (λ (o : Option (Routine Code)). run_found of_states (code_meaning of_states of_arrays) (inner_calls p inner) o place c.enters.left c.enters.right v) c.found
      ∙ ap (λ (ls : List (Option (List ℕ))). routine_result c.routine (run_lines of_states (code_meaning of_states of_arrays) (inner_calls p inner) c.routine.body v.turns (pos 1) (with_call c.routine.header ls c.enters.left c.enters.right v))) c.labelled

  -- what the lines answer from there
  pub lines_answer : (mid : Scene) (answer : Result (Unit {0}) Break) → RunsLines p c.routine.body (with_machine old inner) mid answer → (start : Scene) (v : State) → IsAt start old v → AnswersLines start mid (lines_outcome v) answer
  lines_answer mid answer lines start v is =
      lines.answers (inner_calls p inner) start (inside v) refl (at_entered start old inner c.routine.header c.labels n v c.enters c.lawful c.entered is)

  -- ---- the entries of the statement

  -- its own entries, of which the newest are the arguments
  pub record Operated (below : List Array) (mine : List Meaning) : Type 0 where
    pub front : List Array
    pub older_is : c.enters.older ≡ below ++ front
    pub mine_is : mine ≡ map Means (front ++ arguments c.enters.left c.enters.right)
    pub many : length mine ≡ length front + operands_of n

  pub operated : (whole : Bool) (below : List Array) (mine : List Meaning) (next : Operands) → IsBefore (op.Call f n whole) (pending old.machine) below mine next → CallFinds n (length mine) whole next → Operated below mine
  operated whole below mine next b finds =
      let e = c.enters in
      let args : List Array = arguments e.left e.right in
      let apart = arrays_apart (e.older ++ args) below mine (sym e.were ∙ b.all) in
      let lengths : length mine ≡ length apart.own = ap length apart.mine_is ∙ length-map apart.own Means in
      let args_many : length args ≡ operands_of n = arguments_many n e.left e.right finds.few e.left_given e.right_given in
      let s = split e.older args below apart.own apart.arrays_are (omega (arith, finds.enough, lengths, args_many)) in
      record {
        front = s.front;
        older_is = s.older_is;
        mine_is = apart.mine_is ∙ ap (map Means) s.mine_is;
        many = lengths ∙ ap length s.mine_is ∙ length-append s.front args ∙ ap (λ (k : ℕ). length s.front + k) args_many;
      }

  -- the instruction goes on with the result of the routine
  pub call_runs : (calls : Calls) (place : Place) (whole : Bool) (below : List Array) (mine : List Meaning) (o : Operated below mine) (to : EvaluationFlow) (v : State) (rest : List Instruction) → n ≤ 3 → AreCallsAt p old.machine calls → runs_from (of_arrays calls) (record { place = place; op = op.Call f n whole } ∷ rest) (stand_on (going [] to v) mine) ≡ goes_on (routine_result c.routine (lines_outcome v)) (λ r t. after_result calls whole place r (reverse o.front) to t rest)
  call_runs calls place whole below mine o to v rest few here =
      ap (λ (z : Stand). runs_from (of_arrays calls) (record { place = place; op = op.Call f n whole } ∷ rest) z)
      (ap (λ (ms : List Meaning). stand_on (going [] to v) ms) o.mine_is ∙ arrays_are_pending (o.front ++ arguments c.enters.left c.enters.right) to v)
      ∙ called_with_is calls n whole f place c.enters.left c.enters.right o.front to v (exec (of_arrays calls) rest) few c.enters.left_given c.enters.right_given
      ∙ called_is calls whole f place c.enters.left c.enters.right (reverse o.front) to v rest (routine_result c.routine (lines_outcome v)) (call_gives calls place v here)

  -- what the lines come to is not taken back
  pub lines_grow_on : (calls : Calls) → CallsGrow calls → (whole : Bool) (place : Place) (vs : List Array) (to : EvaluationFlow) (rest : List Instruction) (l : Outcome State (Unit {0})) (o : Outcome State EvaluationFlow) → goes_on (routine_result c.routine l) (λ r t. after_result calls whole place r vs to t rest) ≡ comes o → Grows (state_of l) (state_of o)
  lines_grow_on calls grow whole place vs to rest (done ran t) o e =
      leaving_grows t (state_of o) (result_grows calls grow whole place (result_in t.variables c.routine.header.result) vs to (without_call t) rest o e)
  lines_grow_on calls grow whole place vs to rest (fails kind at t) o e =
      subst (λ (x : Outcome State EvaluationFlow). Grows t (state_of x)) (comes_same (fails kind at t) o e) (growing.same t)
  lines_grow_on calls grow whole place vs to rest (spent t) o e =
      subst (λ (x : Outcome State EvaluationFlow). Grows t (state_of x)) (comes_same (spent t) o e) (growing.same t)

  -- where the lines break off, the instruction does
  pub lines_break_on : (calls : Calls) → CallsGrow calls → (whole : Bool) (place : Place) (vs : List Array) (to : EvaluationFlow) (rest : List Instruction) (start mid : Scene) (l : Outcome State (Unit {0})) (o : Outcome State EvaluationFlow) (b : Break) → goes_on (routine_result c.routine l) (λ r t. after_result calls whole place r vs to t rest) ≡ comes o → BreaksOff start mid l b → BreaksOff start mid o b
  lines_break_on calls grow whole place vs to rest start mid l o (break.Error kind at) e h =
      (h.0, sym (comes_same (fails kind at h.0) o (sym (ap (λ (x : Outcome State (Unit {0})). goes_on (routine_result c.routine x) (λ r t. after_result calls whole place r vs to t rest)) h.1) ∙ e)), h.2)
  lines_break_on calls grow whole place vs to rest start mid l o (break.Stop stop.Spent) e h =
      (h.0, sym (comes_same (spent h.0) o (sym (ap (λ (x : Outcome State (Unit {0})). goes_on (routine_result c.routine x) (λ r t. after_result calls whole place r vs to t rest)) h.1) ∙ e)), h.2)
  lines_break_on calls grow whole place vs to rest start mid l o (break.Stop (stop.WsFull live asked)) e h =
      cut_more start mid (state_of l) (state_of o) (stop.WsFull live asked) (extends_grown (state_of l) (state_of o) (lines_grow_on calls grow whole place vs to rest l o e)) h
  lines_break_on calls grow whole place vs to rest start mid l o (break.Stop stop.NoMemory) e h =
      cut_more start mid (state_of l) (state_of o) stop.NoMemory (extends_grown (state_of l) (state_of o) (lines_grow_on calls grow whole place vs to rest l o e)) h
  lines_break_on calls grow whole place vs to rest start mid l o (break.Stop stop.OutFault) e h =
      cut_more start mid (state_of l) (state_of o) stop.OutFault (extends_grown (state_of l) (state_of o) (lines_grow_on calls grow whole place vs to rest l o e)) h
  lines_break_on calls grow whole place vs to rest start mid l o (break.Stop stop.TraceFault) e h =
      cut_more start mid (state_of l) (state_of o) stop.TraceFault (extends_grown (state_of l) (state_of o) (lines_grow_on calls grow whole place vs to rest l o e)) h
