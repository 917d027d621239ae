-- What a call answers as an instruction, by how far it came.
use Rattle.std.proofs.Common.{◌≡◌, inl, inr, ℕ, suc, ◌+◌, ◌<◌, ◌≤◌, Bool, true, false, List, [], ◌∷◌, ◌++◌, map, length, Option, Some, None, Ok, Err, refl, sym, ap, subst, ◌∙◌, arith, append_assoc, length-append, length-drop, drop, ◌↔◌}
use Rattle.std.proofs.lemmas.List.{length-map, length-reverse, map-append}
use Rattle.std.specs.Prelude.{IsSome, IsTrue, reverse, slice_get, ◌⊎◌}
use Rattle.std.specs.Option.{is_some, option_to_list}
use Rattle.apl_base.specs.declared.faults.ErrorKind.{ErrorKind}
use Rattle.apl_base.specs.declared.faults.ErrorKind.TheVariants as error
use Rattle.apl_base.specs.declared.faults.Place.{Place}
use Rattle.apl_base.specs.Array.{Array}
use Rattle.apl_print.specs.Bytes.{GainsPrefix}
use Rattle.apl_model.specs.declared.outlines.OutlineBody.{OutlineBody}
use Rattle.apl_model.specs.declared.outlines.OutlineItem.{OutlineItem}
use Rattle.apl_model.specs.declared.outlines.OutlineItem.TheVariants as outline
use Rattle.apl_model.specs.declared.scripts.Header.{Header}
use Rattle.apl_model.specs.Call.{routine_of}
use Rattle.apl_model.specs.Environment.{Bindings, Environment, innermost_gone}
use Rattle.apl_model.specs.Evaluation.{State, Calls, of_arrays}
use Rattle.apl_model.specs.Frames.{result_in, without_call}
use Rattle.apl_model.specs.Outcome.{Outcome, done, fails, Flow as EvaluationFlow}
use Rattle.apl_model_laws.specs.Turns.{state_of}
use Rattle.apl_compile.specs.declared.codes.Instruction.{Instruction}
use Rattle.apl_compile.specs.declared.codes.Op.TheVariants as op
use Rattle.apl_compile.specs.Execution.{comes, exec, goes_on}
use Rattle.apl_compile.specs.Program.{ProgramView}
use Rattle.apl_compile.specs.declared.codes.Code.{Code}
use Rattle.apl_compile.specs.declared.programs.Function.{Function}
use Rattle.apl_compile.specs.Lookups.{IsFunctionAt}
use Rattle.apl_compile.specs.Running.{lines_with, routines_in}
use Rattle.array_store.specs.Follows.{none}
use Rattle.drag_along.specs.declared.leaves.Leaf.{Leaf}
use Rattle.drag_along.specs.Meaning.{Meaning, Means}
use Rattle.standing.specs.Stand.{Stand, runs_from}
use Rattle.pending_steps.specs.declared.halts.Halt.{Halt}
use Rattle.pending_steps.specs.declared.halts.Halt.TheVariants as halt
use Rattle.pending_steps.specs.Steps.{OnError}
use Rattle.machine_state.specs.declared.machines.Machine.{Machine}
use Rattle.machine_state.specs.StandsFor.{IsLawfulMachine, variables}
use Rattle.machine_state.specs.Steps.{pending, IsSameCount, Keeps}
use Rattle.calling_steps.specs.Branches.{flow_of}
use Rattle.calling_steps.specs.Calls.{Enters, Leaves, IsNotEntered, IsTooDeep, labels_in, operands_of}
use Rattle.calling_steps.proofs.ProgramLemmas.{labels_with}
use Rattle.entry_steps.proofs.EntryLemmas.{arrays_apart, not_computed, values_on}
use Rattle.d_machine.specs.declared.breaks.Break.{Break}
use Rattle.d_machine.specs.declared.breaks.Break.TheVariants as break
use Rattle.d_machine.specs.declared.answers.Stop.TheVariants as stop
use Rattle.d_machine.specs.Answers.{Scene}
use Rattle.d_machine.specs.Calling.{AnswersCall, IsNoCall, IsUnknown, RunsLines}
use Rattle.d_machine.specs.Running.{AreCallsAt, IsSameCall, break_of}
use Rattle.d_machine.proofs.ArgumentLemmas.{call_fails, call_found}
use Rattle.d_machine.proofs.CallLemmas.{Begins, after_result, at_left, call_runs, call_too_deep, call_unknown, lines_answer, lines_break_on, lines_outcome, leaving_grows, operated, result_goes, result_grows, routine_result}
use Rattle.d_machine.proofs.RunLemmas.{with_machine, all_is_front, at_variables, calls_grow, comes_same, cut_here, halts, told_at, told_counted}

-- ---- a call that does not begin

-- what is so anyway is so at an error
pub on_error_always : (h : Halt) (P : Type 0) → P → OnError (Err h) P
on_error_always (halt.Error kind place) P so = so
on_error_always (halt.WsFull live asked) P so = tt
on_error_always halt.NoMemory P so = tt

-- all entries mean arrays, and the call is an error whatever its arguments are
pub call_errs : (p : ProgramView) (f : List ℕ) (n : ℕ) (whole : Bool) (place at : Place) (kind : ErrorKind) (old : Scene) (m : Machine) (arrays : List Array) → IsLawfulMachine old.machine none → IsSameCount old.machine m → Keeps old.machine m → pending old.machine ≡ map (λ a. Means a) arrays → ((calls : Calls) (left right : Option Array) (v : State) → AreCallsAt p old.machine calls → calls f place left right v ≡ fails kind at v) → AnswersCall p (record { place = place; op = op.Call f n whole }) old (with_machine old m) (Err (break.Error kind at))
call_errs p f n whole place at kind old m arrays lawful same k are so base to below mine next low b calls start v rest o here is e =
    let finds = call_found f n whole b.found next mine b.many b.leaves in
    let apart = arrays_apart arrays below mine (sym are ∙ b.all) in
    let enough : operands_of n ≤ length (reverse apart.own) = omega (arith, finds.enough, ap length apart.mine_is, length-map apart.own Means, length-reverse apart.own) in
    let ran : comes (fails kind at v) ≡ comes o =
    sym (
    ap (λ (z : Stand). runs_from (of_arrays calls) (record { place = place; op = op.Call f n whole } ∷ rest) z) (values_on mine apart.own (flow_of to) v apart.mine_is)
    ∙ call_fails calls n whole f place at kind (reverse apart.own) (flow_of to) v (exec (of_arrays calls) rest) finds.few enough (λ left right. so calls left right v here)
    )
    ∙ e in (
      v,
      sym (comes_same (fails kind at v) o ran),
      at_variables start old m v v.variables same (k.variables none lawful ∙ is.variables) is,
    )

module _ (p : ProgramView) (f : List ℕ) (n : ℕ) (whole : Bool) (place : Place) (old : Scene) (m : Machine) (lawful : IsLawfulMachine old.machine none) (same : IsSameCount old.machine m) where
  abbrev i : Instruction
  i = record { place = place; op = op.Call f n whole }

  -- one too many
  too_deep : (kind : ErrorKind) (at : Place) → Keeps old.machine m → kind ≡ error.Depth → IsTooDeep old.machine place at → AnswersCall p i old (with_machine old m) (Err (break.Error kind at))
  too_deep kind at k is d =
      call_errs p f n whole place at kind old m d.arrays lawful same k d.are (λ calls left right v here.
      call_too_deep p old.machine calls f place left right v d.depth here
      ∙ ap (λ (e : ErrorKind). fails e place v) (sym is)
      ∙ ap (λ (x : Place). fails kind x v) (sym d.same))

  pub enter_halts : (h : Halt) → OnError (Err h) (Keeps old.machine m) → IsNotEntered old.machine place h → AnswersCall p i old (with_machine old m) (Err (break_of h))
  enter_halts (halt.Error kind at) k (inl fault) base to = halts p base i old m to (halt.Error kind at) lawful same k (not_computed i old.machine (halt.Error kind at) fault)
  enter_halts (halt.Error kind at) k (inr deep) base to = too_deep kind at k deep.0 deep.1 base to
  enter_halts (halt.WsFull live asked) k full base to = halts p base i old m to (halt.WsFull live asked) lawful same k full
  enter_halts halt.NoMemory k full base to = halts p base i old m to halt.NoMemory lawful same k full

  -- the name heads no definition
  unknown : (kind : ErrorKind) (at : Place) → Keeps old.machine m → routine_of (routines_in p) f ≡ None → IsUnknown old.machine place kind at → AnswersCall p i old (with_machine old m) (Err (break.Error kind at))
  unknown kind at k none_there u =
      call_errs p f n whole place at kind old m u.arrays lawful same k u.are (λ calls left right v here.
      elim (u.why) [
        | inl deep ↦ call_too_deep p old.machine calls f place left right v deep.1 here ∙ ap (λ (e : ErrorKind). fails e place v) (sym deep.0)
        | inr few ↦ call_unknown p old.machine calls f place left right v few.1 none_there here ∙ ap (λ (e : ErrorKind). fails e place v) (sym few.0)
      ]
      ∙ ap (λ (x : Place). fails kind x v) (sym u.same))

  pub refuse_halts : (h : Halt) → OnError (Err h) (Keeps old.machine m) → routine_of (routines_in p) f ≡ None → IsNoCall old.machine place h → AnswersCall p i old (with_machine old m) (Err (break_of h))
  refuse_halts (halt.Error kind at) k none_there (inl fault) base to = halts p base i old m to (halt.Error kind at) lawful same k (not_computed i old.machine (halt.Error kind at) fault)
  refuse_halts (halt.Error kind at) k none_there (inr u) base to = unknown kind at k none_there u base to
  refuse_halts (halt.WsFull live asked) k none_there full base to = halts p base i old m to (halt.WsFull live asked) lawful same k full
  refuse_halts halt.NoMemory k none_there full base to = halts p base i old m to halt.NoMemory lawful same k full

-- ---- a call that was begun

module _ (p : ProgramView) (f : List ℕ) (n : ℕ) (whole : Bool) (place : Place) (old mid : Scene) (inner : Machine) (c : Begins p f n old inner) where
  abbrev call_there : Instruction
  call_there = record { place = place; op = op.Call f n whole }

  -- its lines go no further
  pub call_breaks : (b : Break) → RunsLines p c.routine.body (with_machine old inner) mid (Err b) → AnswersCall p call_there old mid (Err b)
  call_breaks b lines base to below mine next low before calls start v rest o here is e =
      let finds = call_found f n whole before.found next mine before.many before.leaves in
      let own = operated p f n old inner c whole below mine next before finds in
      lines_break_on p f n old inner c calls (calls_grow p old.machine calls here) whole place (reverse own.front) (flow_of to) rest start mid (lines_outcome p f n old inner c v) o b
      (sym (call_runs p f n old inner c calls place whole below mine own (flow_of to) v rest finds.few here) ∙ e)
      (lines_answer p f n old inner c mid (Err b) lines start v is)

  -- they ended
  module _ (lines : RunsLines p c.routine.body (with_machine old inner) mid (Ok tt)) (same_below : pending mid.machine ≡ pending inner) (ran : IsLawfulMachine mid.machine none) (m : Machine) (left : IsSameCount mid.machine m) where
    -- what the instruction goes on with, where evaluation has come to t
    goes_with : (calls : Calls) (vs : List Array) (to : EvaluationFlow) (v t : State) (rest : List Instruction) → lines_outcome p f n old inner c v ≡ done tt t → goes_on (routine_result c.routine (lines_outcome p f n old inner c v)) (λ r u. after_result calls whole place r vs to u rest) ≡ after_result calls whole place (result_in t.variables c.routine.header.result) vs to (without_call t) rest
    goes_with calls vs to v t rest e =
        ap (λ (x : Outcome State (Unit {0})). goes_on (routine_result c.routine x) (λ r u. after_result calls whole place r vs to u rest)) e

    -- for its result memory is wanting
    pub call_lacks : AnswersCall p call_there old (with_machine mid m) (Err (break.Stop stop.NoMemory))
    call_lacks base to below mine next low before calls start v rest o here is e =
        let finds = call_found f n whole before.found next mine before.many before.leaves in
        let own = operated p f n old inner c whole below mine next before finds in
        let came = lines_answer p f n old inner c mid (Ok tt) lines start v is in
        let further = sym (goes_with calls (reverse own.front) (flow_of to) v came.0 rest came.1) ∙ sym (call_runs p f n old inner c calls place whole below mine own (flow_of to) v rest finds.few here) ∙ e in
        cut_here GainsPrefix all_is_front start (with_machine mid m) came.0 (state_of o)
        (leaving_grows came.0 (state_of o) (result_grows calls (calls_grow p old.machine calls here) whole place (result_in came.0.variables c.routine.header.result) (reverse own.front) (flow_of to) (without_call came.0) rest o further))
        (told_counted start mid m came.0 (ap (λ x. x.items) left.costs) (told_at start mid came.0 came.2))

    module _ (leaves : Leaves mid.machine m c.routine.header.result) where
      abbrev given_result : Option Array
      given_result = result_in (variables mid.machine) c.routine.header.result

      same_result : (start : Scene) (t : State) → variables mid.machine ≡ t.variables → result_in t.variables c.routine.header.result ≡ given_result
      same_result start t e = ap (λ (x : Environment Array). result_in x c.routine.header.result) (sym e)

      -- a result that is needed is not there
      pub call_needs : whole ≡ false → given_result ≡ None → AnswersCall p call_there old (with_machine mid m) (Err (break.Error error.Value place))
      call_needs part none_there base to below mine next low before calls start v rest o here is e =
          let finds = call_found f n whole before.found next mine before.many before.leaves in
          let own = operated p f n old inner c whole below mine next before finds in
          let came = lines_answer p f n old inner c mid (Ok tt) lines start v is in
          let further = sym (goes_with calls (reverse own.front) (flow_of to) v came.0 rest came.1) ∙ sym (call_runs p f n old inner c calls place whole below mine own (flow_of to) v rest finds.few here) ∙ e in
          let lacks : after_result calls whole place (result_in came.0.variables c.routine.header.result) (reverse own.front) (flow_of to) (without_call came.0) rest ≡ comes (fails error.Value place (without_call came.0)) =
          ap (λ (w : Bool). after_result calls w place (result_in came.0.variables c.routine.header.result) (reverse own.front) (flow_of to) (without_call came.0) rest) part
          ∙ ap (λ (r : Option Array). after_result calls false place r (reverse own.front) (flow_of to) (without_call came.0) rest) (same_result start came.0 came.2.variables ∙ none_there) in (
            without_call came.0,
            sym (comes_same (fails error.Value place (without_call came.0)) o (sym lacks ∙ further)),
            at_left start mid m c.routine.header.result came.0 leaves ran left came.2,
          )

      -- it is done
      pub call_performs : (whole ≡ false → is_some given_result ≡ true) → AnswersCall p call_there old (with_machine mid m) (Ok tt)
      call_performs given base to below mine next low before =
          let finds = call_found f n whole before.found next mine before.many before.leaves in
          let own = operated p f n old inner c whole below mine next before finds in
          let returned : List Meaning = map Means (option_to_list given_result) in
          record {
            left = map Means (own.front ++ option_to_list given_result);
            all =
                leaves.pending none ran
                ∙ ap (λ (ms : List Meaning). ms ++ returned) (same_below ∙ c.enters.are ∙ ap (map Means) own.older_is ∙ map-append Means below own.front)
                ∙ append_assoc (map Means below) (map Means own.front) returned
                ∙ ap (λ (ms : List Meaning). map Means below ++ ms) (sym (map-append Means own.front (option_to_list given_result)));
            many = finds.left (length own.front) own.many given_result given (map Means (own.front ++ option_to_list given_result))
                (length-map (own.front ++ option_to_list given_result) Means ∙ length-append own.front (option_to_list given_result));
            goes = λ calls start v here is.
                let came = lines_answer p f n old inner c mid (Ok tt) lines start v is in (
                  without_call came.0,
                  at_left start mid m c.routine.header.result came.0 leaves ran left came.2,
                  λ rest.
                      call_runs p f n old inner c calls place whole below mine own (flow_of to) v rest finds.few here
                      ∙ goes_with calls (reverse own.front) (flow_of to) v came.0 rest came.1
                      ∙ ap (λ (r : Option Array). after_result calls whole place r (reverse own.front) (flow_of to) (without_call came.0) rest) (same_result start came.0 came.2.variables)
                      ∙ result_goes calls whole place given_result own.front (flow_of to) (without_call came.0) rest given,
                );
          }

-- ---- what stays

one_frame_less : {A : Type 0} (fs : List (Bindings A)) (k : ℕ) → length fs ≡ suc k → length (innermost_gone fs) ≡ k
one_frame_less [] k e = absurd cc
one_frame_less (x ∷ fs) k e = omega (arith, e)

-- as many calls are pending after it as before
pub call_returns : (old inner mid m : Machine) (result : Option (List ℕ)) → length inner.names.frames ≡ suc (length old.names.frames) → IsSameCount old inner → IsSameCall inner mid → Leaves mid m result → IsSameCount mid m → IsSameCall old m
call_returns old inner mid m result deeper entered ran leaves left = record {
  depth = ap (λ (e : Environment Leaf). length e.frames) leaves.names ∙ one_frame_less mid.names.frames (length old.names.frames) (ran.depth ∙ deeper);
  turns = omega (arith, entered.turns, entered.begun, ran.turns, left.turns, left.begun);
}

-- ---- the function that a call finds

-- the codes of its lines are there, and it is the routine of the name
pub function_is : (p : ProgramView) (f : List ℕ) (at : Function) (opened closed : ℕ) (header : Header) (body : List OutlineBody) → IsFunctionAt p f at → slice_get p.outline.items at.item ≡ Some (outline.Definition opened closed header body) → (at.code + length body ≤ length p.codes) × (routine_of (routines_in p) f ≡ Some (record { header = header; body = lines_with body (drop at.code p.codes) }))
function_is p f at opened closed header body found there =
    let both : Some (outline.Definition found.opened found.closed found.header found.body) ≡ Some (outline.Definition opened closed header body) = sym found.item ∙ there in
    let same_header : found.header ≡ header = cc in
    let same_body : found.body ≡ body = cc in (
      subst (λ (b : List OutlineBody). at.code + length b ≤ length p.codes) same_body found.codes,
      subst (λ (h : Header). routine_of (routines_in p) f ≡ Some (record { header = h; body = lines_with body (drop at.code p.codes) })) same_header
          (subst (λ (b : List OutlineBody). routine_of (routines_in p) f ≡ Some (record { header = found.header; body = lines_with b (drop at.code p.codes) })) same_body found.routine),
    )

pub function_there : (p : ProgramView) (f : List ℕ) (at : Function) → IsFunctionAt p f at → slice_get p.outline.items at.item ≡ None → ⊥
function_there p f at found none_there =
    let both : Some (outline.Definition found.opened found.closed found.header found.body) ≡ None = sym found.item ∙ none_there in
    cc

pub function_item : (p : ProgramView) (f : List ℕ) (at : Function) (item : OutlineItem) → (found : IsFunctionAt p f at) → slice_get p.outline.items at.item ≡ Some item → item ≡ outline.Definition found.opened found.closed found.header found.body
function_item p f at item found there =
    let both : Some item ≡ Some (outline.Definition found.opened found.closed found.header found.body) = sym there ∙ found.item in
    cc

pub enough_codes : (codes : List Code) (first count : ℕ) → first + count ≤ length codes → count ≤ length (drop first codes)
enough_codes codes first count few = omega (arith, few, length-drop first codes)

-- a call of it was begun
abbrev pub begins : (p : ProgramView) (f : List ℕ) (n : ℕ) (old : Scene) (inner : Machine) (first : ℕ) (header : Header) (body given : List OutlineBody) → given ≡ body → (first + length body ≤ length p.codes) × (routine_of (routines_in p) f ≡ Some (record { header = header; body = lines_with body (drop first p.codes) })) → length old.machine.names.frames < 256 → IsLawfulMachine old.machine none → Enters old.machine inner header (labels_in given) n → IsSameCount old.machine inner → Begins p f n old inner
begins p f n old inner first header body given same found few lawful enters entered = record {
  routine = record { header = header; body = lines_with body (drop first p.codes) };
  found = found.1;
  labels = labels_in given;
  labelled = labels_with body (drop first p.codes) (enough_codes p.codes first (length body) found.0) ∙ ap labels_in (sym same);
  few = few;
  lawful = lawful;
  enters = enters;
  entered = entered;
}

-- what tells whether there is a result
pub result_there : (given whole : Bool) (r : Option Array) → (given ≡ true) ⊎ ((given ≡ false) × (whole ≡ true)) → IsTrue given ↔ IsSome r → whole ≡ false → is_some r ≡ true
result_there true whole (Some a) either tells part = refl
result_there true whole None either tells part = absurd (none_is (tells.0 refl))
  where
    none_is : IsSome {T = Array} None → ⊥
    none_is h = cc
result_there false true r either tells part = absurd cc
result_there false false r (inl is) tells part = absurd cc
result_there false false r (inr both) tells part = absurd (never both.1)
  where
    never : false ≡ true → ⊥
    never h = cc

pub result_lacks : (given : Bool) (r : Option Array) → given ≡ false → IsTrue given ↔ IsSome r → r ≡ None
result_lacks true r e tells = absurd cc
result_lacks false None e tells = refl
result_lacks false (Some a) e tells = absurd (never (tells.1 refl))
  where
    never : IsTrue false → ⊥
    never h = cc
