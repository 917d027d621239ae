-- How far the run of a code has come: after so many instructions.
use Rattle.std.proofs.Common.{◌≡◌, ℕ, zero, suc, ◌+◌, ◌<◌, ◌≤◌, List, [], ◌∷◌, ◌++◌, map, length, drop, get_or, Ok, Err, refl, sym, ap, subst, ◌∙◌, arith, add-zero, append-nil, length-drop}
use Rattle.std.specs.Prelude.{Option, Some, None, reverse}
use Rattle.std.specs.Option.{option_and_then}
use Rattle.std.proofs.lemmas.List.{drop_more, length-map}
use Rattle.apl_base.specs.Array.{Array}
use Rattle.array_store.specs.Follows.{none}
use Rattle.apl_model.specs.Evaluation.{State, Calls, of_arrays}
use Rattle.apl_model.specs.Outcome.{Outcome, done, onwards, Flow as EvaluationFlow}
use Rattle.apl_compile.specs.declared.codes.Instruction.{Instruction}
use Rattle.apl_compile.specs.declared.codes.Op.{Op}
use Rattle.apl_compile.specs.declared.codes.Op.TheVariants as op
use Rattle.apl_compile.specs.Execution.{Doing, act, comes, missing, exec, stopping, code_flow}
use Rattle.apl_compile.specs.Lawful.{Operands, just, result_or_none, ended as at_the_end, after, after_code, IsLawfulCode}
use Rattle.apl_compile.specs.Program.{ProgramView}
use Rattle.apl_compile.proofs.LawfulLemmas.{lawful_code_has_operands}
use Rattle.drag_along.specs.Meaning.{Meaning, Means}
use Rattle.standing.specs.Stand.{Stand, going, stand_on, runs_from}
use Rattle.machine_state.specs.declared.machines.Machine.{Machine}
use Rattle.machine_state.specs.StandsFor.{IsLawfulMachine}
use Rattle.machine_state.specs.Steps.{pending, Keeps, IsSameRun}
use Rattle.d_machine.specs.declared.breaks.Break.{Break}
use Rattle.calling_steps.specs.declared.flows.Flow.{Flow}
use Rattle.calling_steps.specs.declared.flows.Flow.TheVariants as flow
use Rattle.d_machine.specs.Answers.{Scene}
use Rattle.d_machine.specs.Running.{IsAt, AnswersInstruction, AnswersFlow, BreaksOff, AreCallsAt, AreAllArrays}
use Rattle.entry_steps.specs.Changing.{IsAsMany, IsBefore, IsReady}
use Rattle.calling_steps.specs.Branches.{flow_of}
use Rattle.entry_steps.proofs.EntryLemmas.{arrays_apart, as_many_pending, values_on}
use Rattle.d_machine.proofs.FinishLemmas.{none_of_length}
use Rattle.d_machine.proofs.RunLemmas.{with_machine, at_same, calls_still}

-- after so many instructions evaluation stands at what is left of the code, with these entries of its own
pub record Arrives (p : ProgramView) (base : ℕ) (code : List Instruction) (k : ℕ) (to : Flow) (old now : Scene) : Type 0 where
  pub below : List Array
  pub mine : List Meaning
  pub found : Operands
  pub number : length below ≡ base
  pub under : pending old.machine ≡ map (λ a. Means a) below
  pub all : pending now.machine ≡ map (λ a. Means a) below ++ mine
  pub many : IsAsMany found mine
  pub leads : after_code (drop k code) found ≡ Some at_the_end
  pub depth : length now.machine.names.frames ≡ length old.machine.names.frames
  pub goes : (calls : Calls) (start : Scene) (s : State) → AreCallsAt p old.machine calls → IsAt start old s
      → (t : State) × IsAt start now t
      × (runs_from (of_arrays calls) code (going [] onwards s) ≡ runs_from (of_arrays calls) (drop k code) (stand_on (going [] (flow_of to) t) mine))

-- as many as are on the stack
as_many_arrays : (m : Machine) (below : List Array) → pending m ≡ map Means below → length m.stack ≡ length below
as_many_arrays m below e = as_many_pending m below [] (e ∙ sym (append-nil (map Means below))) ∙ add-zero (length below)

pub arrives_first : (p : ProgramView) (base : ℕ) (code : List Instruction) (old : Scene) → IsLawfulCode code → base ≡ length old.machine.stack → AreAllArrays (pending old.machine) → Arrives p base code 0 flow.Onwards old old
arrives_first p base code old lawful many arrays = record {
  below = arrays.0;
  number = sym (many ∙ as_many_arrays old.machine arrays.0 arrays.1);
  mine = [];
  found = just 0;
  under = arrays.1;
  all = arrays.1 ∙ sym (append-nil (map Means arrays.0));
  many = refl;
  leads = lawful;
  depth = refl;
  goes = λ calls start s here is. (s, is, refl);
}

-- ---- one instruction

-- what is left of the code begins with the instruction there
left_is : (code : List Instruction) (k : ℕ) (i : Instruction) → k < length code → i ≡ get_or code k i → drop k code ≡ i ∷ drop (k + 1) code
left_is code k i within e = drop_more code k i within ∙ ap (λ (x : Instruction). x ∷ drop (k + 1) code) (sym e)

-- what a code that leads on leaves after its first instruction
pub record LeadsOn (what : Op) (rest : List Instruction) (found : Operands) : Type 0 where
  pub next : Operands
  pub leaves : after what found ≡ Some next
  pub leads : after_code rest next ≡ Some at_the_end

none_leads : None ≡ Some at_the_end → ⊥
none_leads e = cc

leads_on : (i : Instruction) (rest : List Instruction) (found : Operands) → after_code (i ∷ rest) found ≡ Some at_the_end → LeadsOn i.op rest found
leads_on i rest found e = by (after i.op found) refl
  where
    by : (o : Option Operands) → after i.op found ≡ o → LeadsOn i.op rest found
    by None h = absurd (none_leads (sym (ap (option_and_then (after_code rest)) h) ∙ e))
    by (Some next) h = record { next = next; leaves = h; leads = sym (ap (option_and_then (after_code rest)) h) ∙ e }

module _ (p : ProgramView) (base : ℕ) (code : List Instruction) (k : ℕ) (to : Flow) (old now : Scene) (i : Instruction) (a : Arrives p base code k to old now) (within : k < length code) (item : i ≡ get_or code k i) where
  pub leads_there : LeadsOn i.op (drop (k + 1) code) a.found
  leads_there = leads_on i (drop (k + 1) code) a.found (subst (λ (c : List Instruction). after_code c a.found ≡ Some at_the_end) (left_is code k i within item) a.leads)

  pub before : IsBefore i.op (pending now.machine) a.below a.mine leads_there.next
  before = record { all = a.all; found = a.found; many = a.many; leaves = leads_there.leaves }

  pub ready : IsReady i.op base (pending now.machine)
  ready = record { below = a.below; number = a.number; mine = a.mine; next = leads_there.next; before = before }

  pub arrives_next : (new : Scene) (further : Flow) → length new.machine.names.frames ≡ length now.machine.names.frames → AnswersInstruction p base i now new to (Ok further) → Arrives p base code (k + 1) further old new
  arrives_next new further depth answers =
      let done_there = answers a.below a.mine leads_there.next a.number before in
      record {
        below = a.below;
        number = a.number;
        mine = done_there.left;
        found = leads_there.next;
        under = a.under;
        all = done_there.all;
        many = done_there.many;
        leads = leads_there.leads;
        depth = depth ∙ a.depth;
        goes = λ calls start s here is.
            let first = a.goes calls start s here is in
            let second = done_there.goes calls start first.0 (calls_still p old.machine now.machine calls a.depth here) first.1 in (
              second.0,
              second.1,
              first.2
                  ∙ ap (λ (c : List Instruction). runs_from (of_arrays calls) c (stand_on (going [] (flow_of to) first.0) a.mine)) (left_is code k i within item)
                  ∙ second.2 (drop (k + 1) code),
            );
      }

  -- where the instruction answers that the run goes no further, that is so of the code
  pub arrives_break : (new : Scene) (b : Break) → IsLawfulCode code → AnswersInstruction p base i now new to (Err b) → (calls : Calls) (start : Scene) (s : State) → AreCallsAt p old.machine calls → IsAt start old s → AnswersFlow start new (code_flow (of_arrays calls) code s) (Err b)
  arrives_break new b lawful answers calls start s here is =
      let first = a.goes calls start s here is in
      by (exec (of_arrays calls) code [] onwards s) (lawful_code_has_operands State Array (of_arrays calls) code s lawful) (λ o e.
      answers a.below a.mine leads_there.next a.number before calls start first.0 (drop (k + 1) code) o (calls_still p old.machine now.machine calls a.depth here) first.1
      (sym (ap (λ (c : List Instruction). runs_from (of_arrays calls) c (stand_on (going [] (flow_of to) first.0) a.mine)) (left_is code k i within item)) ∙ sym first.2 ∙ e))
    where
      by : (d : Doing State EvaluationFlow) → ¬ (d ≡ missing) → ((o : Outcome State EvaluationFlow) → d ≡ comes o → BreaksOff start new o b) → AnswersFlow start new (stopping (of_arrays calls) s d) (Err b)
      by (comes o) there so = so o refl
      by missing there so = absurd (there refl)

-- ---- the end of the code

-- the end finds one entry at most
end_finds : (found next : Operands) (mine : List Meaning) → IsAsMany found mine → after op.End found ≡ Some next → length mine ≤ 1
end_finds (just zero) next mine many e = omega (arith, many)
end_finds (just (suc zero)) next mine many e = omega (arith, many)
end_finds (just (suc (suc n))) next mine many e = absurd cc
end_finds result_or_none next mine many e = absurd cc
end_finds at_the_end next mine many e = absurd cc

-- a code does not stop before its end
nothing_left : (found : Operands) (mine : List Meaning) → IsAsMany found mine → Some found ≡ Some at_the_end → ⊥
nothing_left found mine many e =
    let same : found ≡ at_the_end = cc in
    subst (λ (o : Operands). IsAsMany o mine) same many

drop_past : (code : List Instruction) (k : ℕ) → length code ≤ k → drop k code ≡ []
drop_past code k past = none_left (drop k code) (omega (arith, past, length-drop k code))
  where
    none_left : (xs : List Instruction) → length xs ≡ 0 → xs ≡ []
    none_left [] e = refl
    none_left (x ∷ xs) e = absurd cc

pub arrives_past : (p : ProgramView) (base : ℕ) (code : List Instruction) (k : ℕ) (to : Flow) (old now : Scene) → Arrives p base code k to old now → length code ≤ k → ⊥
arrives_past p base code k to old now a past =
    nothing_left a.found a.mine a.many (sym (ap (λ (c : List Instruction). after_code c a.found) (drop_past code k past)) ∙ a.leads)

module _ (p : ProgramView) (base : ℕ) (code : List Instruction) (k : ℕ) (to : Flow) (old now : Scene) (i : Instruction) (a : Arrives p base code k to old now) (within : k < length code) (item : i ≡ get_or code k i) (end_there : i.op ≡ op.End) where
  leads_end : LeadsOn op.End (drop (k + 1) code) a.found
  leads_end = subst (λ (o : Op). LeadsOn o (drop (k + 1) code) a.found) end_there (leads_there p base code k to old now i a within item)

  -- one entry at most is above those below
  pub end_low : base ≤ length now.machine.stack
  end_low = omega (arith, as_many_pending now.machine a.below a.mine a.all, a.number)

  pub end_high : length now.machine.stack ≤ base + 1
  end_high = omega (arith, as_many_pending now.machine a.below a.mine a.all, a.number, end_finds a.found leads_end.next a.mine a.many leads_end.leaves)

  pub end_below : base ≡ length now.machine.stack → AreAllArrays (pending now.machine)
  end_below none_above =
      let none_left : length a.mine ≡ 0 = omega (arith, as_many_pending now.machine a.below a.mine a.all, a.number, none_above) in
      (a.below, a.all ∙ ap (λ (ms : List Meaning). map Means a.below ++ ms) (none_of_length a.mine none_left) ∙ append-nil (map Means a.below))

  -- the code is done where all entries are arrays
  pub arrives_end : (m : Machine) → IsLawfulMachine now.machine none → IsSameRun now.machine m → Keeps now.machine m → AreAllArrays (pending now.machine) → (calls : Calls) (start : Scene) (s : State) → AreCallsAt p old.machine calls → IsAt start old s → AnswersFlow start (with_machine now m) (code_flow (of_arrays calls) code s) (Ok to)
  arrives_end m lawful same k_m arrays calls start s here is =
      let first = a.goes calls start s here is in
      let apart = arrays_apart arrays.0 a.below a.mine (sym arrays.1 ∙ a.all) in
      let ended_there : exec (of_arrays calls) code [] onwards s ≡ comes (done (flow_of to) first.0) =
      first.2
      ∙ ap (λ (c : List Instruction). runs_from (of_arrays calls) c (stand_on (going [] (flow_of to) first.0) a.mine)) (left_is code k i within item)
      ∙ ap (λ (z : Stand). runs_from (of_arrays calls) (i ∷ drop (k + 1) code) z) (values_on a.mine apart.own (flow_of to) first.0 apart.mine_is)
      ∙ ap (λ (o : Op). act (of_arrays calls) o i.place (reverse apart.own) (flow_of to) first.0 (exec (of_arrays calls) (drop (k + 1) code))) end_there in
      (first.0, ap (λ (d : Doing State EvaluationFlow). stopping (of_arrays calls) s d) ended_there, at_same start now m first.0 same k_m lawful first.1)

  -- the entries below are left
  pub left_at_end : (m : Machine) → ((older younger : List Meaning) → pending now.machine ≡ older ++ younger → length older ≡ base → pending m ≡ older) → pending m ≡ pending old.machine
  left_at_end m ends = ends (map Means a.below) a.mine a.all (length-map a.below Means ∙ a.number) ∙ sym a.under
