-- Outputs: what goes out, and where one is not whole.
use Rattle.std.proofs.Common.{◌≡◌, inl, inr, ℕ, zero, suc, ◌+◌, ◌≤◌, List, [], ◌∷◌, ◌++◌, map, length, Ok, Err, refl, sym, ap, subst, ◌∙◌, arith, append-nil, encode_utf8_all, length-append}
use Rattle.std.proofs.lemmas.List.{length-map}
use Rattle.std.specs.Prelude.{Option, Some, reverse}
use Rattle.std.proofs.lemmas.List.{map-append}
use Rattle.std.proofs.lemmas.Str.{encodes-append}
use Rattle.apl_base.specs.declared.faults.Place.{Place}
use Rattle.apl_base.specs.Array.{Array}
use Rattle.array_store.specs.Follows.{none}
use Rattle.apl_outside.specs.Bytes.{Gains}
use Rattle.apl_outside.specs.Faults.{Rose}
use Rattle.apl_print.specs.Bytes.{GainsPrefix}
use Rattle.apl_model.specs.Evaluation.{State, Calls, of_arrays, with_printed}
use Rattle.apl_model.specs.Outcome.{Outcome, fails, onwards, Flow as EvaluationFlow}
use Rattle.apl_model.specs.Printed.{array_text}
use Rattle.apl_model_laws.specs.Turns.{state_of}
use Rattle.apl_compile.specs.declared.codes.Instruction.{Instruction}
use Rattle.apl_compile.specs.declared.codes.Op.TheVariants as op
use Rattle.apl_compile.specs.Execution.{comes, exec}
use Rattle.apl_compile.specs.Lawful.{Operands, just, result_or_none, ended, after}
use Rattle.apl_compile.specs.Program.{ProgramView}
use Rattle.drag_along.specs.Meaning.{Meaning, Means}
use Rattle.standing.specs.Stand.{Stand, going, stand_on, runs_from}
use Rattle.standing.specs.Growing.{Grows, CallsGrow}
use Rattle.standing.proofs.GrowingLemmas.{code_grows}
use Rattle.pending_steps.specs.declared.halts.Halt.TheVariants as halt
use Rattle.machine_state.specs.declared.machines.Machine.{Machine}
use Rattle.machine_state.specs.StandsFor.{IsLawfulMachine}
use Rattle.machine_state.specs.Steps.{pending, Keeps, IsSameRun}
use Rattle.calling_steps.specs.declared.outputs.OutputHalt.{OutputHalt}
use Rattle.calling_steps.specs.declared.outputs.OutputHalt.TheVariants as output
use Rattle.calling_steps.specs.Outputs.{bytes_of, on_top, IsNotOutput, Prints, PrintsFront, Shows}
use Rattle.calling_steps.specs.declared.flows.Flow.{Flow}
use Rattle.calling_steps.specs.declared.flows.Flow.TheVariants as flow
use Rattle.d_machine.specs.Answers.{Scene, StopsBefore}
use Rattle.d_machine.specs.Running.{Stays, IsAt, AnswersInstruction, break_of_output}
use Rattle.entry_steps.specs.Changing.{IsAsMany, IsBefore}
use Rattle.calling_steps.specs.Branches.{flow_of}
use Rattle.entry_steps.proofs.EntryLemmas.{as_many_pending, not_computed}
use Rattle.entry_steps.proofs.CountLemmas.{counts_show}
use Rattle.d_machine.proofs.RunLemmas.{IsTold, all_is_front, calls_grow, comes_same, cut_here, extends_grown, grows_on, stays_then, stops_more}
use Rattle.d_machine.proofs.AssignLemmas.{HasNewest, has_newest, newest_going}
use Rattle.d_machine.proofs.FinishLemmas.{left_below, none_of_length}
use Rattle.d_machine.proofs.TurnLemmas.{front_then, gains_then}

-- ---- where a run is after an output

-- the scene with another machine, and another sink for what is printed
abbrev pub shown_scene : Scene → Machine → Option (List ℕ) → ℕ → Scene
shown_scene old m told faults = record old { machine = m; out = told; out_faults = faults }

pub stays_shown : (old : Scene) (m : Machine) (told : Option (List ℕ)) (faults : ℕ) → IsSameRun old.machine m → old.out_faults ≤ faults → Stays old (shown_scene old m told faults)
stays_shown old m told faults same rose = record {
  origin = same.origin;
  limit = same.limit;
  traced = same.traced;
  untraced = λ _. (ap (λ c. c.items) same.costs, refl);
  out_faults = rose;
  trace_faults = omega arith;
}

-- what was printed is another text, and all else is as it was
at_output : (start old : Scene) (m : Machine) (told : Option (List ℕ)) (faults : ℕ) (text : List ℕ) (s : State) → IsLawfulMachine old.machine none → IsSameRun old.machine m → Keeps old.machine m → old.out_faults ≤ faults → Gains start.out told (encode_utf8_all text) → IsAt start old s → IsAt start (shown_scene old m told faults) (record s { printed = text })
at_output start old m told faults text s lawful same k rose gains is = record {
  since = stays_then start old (shown_scene old m told faults) is.since (stays_shown old m told faults same rose);
  variables = k.variables none lawful ∙ is.variables;
  turns = same.turns ∙ is.turns;
  begun = same.begun ∙ is.begun;
  printed = gains;
  traced = λ w.
      let t = is.traced w in
      record { gained = t.gained; costs = ap (λ c. c.items) same.costs ∙ t.costs; statements = t.statements; lines = t.lines };
}

gains_text : (start old : Scene) (told : Option (List ℕ)) (a : Array) (s : State) → Gains start.out old.out (encode_utf8_all s.printed) → Gains old.out told (bytes_of a) → Gains start.out told (encode_utf8_all (s.printed ++ array_text a))
gains_text start old told a s first second =
    subst (λ (bs : List ℕ). Gains start.out told bs) (sym (encodes-append s.printed (array_text a))) (gains_then start.out old.out told (encode_utf8_all s.printed) (bytes_of a) first second)

-- ---- the newest entry

arrays_on_top : (older : List Array) (a : Array) → on_top older a ≡ map Means (older ++ a ∷ [])
arrays_on_top older a = sym (map-append Means older (a ∷ []))

pub newest_on_top : (entries : List Meaning) (below older : List Array) (a : Array) (mine : List Meaning) → entries ≡ on_top older a → entries ≡ map Means below ++ mine → 1 ≤ length mine → HasNewest a mine
newest_on_top entries below older a mine were all some =
    has_newest entries (older ++ a ∷ []) below (map Means older) mine a (were ∙ arrays_on_top older a) were all some

-- ---- an output that stays

pub show_performs : (p : ProgramView) (base : ℕ) (place : Place) (old : Scene) (m : Machine) (told : Option (List ℕ)) (faults : ℕ) (to : Flow) → IsLawfulMachine old.machine none → IsSameRun old.machine m → Keeps old.machine m → old.out_faults ≤ faults → Shows (pending old.machine) (pending m) old.out told → AnswersInstruction p base (record { place = place; op = op.Show }) old (shown_scene old m told faults) to (Ok to)
show_performs p base place old m told faults to lawful same k rose shows below mine next low b =
    let counted = counts_show b.found next mine b.many b.leaves in
    let newest = newest_on_top (pending old.machine) below shows.older shows.array mine shows.were b.all counted.0 in
    let i : Instruction = record { place = place; op = op.Show } in
    record {
      left = mine;
      all = shows.are ∙ sym shows.were ∙ b.all;
      many = counted.1 mine refl;
      goes = λ calls start s here is. (
        with_printed (array_text shows.array) s,
        at_output start old m told faults (s.printed ++ array_text shows.array) s lawful same k rose (gains_text start old told shows.array s is.printed shows.text) is,
        λ rest.
            ap (λ (z : Stand). runs_from (of_arrays calls) (i ∷ rest) z) (newest_going mine shows.array newest (flow_of to) s)
            ∙ sym (ap (λ (z : Stand). runs_from (of_arrays calls) rest z) (newest_going mine shows.array newest (flow_of to) (with_printed (array_text shows.array) s))),
      );
    }

-- ---- an output that goes

-- where the newest entry of one goes, none is left
pub one_left : (first : List Array) (a : Array) (mine : List Meaning) → mine ≡ map Means (first ++ a ∷ []) → length mine ≤ 1 → first ≡ []
one_left [] a mine e few = refl
one_left (x ∷ first) a mine e few =
    let no : ⊥ = omega (arith, few, ap length e, length-map (first ++ a ∷ []) Means, length-append first (a ∷ [])) in
    absurd no

-- the end of a statement's values finds one entry at most, and leaves none
pub print_counts : (found next : Operands) (mine : List Meaning) → IsAsMany found mine → after op.Print found ≡ Some next → (length mine ≤ 1) × (next ≡ just 0)
print_counts (just zero) next mine many e = absurd cc
print_counts (just (suc zero)) next mine many e = (omega (arith, many), cc)
print_counts (just (suc (suc n))) next mine many e = absurd cc
print_counts result_or_none next mine many e = (many, cc)
print_counts ended next mine many e = absurd cc

-- the entries below are left where the only one above them goes
pub gone_above : (m : Machine) (below older : List Array) (mine : List Meaning) (a : Array) → pending m ≡ on_top older a → pending m ≡ map Means below ++ mine → 1 ≤ length mine → length mine ≤ 1 → map Means older ≡ map Means below ++ []
gone_above m below older mine a were all some few =
    left_below (map Means below) mine (map Means older) (Means a) (length (map Means below)) (sym all ∙ were) refl
    (length-append (map Means below) mine ∙ ap (λ (n : ℕ). length (map Means below) + n) (one_only (length mine) some few))
    ∙ sym (append-nil (map Means below))
  where
    one_only : (n : ℕ) → 1 ≤ n → n ≤ 1 → n ≡ 1
    one_only n low high = omega (arith, low, high)

pub print_performs : (p : ProgramView) (base : ℕ) (place : Place) (old : Scene) (m : Machine) (told : Option (List ℕ)) (faults : ℕ) (to : Flow) → IsLawfulMachine old.machine none → IsSameRun old.machine m → Keeps old.machine m → old.out_faults ≤ faults → base + 1 ≤ length old.machine.stack → Prints (pending old.machine) (pending m) old.out told → AnswersInstruction p base (record { place = place; op = op.Print }) old (shown_scene old m told faults) to (Ok flow.Onwards)
print_performs p base place old m told faults to lawful same k rose some prints below mine next low b =
    let counted = print_counts b.found next mine b.many b.leaves in
    let lengths = as_many_pending old.machine below mine b.all in
    let one : 1 ≤ length mine = omega (arith, lengths, low, some) in
    let newest = newest_on_top (pending old.machine) below prints.older prints.array mine prints.were b.all one in
    let none_left : newest.first ≡ [] = one_left newest.first prints.array mine newest.mine_is counted.0 in
    let i : Instruction = record { place = place; op = op.Print } in
    record {
      left = [];
      all = prints.are ∙ gone_above old.machine below prints.older mine prints.array prints.were b.all one counted.0;
      many = subst (λ (o : Operands). IsAsMany o []) (sym counted.1) refl;
      goes = λ calls start s here is. (
        with_printed (array_text prints.array) s,
        at_output start old m told faults (s.printed ++ array_text prints.array) s lawful same k rose (gains_text start old told prints.array s is.printed prints.text) is,
        λ rest.
            ap (λ (z : Stand). runs_from (of_arrays calls) (i ∷ rest) z) (newest_going mine prints.array newest (flow_of to) s)
            ∙ ap (λ (vs : List Array). exec (of_arrays calls) rest (reverse vs) onwards (with_printed (array_text prints.array) s)) none_left,
      );
    }

-- where a call left no value, nothing is printed
pub print_nothing : (p : ProgramView) (base : ℕ) (place : Place) (old : Scene) (to : Flow) → length old.machine.stack ≡ base → AnswersInstruction p base (record { place = place; op = op.Print }) old old to (Ok flow.Onwards)
print_nothing p base place old to all_gone below mine next low b =
    let counted = print_counts b.found next mine b.many b.leaves in
    let lengths = as_many_pending old.machine below mine b.all in
    let none_left : mine ≡ [] = none_of_length mine (omega (arith, lengths, low, all_gone)) in
    let i : Instruction = record { place = place; op = op.Print } in
    record {
      left = [];
      all = b.all ∙ ap (λ (ms : List Meaning). map Means below ++ ms) none_left;
      many = subst (λ (o : Operands). IsAsMany o []) (sym counted.1) refl;
      goes = λ calls start s here is. (
        s,
        is,
        λ rest. ap (λ (ms : List Meaning). runs_from (of_arrays calls) (i ∷ rest) (stand_on (going [] (flow_of to) s) ms)) none_left,
      );
    }

-- ---- outputs that are not whole

-- evaluation has printed the text before anything that follows
abbrev PrintsFirst : Calls → Instruction → Array → Type 0
PrintsFirst calls i a =
    (rest : List Instruction) (vs : List Array) (to : EvaluationFlow) (s : State) (o : Outcome State EvaluationFlow)
    → runs_from (of_arrays calls) (i ∷ rest) (going (a ∷ vs) to s) ≡ comes o → Grows (with_printed (array_text a) s) (state_of o)

show_first : (calls : Calls) → CallsGrow calls → (place : Place) (a : Array) → PrintsFirst calls (record { place = place; op = op.Show }) a
show_first calls grow place a rest vs to s o e = code_grows calls rest (a ∷ vs) to (with_printed (array_text a) s) o grow e

print_first : (calls : Calls) → CallsGrow calls → (place : Place) (a : Array) → PrintsFirst calls (record { place = place; op = op.Print }) a
print_first calls grow place a rest vs to s o e = code_grows calls rest vs onwards (with_printed (array_text a) s) o grow e

-- a front of the text went out
front_stops : (start old : Scene) (m : Machine) (told : Option (List ℕ)) (faults : ℕ) (a : Array) (s t : State) → m.costs.items ≡ old.machine.costs.items → IsAt start old s → GainsPrefix old.out told (bytes_of a) → Grows (with_printed (array_text a) s) t → StopsBefore GainsPrefix start (shown_scene old m told faults) t
front_stops start old m told faults a s t costs is front grows =
    stops_more GainsPrefix start (shown_scene old m told faults) (with_printed (array_text a) s) t (extends_grown (with_printed (array_text a) s) t grows) (record {
      printed =
          subst (λ (bs : List ℕ). GainsPrefix start.out told bs) (sym (encodes-append s.printed (array_text a)))
          (front_then start.out old.out told (encode_utf8_all s.printed) (bytes_of a) is.printed front);
      traced = λ w.
          let all = is.traced w in
          record { gained = all.gained; others = []; costs = costs ∙ all.costs; statements = append-nil _ ∙ all.statements; lines = all_is_front start.trace old.trace _ all.lines };
    })

-- nothing went out
untold : (start old : Scene) (m : Machine) (told : Option (List ℕ)) (faults : ℕ) (s : State) → m.costs.items ≡ old.machine.costs.items → told ≡ old.out → IsAt start old s → IsTold start (shown_scene old m told faults) s
untold start old m told faults s costs none_out is = record {
  printed = subst (λ (o : Option (List ℕ)). Gains start.out o (encode_utf8_all s.printed)) (sym none_out) is.printed;
  traced = λ w.
      let all = is.traced w in
      record { gained = all.gained; costs = costs ∙ all.costs; statements = all.statements; lines = all.lines };
}

pub rose_since : (start old faults : ℕ) → start ≤ old → Rose old faults → Rose start faults
rose_since start old faults low (inl more) = inl (omega (arith, low, more))
rose_since start old faults low (inr last) = inr last

module _ (p : ProgramView) (base : ℕ) (i : Instruction) (old : Scene) (m : Machine) (told : Option (List ℕ)) (faults : ℕ) (to : Flow) (lawful : IsLawfulMachine old.machine none) (same : IsSameRun old.machine m) (k : Keeps old.machine m) (rose : old.out_faults ≤ faults)
    (first : (calls : Calls) → CallsGrow calls → (a : Array) → PrintsFirst calls i a)
    (some : (below : List Array) (mine : List Meaning) (next : Operands) → length below ≡ base → IsBefore i.op (pending old.machine) below mine next → 1 ≤ length mine) where
  costs_same : m.costs.items ≡ old.machine.costs.items
  costs_same = ap (λ c. c.items) same.costs

  -- of the text of the newest entry a front went out
  front_there : PrintsFront (pending old.machine) old.out told → (below : List Array) (mine : List Meaning) (next : Operands) → length below ≡ base → IsBefore i.op (pending old.machine) below mine next → (calls : Calls) (start : Scene) (s : State) (rest : List Instruction) (o : Outcome State EvaluationFlow) → CallsGrow calls → IsAt start old s → runs_from (of_arrays calls) (i ∷ rest) (stand_on (going [] (flow_of to) s) mine) ≡ comes o → StopsBefore GainsPrefix start (shown_scene old m told faults) (state_of o)
  front_there front below mine next low b calls start s rest o grow is e =
      let newest = newest_on_top (pending old.machine) below front.older front.array mine front.were b.all (some below mine next low b) in
      front_stops start old m told faults front.array s (state_of o) costs_same is front.front
      (first calls grow front.array rest (reverse newest.first) (flow_of to) s o
      (sym (ap (λ (z : Stand). runs_from (of_arrays calls) (i ∷ rest) z) (newest_going mine front.array newest (flow_of to) s)) ∙ e))

  pub output_halts : (h : OutputHalt) → (h ≡ output.OutFault → Rose old.out_faults faults) → IsNotOutput old.machine.store.limit (pending old.machine) old.out told h → AnswersInstruction p base i old (shown_scene old m told faults) to (Err (break_of_output h))
  output_halts (output.Halted (halt.Error kind place)) fell n below mine next low b calls start s rest o here is e = (
    s,
    comes_same o (fails kind place s) (sym e ∙ not_computed i old.machine (halt.Error kind place) n.0 below mine next b calls (flow_of to) s (sym is.variables) rest),
    at_output start old m told faults s.printed s lawful same k rose (subst (λ (x : Option (List ℕ)). Gains start.out x (encode_utf8_all s.printed)) (sym n.1) is.printed) is,
  )
  output_halts (output.Halted (halt.WsFull live asked)) fell n below mine next low b calls start s rest o here is e = (
    omega (arith, n.0, is.since.limit),
    cut_here Gains (λ _ _ _ g. g) start (shown_scene old m told faults) s (state_of o) (grows_on calls (i ∷ rest) mine [] (flow_of to) s o (calls_grow p old.machine calls here) e)
        (untold start old m told faults s costs_same n.1 is),
  )
  output_halts (output.Halted halt.NoMemory) fell (inl n) below mine next low b calls start s rest o here is e =
      cut_here GainsPrefix all_is_front start (shown_scene old m told faults) s (state_of o) (grows_on calls (i ∷ rest) mine [] (flow_of to) s o (calls_grow p old.machine calls here) e)
      (untold start old m told faults s costs_same n is)
  output_halts (output.Halted halt.NoMemory) fell (inr front) below mine next low b calls start s rest o here is e =
      front_there front below mine next low b calls start s rest o (calls_grow p old.machine calls here) is e
  output_halts output.OutFault fell front below mine next low b calls start s rest o here is e = (
    rose_since start.out_faults old.out_faults faults is.since.out_faults (fell refl),
    front_there front below mine next low b calls start s rest o (calls_grow p old.machine calls here) is e,
  )

-- a value that was to be printed and stay
pub show_halts : (p : ProgramView) (base : ℕ) (place : Place) (old : Scene) (m : Machine) (told : Option (List ℕ)) (faults : ℕ) (to : Flow) → IsLawfulMachine old.machine none → IsSameRun old.machine m → Keeps old.machine m → old.out_faults ≤ faults → (h : OutputHalt) → (h ≡ output.OutFault → Rose old.out_faults faults) → IsNotOutput old.machine.store.limit (pending old.machine) old.out told h → AnswersInstruction p base (record { place = place; op = op.Show }) old (shown_scene old m told faults) to (Err (break_of_output h))
show_halts p base place old m told faults to lawful same k rose =
    output_halts p base (record { place = place; op = op.Show }) old m told faults to lawful same k rose (λ calls grow a. show_first calls grow place a)
    (λ below mine next low b. (counts_show b.found next mine b.many b.leaves).0)

-- and one that was to go
pub print_halts : (p : ProgramView) (base : ℕ) (place : Place) (old : Scene) (m : Machine) (told : Option (List ℕ)) (faults : ℕ) (to : Flow) → IsLawfulMachine old.machine none → IsSameRun old.machine m → Keeps old.machine m → old.out_faults ≤ faults → base + 1 ≤ length old.machine.stack → (h : OutputHalt) → (h ≡ output.OutFault → Rose old.out_faults faults) → IsNotOutput old.machine.store.limit (pending old.machine) old.out told h → AnswersInstruction p base (record { place = place; op = op.Print }) old (shown_scene old m told faults) to (Err (break_of_output h))
print_halts p base place old m told faults to lawful same k rose some =
    output_halts p base (record { place = place; op = op.Print }) old m told faults to lawful same k rose (λ calls grow a. print_first calls grow place a)
    (λ below mine next low b. omega (arith, as_many_pending old.machine below mine b.all, low, some))
