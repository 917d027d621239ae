-- Indexed assignments, over what the machine's step leaves.
use Rattle.std.proofs.Common.{◌≡◌, inl, inr, ℕ, zero, suc, ◌+◌, ◌≤◌, Bool, true, false, List, [], ◌∷◌, ◌++◌, map, length, Option, Some, None, Ok, Err, refl, sym, ap, subst, ◌∙◌, arith, append_assoc, length-append}
use Rattle.std.proofs.lemmas.List.{length-map, map-append, reverse-append, reverse-reverse, length-reverse}
use Rattle.std.specs.Prelude.{reverse}
use Rattle.apl_base.specs.declared.faults.ErrorKind.{ErrorKind}
use Rattle.apl_base.specs.declared.faults.Place.{Place}
use Rattle.apl_base.specs.Array.{Array}
use Rattle.array_store.specs.Follows.{none}
use Rattle.drag_along.specs.Meaning.{Meaning, Means}
use Rattle.apl_model.specs.Environment.{Environment, look_up, set_name}
use Rattle.apl_model.specs.Evaluation.{State, Calls, of_arrays, at_place, replace_in, replace_name, with_name}
use Rattle.apl_model.specs.Outcome.{Outcome, done, fails, and_then, Flow as EvaluationFlow}
use Rattle.apl_compile.specs.declared.codes.Instruction.{Instruction}
use Rattle.apl_compile.specs.declared.codes.Op.TheVariants as op
use Rattle.apl_compile.specs.Execution.{Taken, exec, goes_on, put, replaced}
use Rattle.apl_compile.specs.Lawful.{Operands, just, result_or_none, ended, less, with_value}
use Rattle.apl_compile.specs.Program.{ProgramView}
use Rattle.standing.specs.Stand.{Stand, going, stand_on, runs_from}
use Rattle.pending_steps.specs.declared.halts.Halt.{Halt}
use Rattle.pending_steps.specs.declared.halts.Halt.TheVariants as halt
use Rattle.pending_steps.specs.Steps.{OnError}
use Rattle.indexing_steps.specs.Operands.{positions_in, spread}
use Rattle.indexing_steps.proofs.MaskLemmas.{count-no, count-yes, taken_spread}
use Rattle.machine_state.specs.declared.machines.Machine.{Machine}
use Rattle.machine_state.specs.StandsFor.{IsLawfulMachine, variables}
use Rattle.machine_state.specs.Steps.{pending, IsSameCount, Keeps}
use Rattle.replacing_steps.specs.Replaces.{Replaces, RefusesReplace, IsReplaceHalted}
use Rattle.calling_steps.specs.declared.flows.Flow.{Flow}
use Rattle.calling_steps.specs.Branches.{flow_of}
use Rattle.entry_steps.specs.Changing.{IsAsMany, IsHaltedBefore}
use Rattle.entry_steps.proofs.EntryLemmas.{Counts, arrays_apart, not_computed, split, values_on}
use Rattle.d_machine.specs.Answers.{Scene}
use Rattle.d_machine.specs.Running.{AnswersInstruction, break_of}
use Rattle.d_machine.proofs.AssignLemmas.{same_depth, set_depth}
use Rattle.d_machine.proofs.RunLemmas.{with_machine, at_variables, halts}

-- ---- how many entries it needs and leaves

less_is : (mask : List Bool) (n m : ℕ) → less mask n ≡ Some m → n ≡ m + positions_in mask
less_is [] n m e =
    let same : n ≡ m = cc in
    omega (arith, same)
less_is (false ∷ mask) n m e = omega (arith, less_is mask n m e, count-no mask)
less_is (true ∷ mask) zero m e = absurd cc
less_is (true ∷ mask) (suc n) m e = omega (arith, less_is mask n m e, count-yes mask)

pub counts_replace : (name : List ℕ) (mask : List Bool) → Counts (op.Iasg name mask) (1 + positions_in mask) 1
counts_replace name mask (just n) next mine many e = by (less mask n) refl e
  where
    by : (o : Option ℕ) → less mask n ≡ o → with_value o ≡ Some next → (1 + positions_in mask ≤ length mine) × ((left : List Meaning) → length left + (1 + positions_in mask) ≡ length mine + 1 → IsAsMany next left)
    by None is e = absurd cc
    by (Some zero) is e = absurd cc
    by (Some (suc m)) is e =
        let same : just (suc m) ≡ next = cc in
        let sum : n ≡ suc m + positions_in mask = less_is mask n (suc m) is in (
          omega (arith, many, sum),
          λ left lengths.
              let counted : IsAsMany (just (suc m)) left = omega (arith, many, sum, lengths) in
              subst (λ (o : Operands). IsAsMany o left) same counted,
        )
counts_replace name mask result_or_none next mine many e = absurd cc
counts_replace name mask ended next mine many e = absurd cc

-- ---- a statement's own entries

-- above some arrays the value, and above it the positions
record Own (older below : List Array) (value : Array) (there : List Array) (mine : List Meaning) : Type 0 where
  own : List Array
  older_is : map (λ a. Means a) older ≡ map (λ a. Means a) below ++ map (λ a. Means a) own
  mine_is : mine ≡ map (λ a. Means a) (own ++ value ∷ reverse there)

own_entries : (entries : List Meaning) (older below : List Array) (value : Array) (there : List Array) (mine : List Meaning) → entries ≡ (map (λ a. Means a) older ++ Means value ∷ []) ++ map (λ p. Means p) (reverse there) → entries ≡ map (λ a. Means a) below ++ mine → 1 + length there ≤ length mine → Own older below value there mine
own_entries entries older below value there mine are all some =
    let taken_there : List Meaning = Means value ∷ map (λ a. Means a) (reverse there) in
    let whole : map (λ a. Means a) older ++ taken_there ≡ map (λ a. Means a) below ++ mine =
    sym (append_assoc (map (λ a. Means a) older) (Means value ∷ []) (map (λ a. Means a) (reverse there))) ∙ sym are ∙ all in
    let few : length taken_there ≤ length mine = omega (arith, some, length-map (reverse there) Means, length-reverse there) in
    let s = split (map (λ a. Means a) older) taken_there (map (λ a. Means a) below) mine whole few in
    let apart = arrays_apart older below s.front s.older_is in
    record {
      own = apart.own;
      older_is = s.older_is ∙ ap (λ (xs : List Meaning). map (λ a. Means a) below ++ xs) apart.mine_is;
      mine_is = s.mine_is ∙ ap (λ (xs : List Meaning). xs ++ taken_there) apart.mine_is ∙ sym (map-append Means apart.own (value ∷ reverse there));
    }

-- the newest first
turned : (own : List Array) (value : Array) (there : List Array) → reverse (own ++ value ∷ reverse there) ≡ there ++ value ∷ reverse own
turned own value there =
    reverse-append own (value ∷ reverse there)
    ∙ ap (λ (xs : List Array). xs ++ reverse own) (reverse-append (value ∷ []) (reverse there) ∙ ap (λ (xs : List Array). xs ++ value ∷ []) (reverse-reverse there))
    ∙ append_assoc there (value ∷ []) (reverse own)

-- what evaluation does there
acts : (name : List ℕ) (mask : List Bool) (place : Place) (own : List Array) (value : Array) (there : List Array) (mine : List Meaning) → length there ≡ positions_in mask → mine ≡ map (λ a. Means a) (own ++ value ∷ reverse there) → (calls : Calls) (to : EvaluationFlow) (s : State) (rest : List Instruction)
    → runs_from (of_arrays calls) (record { place = place; op = op.Iasg name mask } ∷ rest) (stand_on (going [] to s) mine)
    ≡ goes_on (replace_name name (spread mask there) value place s) (put (of_arrays calls) (reverse own) to (exec (of_arrays calls) rest))
acts name mask place own value there mine number is calls to s rest =
    ap (λ (z : Stand). runs_from (of_arrays calls) (record { place = place; op = op.Iasg name mask } ∷ rest) z)
    (values_on mine (own ++ value ∷ reverse there) to s is ∙ ap (λ (vs : List Array). going vs to s) (turned own value there))
    ∙ ap (λ (t : Option (Taken Array)). replaced (of_arrays calls) name place t to s (exec (of_arrays calls) rest)) (taken_spread mask there (value ∷ reverse own) number)

-- ---- it is done

-- the name is set to that array, where the replacement comes to it
done_so : (name : List ℕ) (ps : List (Option Array)) (value array : Array) (place : Place) (e : Environment Array) (s : State) → e ≡ s.variables → replace_in e.origin (look_up e name) ps value ≡ Ok array → replace_name name ps value place s ≡ done value (with_name name array s)
done_so name ps value array place e s same answer =
    ap (λ (o : Outcome State Array). and_then o (λ a t. done value (with_name name a t)))
    (ap (λ (x : Environment Array). at_place place (replace_in x.origin (look_up x name) ps value) s) (sym same) ∙ ap (λ a. at_place place a s) answer)

fails_so : (name : List ℕ) (ps : List (Option Array)) (value : Array) (kind : ErrorKind) (place : Place) (e : Environment Array) (s : State) → e ≡ s.variables → replace_in e.origin (look_up e name) ps value ≡ Err kind → replace_name name ps value place s ≡ fails kind place s
fails_so name ps value kind place e s same answer =
    ap (λ (o : Outcome State Array). and_then o (λ a t. done value (with_name name a t)))
    (ap (λ (x : Environment Array). at_place place (replace_in x.origin (look_up x name) ps value) s) (sym same) ∙ ap (λ a. at_place place a s) answer)

pub replace_performs : (p : ProgramView) (base : ℕ) (place : Place) (name : List ℕ) (mask : List Bool) (old : Scene) (m : Machine) (to : Flow) → IsLawfulMachine old.machine none → IsSameCount old.machine m → Replaces old.machine m name mask → AnswersInstruction p base (record { place = place; op = op.Iasg name mask }) old (with_machine old m) to (Ok to)
replace_performs p base place name mask old m to lawful same r below mine next low b =
    let counted = counts_replace name mask b.found next mine b.many b.leaves in
    let o = r.operands in
    let w = own_entries (pending old.machine) o.older below r.value o.there mine o.are b.all (omega (arith, counted.0, o.number)) in
    let left : List Meaning = map (λ a. Means a) (w.own ++ r.value ∷ []) in
    let lengths : length left + (1 + positions_in mask) ≡ length mine + 1 =
    omega (
      arith,
      o.number,
      length-map (w.own ++ r.value ∷ []) Means,
      length-append w.own (r.value ∷ []),
      ap length w.mine_is,
      length-map (w.own ++ r.value ∷ reverse o.there) Means,
      length-append w.own (r.value ∷ reverse o.there),
      length-reverse o.there,
    ) in
    record {
      left = left;
      all =
          r.pending_is
          ∙ ap (λ (xs : List Meaning). xs ++ Means r.value ∷ []) w.older_is
          ∙ append_assoc (map (λ a. Means a) below) (map (λ a. Means a) w.own) (Means r.value ∷ [])
          ∙ ap (λ (xs : List Meaning). map (λ a. Means a) below ++ xs) (sym (map-append Means w.own (r.value ∷ [])));
      many = counted.1 left lengths;
      goes = λ calls start s here is. (
        with_name name r.array s,
        at_variables start old m s (set_name s.variables name r.array) same
            (r.variables_are none lawful ∙ ap (λ (e : Environment Array). set_name e name r.array) is.variables) is,
        λ rest.
            acts name mask place w.own r.value o.there mine o.number w.mine_is calls (flow_of to) s rest
            ∙ ap (λ (ps : List (Option Array)). goes_on (replace_name name ps r.value place s) (put (of_arrays calls) (reverse w.own) (flow_of to) (exec (of_arrays calls) rest))) (sym o.positions)
            ∙ ap (λ (x : Outcome State Array). goes_on x (put (of_arrays calls) (reverse w.own) (flow_of to) (exec (of_arrays calls) rest)))
            (done_so name r.ps r.value r.array place (variables old.machine) s is.variables r.answer)
            ∙ sym (ap (λ (z : Stand). runs_from (of_arrays calls) rest z)
            (values_on left (w.own ++ r.value ∷ []) (flow_of to) (with_name name r.array s) refl
            ∙ ap (λ (vs : List Array). going vs (flow_of to) (with_name name r.array s)) (reverse-append w.own (r.value ∷ [])))),
      );
    }

pub replace_depth : (old new : Machine) (name : List ℕ) (mask : List Bool) → IsLawfulMachine old none → Replaces old new name mask → length new.names.frames ≡ length old.names.frames
replace_depth old new name mask lawful r =
    sym (same_depth new) ∙ ap (λ (e : Environment Array). length e.frames) (r.variables_are none lawful) ∙ set_depth (variables old) name r.array ∙ same_depth old

-- ---- why it is not

refuses : (name : List ℕ) (mask : List Bool) (m : Machine) (kind : ErrorKind) (place : Place) → RefusesReplace m name mask kind → IsHaltedBefore (record { place = place; op = op.Iasg name mask }) m (halt.Error kind place)
refuses name mask m kind place r below mine next b calls to s same rest =
    let counted = counts_replace name mask b.found next mine b.many b.leaves in
    let o = r.operands in
    let w = own_entries (pending m) o.older below r.value o.there mine o.are b.all (omega (arith, counted.0, o.number)) in
    acts name mask place w.own r.value o.there mine o.number w.mine_is calls to s rest
    ∙ ap (λ (ps : List (Option Array)). goes_on (replace_name name ps r.value place s) (put (of_arrays calls) (reverse w.own) to (exec (of_arrays calls) rest))) (sym o.positions)
    ∙ ap (λ (x : Outcome State Array). goes_on x (put (of_arrays calls) (reverse w.own) to (exec (of_arrays calls) rest)))
    (fails_so name r.ps r.value kind place (variables m) s (sym same) r.answer)

halted_replace : (name : List ℕ) (mask : List Bool) (place : Place) (m : Machine) (h : Halt) → IsReplaceHalted m name mask place h → IsHaltedBefore (record { place = place; op = op.Iasg name mask }) m h
halted_replace name mask place m (halt.Error kind at) (inl n) = not_computed (record { place = place; op = op.Iasg name mask }) m (halt.Error kind at) n
halted_replace name mask place m (halt.Error kind at) (inr r) =
    subst (λ (q : Place). IsHaltedBefore (record { place = place; op = op.Iasg name mask }) m (halt.Error kind q)) (sym r.0) (refuses name mask m kind place r.1)
halted_replace name mask place m (halt.WsFull live asked) n = n
halted_replace name mask place m halt.NoMemory n = tt

pub replace_halts : (p : ProgramView) (base : ℕ) (place : Place) (name : List ℕ) (mask : List Bool) (old : Scene) (m : Machine) (to : Flow) (h : Halt) → IsLawfulMachine old.machine none → IsSameCount old.machine m → OnError (Err h) (Keeps old.machine m) → IsReplaceHalted old.machine name mask place h → AnswersInstruction p base (record { place = place; op = op.Iasg name mask }) old (with_machine old m) to (Err (break_of h))
replace_halts p base place name mask old m to h lawful same k n =
    halts p base (record { place = place; op = op.Iasg name mask }) old m to h lawful same k (halted_replace name mask place old.machine h n)
