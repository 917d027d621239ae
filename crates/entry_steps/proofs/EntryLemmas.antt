-- Instructions on entries, above the entries below.
use Rattle.std.proofs.Common.{◌≡◌, inl, inr, ℕ, ℤ, ◌+◌, ◌≤◌, List, [], ◌∷◌, ◌++◌, map, length, refl, sym, ap, subst, ◌∙◌, arith, append_assoc, length-append}
use Rattle.std.proofs.lemmas.List.{length-map}
use Rattle.std.specs.Prelude.{reverse, Some}
use Rattle.apl_base.specs.declared.faults.ErrorKind.{ErrorKind}
use Rattle.apl_base.specs.declared.faults.ErrorKind.TheVariants as error
use Rattle.apl_base.specs.declared.faults.Place.{Place}
use Rattle.apl_base.specs.Array.{Array}
use Rattle.drag_along.specs.Meaning.{Meaning, Means, Faults}
use Rattle.alias_force.specs.Moving.{FaultsFirst}
use Rattle.apl_model.specs.Environment.{Environment}
use Rattle.apl_model.specs.Evaluation.{State, of_arrays}
use Rattle.apl_model.specs.Outcome.{Outcome, fails, Flow}
use Rattle.apl_compile.specs.declared.codes.Instruction.{Instruction}
use Rattle.apl_compile.specs.declared.codes.Op.{Op}
use Rattle.apl_compile.specs.Lawful.{Operands, after}
use Rattle.standing.specs.Stand.{Stand, going, ended, stand_on, runs_from}
use Rattle.standing.proofs.StandLemmas.{older_then_younger, arrays_are_pending, oldest_fault_ends}
use Rattle.pending_steps.specs.declared.halts.Halt.{Halt}
use Rattle.pending_steps.specs.declared.halts.Halt.TheVariants as halt
use Rattle.pending_steps.specs.Steps.{Steps, IsNotComputed, IsHalted}
use Rattle.leaf_steps.specs.Origins.{HasOrigin, StepsFrom, RefusesFrom, IsHaltedFrom}
use Rattle.drag_along.specs.Meaning.{entry}
use Rattle.machine_state.specs.declared.machines.Machine.{Machine}
use Rattle.machine_state.specs.StandsFor.{variables}
use Rattle.machine_state.specs.Steps.{pending, StandsAt, StepsAt, RefusesAt, IsHaltedAt}
use Rattle.entry_steps.specs.Changing.{IsAsMany, IsBefore, Changes, IsHaltedBefore}

-- ---- lists of entries

-- where two lists are one, and the tail of the one is no longer than that of the other, it is the end of it
pub record Split {A : Type 0} (older taken below mine : List A) : Type 0 where
  pub front : List A
  pub older_is : older ≡ below ++ front
  pub mine_is : mine ≡ front ++ taken

pub split : {A : Type 0} → (older taken below mine : List A) → older ++ taken ≡ below ++ mine → length taken ≤ length mine → Split older taken below mine
split older taken [] mine e few = record { front = older; older_is = refl; mine_is = sym e }
split [] taken (b ∷ below) mine e few =
    let lengths : length taken ≡ length (b ∷ below) + length mine = ap length e ∙ length-append (b ∷ below) mine in
    let no : ⊥ = omega (arith, lengths, few) in
    absurd no
split (o ∷ older) taken (b ∷ below) mine e few =
    let same : o ≡ b = cc in
    let others : older ++ taken ≡ below ++ mine = cc in
    let s = split older taken below mine others few in
    record { front = s.front; older_is = ap (λ x. x ∷ older) same ∙ ap (λ xs. b ∷ xs) s.older_is; mine_is = s.mine_is }

-- arrays, of which the oldest are these
pub record Apart (arrays below : List Array) (mine : List Meaning) : Type 0 where
  pub own : List Array
  pub arrays_are : arrays ≡ below ++ own
  pub mine_is : mine ≡ map Means own

pub arrays_apart : (arrays below : List Array) (mine : List Meaning) → map Means arrays ≡ map Means below ++ mine → Apart arrays below mine
arrays_apart arrays [] mine e = record { own = arrays; arrays_are = refl; mine_is = sym e }
arrays_apart [] (b ∷ below) mine e = absurd cc
arrays_apart (a ∷ arrays) (b ∷ below) mine e =
    let same : a ≡ b = cc in
    let others : map Means arrays ≡ map Means below ++ mine = cc in
    let s = arrays_apart arrays below mine others in
    record { own = s.own; arrays_are = ap (λ x. x ∷ arrays) same ∙ ap (λ xs. b ∷ xs) s.arrays_are; mine_is = s.mine_is }

-- the oldest fault lies above the arrays below
pub record FaultApart (place : Place) (younger mine : List Meaning) : Type 0 where
  pub own : List Array
  pub mine_is : mine ≡ map Means own ++ Faults place ∷ younger

pub fault_apart : (arrays below : List Array) (mine : List Meaning) (place : Place) (younger : List Meaning)
    → map Means arrays ++ Faults place ∷ younger ≡ map Means below ++ mine → FaultApart place younger mine
fault_apart arrays [] mine place younger e = record { own = arrays; mine_is = sym e }
fault_apart [] (b ∷ below) mine place younger e = absurd cc
fault_apart (a ∷ arrays) (b ∷ below) mine place younger e =
    let others : map Means arrays ++ Faults place ∷ younger ≡ map Means below ++ mine = cc in
    let s = fault_apart arrays below mine place younger others in
    record { own = s.own; mine_is = s.mine_is }

-- ---- what an instruction needs and leaves

-- an instruction needs so many entries, and leaves so many in their place
abbrev pub Counts : Op → ℕ → ℕ → Type 0
Counts what takes gives =
    (found next : Operands) (mine : List Meaning) → IsAsMany found mine → after what found ≡ Some next
    → (takes ≤ length mine) × ((left : List Meaning) → length left + takes ≡ length mine + gives → IsAsMany next left)

-- as many entries as pending are on the stack
pub as_many_pending : (m : Machine) (below : List Array) (mine : List Meaning) → pending m ≡ map Means below ++ mine
    → length m.stack ≡ length below + length mine
as_many_pending m below mine e =
    sym (length-map m.stack (entry m.store)) ∙ ap length e ∙ length-append (map Means below) mine ∙ ap (λ n. n + length mine) (length-map below Means)

-- ---- where evaluation stands

-- after an end
ended_stands : (m : Machine) (o : Outcome State Flow) (younger : List Meaning) → StandsAt m (stand_on (ended o) younger)
ended_stands m o [] = tt
ended_stands m o (Means a ∷ younger) = ended_stands m o younger
ended_stands m o (Faults p ∷ younger) = ended_stands m o younger

-- younger entries change no variables
pub still_stands : (m : Machine) (younger : List Meaning) (vs : List Array) (to : Flow) (s : State) → s.variables ≡ variables m
    → StandsAt m (stand_on (going vs to s) younger)
still_stands m [] vs to s e = e
still_stands m (Means a ∷ younger) vs to s e = still_stands m younger (a ∷ vs) to s e
still_stands m (Faults p ∷ younger) vs to s e = ended_stands m (fails error.Domain p s) younger

-- arrays are values pending
pub values_on : (front : List Meaning) (own : List Array) (to : Flow) (s : State) → front ≡ map Means own
    → stand_on (going [] to s) front ≡ going (reverse own) to s
values_on front own to s e = ap (λ (ms : List Meaning). stand_on (going [] to s) ms) e ∙ arrays_are_pending own to s

-- ---- steps

pub changes : (i : Instruction) (old new : Machine) (takes gives : ℕ) → Counts i.op takes gives → StepsAt old i takes gives (pending old) (pending new)
    → (below : List Array) (mine : List Meaning) (next : Operands) → IsBefore i.op (pending old) below mine next → Changes i old new below mine next
changes i old new takes gives counts step below mine next b =
    let counted = counts b.found next mine b.many b.leaves in
    let s = split step.older step.taken (map Means below) mine (sym step.was ∙ b.all) (omega (arith, counted.0, step.operands)) in
    let lengths : length mine ≡ length s.front + length step.taken = ap length s.mine_is ∙ length-append s.front step.taken in
    record {
      left = s.front ++ step.given;
      all = step.is ∙ ap (λ (xs : List Meaning). xs ++ step.given) s.older_is ∙ append_assoc (map Means below) s.front step.given;
      many = counted.1 (s.front ++ step.given) (omega (arith, lengths, length-append s.front step.given, step.operands, step.values));
      goes = λ calls to v same rest.
          let z : Stand = stand_on (going [] to v) s.front in
          ap (λ (ms : List Meaning). runs_from (of_arrays calls) (i ∷ rest) (stand_on (going [] to v) ms)) s.mine_is
          ∙ ap (λ (x : Stand). runs_from (of_arrays calls) (i ∷ rest) x) (older_then_younger (going [] to v) s.front step.taken)
          ∙ step.step calls z (still_stands old s.front [] to v same) rest
          ∙ sym (ap (λ (x : Stand). runs_from (of_arrays calls) rest x) (older_then_younger (going [] to v) s.front step.given));
    }

-- where evaluation has the variables of the machine, it has its origin
origin_there : (m : Machine) (z : Stand) → StandsAt m z → HasOrigin m.origin z
origin_there m (going vs to s) at = ap (λ (e : Environment Array). e.origin) at
origin_there m (ended o) at = tt

-- a step that asks for the origin is one that may look at each variable
pub steps_from_at : (m : Machine) (i : Instruction) (takes gives : ℕ) (before after : List Meaning) → StepsFrom m.origin i takes gives before after
    → StepsAt m i takes gives before after
steps_from_at m i takes gives before after step = record {
  older = step.older;
  taken = step.taken;
  given = step.given;
  was = step.was;
  is = step.is;
  operands = step.operands;
  values = step.values;
  step = λ calls z at. step.step calls z (origin_there m z at);
}

-- a step that looks at no variable is one that may
pub steps_at : (m : Machine) (i : Instruction) (takes gives : ℕ) (before after : List Meaning) → Steps i takes gives before after
    → StepsAt m i takes gives before after
steps_at m i takes gives before after step = record {
  older = step.older;
  taken = step.taken;
  given = step.given;
  was = step.was;
  is = step.is;
  operands = step.operands;
  values = step.values;
  step = λ calls z _. step.step calls z;
}

-- ---- errors

-- where evaluation ended at the oldest fault
pub faulted : (i : Instruction) (m : Machine) (place : Place) → FaultsFirst (pending m) place → IsHaltedBefore i m (halt.Error error.Domain place)
faulted i m place f below mine next b calls to s same rest =
    let apart = fault_apart f.arrays below mine place f.younger (sym f.is ∙ b.all) in
    ap (λ (z : Stand). runs_from (of_arrays calls) (i ∷ rest) z)
    (ap (λ (ms : List Meaning). stand_on (going [] to s) ms) apart.mine_is ∙ oldest_fault_ends apart.own place f.younger to s)

pub not_computed : (i : Instruction) (m : Machine) (h : Halt) → IsNotComputed m.store.limit (pending m) h → IsHaltedBefore i m h
not_computed i m (halt.Error kind place) n = subst (λ (k : ErrorKind). IsHaltedBefore i m (halt.Error k place)) (sym n.0) (faulted i m place n.1)
not_computed i m (halt.WsFull live asked) n = n
not_computed i m halt.NoMemory n = tt

-- where all entries mean arrays, the instruction's own error
refused_at : (i : Instruction) (m : Machine) (kind : ErrorKind) (place : Place) → RefusesAt m i (pending m) kind place
    → IsHaltedBefore i m (halt.Error kind place)
refused_at i m kind place r below mine next b calls to s same rest =
    let apart = arrays_apart r.arrays below mine (sym r.are ∙ b.all) in
    ap (λ (z : Stand). runs_from (of_arrays calls) (i ∷ rest) z) (values_on mine apart.own to s apart.mine_is)
    ∙ r.ends calls (reverse apart.own) to s same rest

pub halted_at : (i : Instruction) (m : Machine) (h : Halt) → IsHaltedAt m i (pending m) h → IsHaltedBefore i m h
halted_at i m (halt.Error kind place) (inl n) = not_computed i m (halt.Error kind place) n
halted_at i m (halt.Error kind place) (inr r) = refused_at i m kind place r
halted_at i m (halt.WsFull live asked) n = n
halted_at i m halt.NoMemory n = tt

-- the instruction's own error, where it asks for the origin
refused_from : (i : Instruction) (m : Machine) (takes gives : ℕ) (kind : ErrorKind) (place : Place) → Counts i.op takes gives
    → RefusesFrom m.origin i takes (pending m) kind place → IsHaltedBefore i m (halt.Error kind place)
refused_from i m takes gives kind place counts r below mine next b calls to s same rest =
    let counted = counts b.found next mine b.many b.leaves in
    let taken : List Meaning = map Means r.operands in
    let few : length taken ≤ length mine = omega (arith, counted.0, r.number, length-map r.operands Means) in
    let parts = split (map Means r.older) taken (map Means below) mine (sym r.are ∙ b.all) few in
    let apart = arrays_apart r.older below parts.front parts.older_is in
    ap (λ (ms : List Meaning). runs_from (of_arrays calls) (i ∷ rest) (stand_on (going [] to s) ms)) parts.mine_is
    ∙ ap (λ (z : Stand). runs_from (of_arrays calls) (i ∷ rest) z) (older_then_younger (going [] to s) parts.front taken)
    ∙ ap (λ (z : Stand). runs_from (of_arrays calls) (i ∷ rest) (stand_on z taken)) (values_on parts.front apart.own to s apart.mine_is)
    ∙ r.ends calls (reverse apart.own) to s (ap (λ (e : Environment Array). e.origin) same) rest

pub halted_from : (i : Instruction) (m : Machine) (takes gives : ℕ) (h : Halt) → Counts i.op takes gives
    → IsHaltedFrom m.origin i takes m.store.limit (pending m) h → IsHaltedBefore i m h
halted_from i m takes gives (halt.Error kind place) counts (inl n) = not_computed i m (halt.Error kind place) n
halted_from i m takes gives (halt.Error kind place) counts (inr r) = refused_from i m takes gives kind place counts r
halted_from i m takes gives (halt.WsFull live asked) counts n = n
halted_from i m takes gives halt.NoMemory counts n = tt

-- an error that asks for no origin is one at any
at_any_origin : (origin : ℤ) (i : Instruction) (takes limit : ℕ) (there : List Meaning) (h : Halt) → IsHalted i takes limit there h
    → IsHaltedFrom origin i takes limit there h
at_any_origin origin i takes limit there (halt.Error kind place) (inl n) = inl n
at_any_origin origin i takes limit there (halt.Error kind place) (inr r) =
    inr (record { older = r.older; operands = r.operands; are = r.are; number = r.number; ends = λ calls vs to s _. r.ends calls vs to s })
at_any_origin origin i takes limit there (halt.WsFull live asked) n = n
at_any_origin origin i takes limit there halt.NoMemory n = tt

pub halted : (i : Instruction) (m : Machine) (takes gives : ℕ) (h : Halt) → Counts i.op takes gives → IsHalted i takes m.store.limit (pending m) h
    → IsHaltedBefore i m h
halted i m takes gives h counts n = halted_from i m takes gives h counts (at_any_origin m.origin i takes m.store.limit (pending m) h n)
