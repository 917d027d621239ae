-- Instructions that change entries alone, by the steps of the machine.
use Rattle.std.proofs.Common.{◌≡◌, ◌⊎◌, inl, inr, ℕ, ℤ, pos, List, Ok, Err, refl, sym, ap, subst, OnOk, ◌≤◌, length, arith}
use Rattle.std.specs.Prelude.{Result, IfErr}
use mir.Syntax.{w128}
use mir.Val.{to_z, of_z}
use Rattle.apl_base.specs.declared.faults.Place.{Place}
use Rattle.apl_model.specs.declared.trees.Literal.{Literal}
use Rattle.apl_compile.specs.declared.codes.Instruction.{Instruction}
use Rattle.apl_compile.specs.declared.codes.Op.{Op}
use Rattle.apl_compile.specs.declared.codes.Op.TheVariants as op
use Rattle.pending_steps.specs.declared.halts.Halt.{Halt}
use Rattle.array_store.specs.Follows.{none}
use Rattle.pending_steps.specs.Steps.{Steps, IsHalted, Moves, Reaches}
use Rattle.leaf_steps.specs.Origins.{StepsFrom, IsHaltedFrom}
use Rattle.machine_state.specs.declared.machines.Machine.{Machine}
use Rattle.machine_state.specs.Steps.{pending, StepsAt, IsHaltedAt, IsSameRun, Keeps}
use Rattle.machine_state.proofs.KeepsLemmas.{keeps, reaches_so}
use Rattle.entry_steps.specs.Changing.{IsReady, ChangesAll, IsHaltedBefore, ChangesOrHalts}
use Rattle.entry_steps.proofs.EntryLemmas.{Counts, as_many_pending, changes, steps_at, steps_from_at, halted, halted_from, halted_at}
use Rattle.entry_steps.proofs.CountLemmas.{counts_literal, counts_name}

pub on_ok_so : {A E : Type 0} (r : Result A E) (P Q : Type 0) → (P → Q) → OnOk r P → OnOk r Q
on_ok_so (Ok a) P Q so p = so p
on_ok_so (Err e) P Q so p = tt

pub if_err_so : {A E : Type 0} (r : Result A E) (P Q : E → Type 0) → ((e : E) → P e → Q e) → IfErr r P → IfErr r Q
if_err_so (Ok a) P Q so p = tt
if_err_so (Err e) P Q so p = so e p

-- an instruction is its place and what it does
pub at_op : (P : Instruction → Type 0) (i : Instruction) (what : Op) → i.op ≡ what → P (record { place = i.place; op = what }) → P i
at_op P i what e p = subst P (ap (λ (o : Op). record { place = i.place; op = o }) (sym e)) p

pub steps_change : (i : Instruction) (old new : Machine) (takes gives : ℕ) → Counts i.op takes gives → Steps i takes gives (pending old) (pending new)
    → ChangesAll i old new
steps_change i old new takes gives counts step = changes i old new takes gives counts (steps_at old i takes gives (pending old) (pending new) step)

pub at_op_changed : (i : Instruction) (what : Op) (old new : Machine) (result : Result (Unit {0}) Halt) → i.op ≡ what
    → ChangesOrHalts (record { place = i.place; op = what }) old new result → ChangesOrHalts i old new result
at_op_changed i what old new result e r = at_op (λ (j : Instruction). ChangesOrHalts j old new result) i what e r

-- a step on entries with the origin of the machine
pub changed : (i : Instruction) (takes : ℕ) (old new : Machine) (result : Result (Unit {0}) Halt) → Counts i.op takes 1 → (origin : ℤ) → origin ≡ old.origin
    → IsSameRun old new
    → OnOk result (StepsFrom origin i takes 1 (pending old) (pending new)) → Reaches result (Moves old.store new.store old.stack new.stack none none)
    → IfErr result (IsHaltedFrom origin i takes old.store.limit (pending old)) → ChangesOrHalts i old new result
changed i takes old new result counts origin at same step moves halts = record {
  changes = on_ok_so result _ (ChangesAll i old new)
      (λ (s : StepsFrom origin i takes 1 (pending old) (pending new)). changes i old new takes 1 counts
      (steps_from_at old i takes 1 (pending old) (pending new) (subst (λ (o : ℤ). StepsFrom o i takes 1 (pending old) (pending new)) at s))) step;
  keeps = reaches_so result _ (Keeps old new) (keeps old new same.names same.origin) moves;
  halted = if_err_so result _ (IsHaltedBefore i old)
      (λ (h : Halt) (n : IsHaltedFrom origin i takes old.store.limit (pending old) h). halted_from i old takes 1 h counts
      (subst (λ (o : ℤ). IsHaltedFrom o i takes old.store.limit (pending old) h) at n)) halts;
  run = same;
}

-- a scalar function, which asks for no origin
pub changed_scalar : (i : Instruction) (what : Op) (takes : ℕ) (old new : Machine) (result : Result (Unit {0}) Halt) → i.op ≡ what → Counts what takes 1
    → IsSameRun old new
    → OnOk result (Steps (record { place = i.place; op = what }) takes 1 (pending old) (pending new)) → Reaches result (Keeps old new)
    → IfErr result (IsHalted (record { place = i.place; op = what }) takes old.store.limit (pending old)) → ChangesOrHalts i old new result
changed_scalar i what takes old new result e counts same step keeps halts =
    let own : Instruction = record { place = i.place; op = what } in
    at_op (λ (j : Instruction). ChangesOrHalts j old new result) i what e
    (record {
      changes = on_ok_so result _ (ChangesAll own old new) (steps_change own old new takes 1 counts) step;
      keeps = keeps;
      halted = if_err_so result _ (IsHaltedBefore own old) (λ (h : Halt) (n : IsHalted own takes old.store.limit (pending old) h). halted own old takes 1 h counts n) halts;
      run = same;
    })

pub literal_changes : (i : Instruction) (l : Literal) (old new : Machine) → i.op ≡ op.Lit l
    → ((place : Place) → Steps (record { place = place; op = op.Lit l }) 0 1 (pending old) (pending new)) → ChangesAll i old new
literal_changes i l old new e step =
    at_op (λ (j : Instruction). ChangesAll j old new) i (op.Lit l) e (steps_change (record { place = i.place; op = op.Lit l }) old new 0 1 (counts_literal l) (step i.place))

pub name_changes : (i : Instruction) (name : List ℕ) (old new : Machine) → i.op ≡ op.Name name
    → StepsAt old (record { place = i.place; op = op.Name name }) 0 1 (pending old) (pending new) → ChangesAll i old new
name_changes i name old new e step =
    at_op (λ (j : Instruction). ChangesAll j old new) i (op.Name name) e (changes (record { place = i.place; op = op.Name name }) old new 0 1 (counts_name name) step)

pub name_halted : (i : Instruction) (name : List ℕ) (m : Machine) (h : Halt) → i.op ≡ op.Name name
    → IsHaltedAt m (record { place = i.place; op = op.Name name }) (pending m) h → IsHaltedBefore i m h
name_halted i name m h e n = at_op (λ (j : Instruction). IsHaltedBefore j m h) i (op.Name name) e (halted_at (record { place = i.place; op = op.Name name }) m h n)

-- the origin as a word is the origin
pub origin_word : (o : ℤ) → (o ≡ pos 0) ⊎ (o ≡ pos 1) → to_z w128 (of_z w128 o) ≡ o
origin_word o (inl e) = subst (λ (z : ℤ). to_z w128 (of_z w128 z) ≡ z) (sym e) refl
origin_word o (inr e) = subst (λ (z : ℤ). to_z w128 (of_z w128 z) ≡ z) (sym e) refl

-- as many entries are there as an instruction needs
pub enough : (m : Machine) (base takes gives : ℕ) (what : Op) → Counts what takes gives → IsReady what base (pending m) → takes ≤ length m.stack
enough m base takes gives what counts r =
    let counted = counts r.before.found r.next r.mine r.before.many r.before.leaves in
    omega (arith, counted.0, as_many_pending m r.below r.mine r.before.all)

pub enough_at : (i : Instruction) (what : Op) (m : Machine) (takes gives : ℕ) → i.op ≡ what → Counts what takes gives
    → (base : ℕ) × IsReady i.op base (pending m) → takes ≤ length m.stack
enough_at i what m takes gives e counts r =
    let there : IsReady what r.0 (pending m) = subst (λ (o : Op). IsReady o r.0 (pending m)) e r.1 in
    enough m r.0 takes gives what counts there
