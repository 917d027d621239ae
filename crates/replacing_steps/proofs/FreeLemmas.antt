-- What is known of a machine between the steps of an indexed assignment.
use Rattle.std.proofs.Common.{◌≡◌, ◌⊎◌, inl, inr, ℕ, zero, suc, ◌+◌, ◌-◌, ◌<◌, ◌≤◌, ℤ, pos, Bool, List, [], ◌∷◌, length, Option, Some, None, Ok, Err, refl, sym, ap, subst, ◌∙◌, arith}
use Rattle.std.specs.Prelude.{slice_get, IfErr, IsSome, Result}
use Rattle.std.proofs.lemmas.List.{length-map}
use Rattle.apl_base.specs.declared.faults.ErrorKind.{ErrorKind}
use Rattle.apl_base.specs.declared.faults.ErrorKind.TheVariants as error
use Rattle.apl_base.specs.Array.{Array}
use Rattle.array_store.specs.declared.ids.BeginFault.TheVariants as begin
use Rattle.array_store.specs.Stores.{StoreView, holders_of, data_at}
use Rattle.array_store.specs.Counting.{OnlyCounted}
use Rattle.array_store.specs.Follows.{LeafCounts, Follows, Holds, both, none}
use Rattle.drag_along.specs.declared.leaves.Leaf.{Leaf}
use Rattle.drag_along.specs.Lawful.{IsLawfulLeaf}
use Rattle.drag_along.specs.Segments.{SegmentView}
use Rattle.drag_along.specs.Meaning.{Meaning, entry}
use Rattle.value_stack.specs.Stacks.{named_on, entries, MayFail, IsLeastOrNone, IsLawfulStack}
use Rattle.value_stack.proofs.EntriesLemmas.{entry_is_lawful}
use Rattle.apl_model.specs.Environment.{Environment, look_up}
use Rattle.apl_model.specs.Evaluation.{replace_in}
use Rattle.apl_model.specs.Subscript.{replacement}
use Rattle.leaf_names.specs.Variables.{named_by_names, array_of, variables_of}
use Rattle.alias_force.specs.Desk.{IsLawfulDesk}
use Rattle.alias_force.specs.Writing.{reads, KeepsLeaf, GetsCopy, IsNotWritable}
use Rattle.alias_force.proofs.SafeLemmas.{safe_means}
use Rattle.made_picks.specs.Picks.{positions_of}
use Rattle.pending_steps.specs.declared.halts.Halt.{Halt}
use Rattle.pending_steps.specs.declared.halts.Halt.TheVariants as halt
use Rattle.pending_steps.specs.Shapes.{AreFewer}
use Rattle.pending_steps.specs.Steps.{Moves, OnError}
use Rattle.pending_steps.proofs.FewerLemmas.{moved_fewer}
use Rattle.indexing_steps.specs.Operands.{positions_in, IsLeafEntry, ArePositions}
use Rattle.indexing_steps.proofs.FallLemmas.{counted_kept}
use Rattle.indexing_steps.proofs.OperandLemmas.{leaf_lawful}
use Rattle.machine_state.specs.declared.machines.Machine.{Machine}
use Rattle.machine_state.specs.StandsFor.{IsLawfulMachine, variables}
use Rattle.machine_state.specs.Steps.{pending, Keeps}
use Rattle.machine_state.proofs.KeepsLemmas.{keeps}
use Rattle.machine_state.proofs.NameLemmas.{found_value}
use Rattle.replacing_steps.specs.Checks.{CanReplace}
use Rattle.replacing_steps.specs.Replaces.{AreReplacing, IsToWrite, RefusesReplace}
use Rattle.replacing_steps.proofs.MachineLemmas.{replacing_are, to_write_kept, refuses_kept}

-- ---- steps one after the other

pub on_error_then : (r : Result (Unit {0}) Halt) (P Q : Type 0) → (P → Q) → OnError r P → OnError r Q
on_error_then (Ok done) P Q f h = tt
on_error_then (Err (halt.Error kind place)) P Q f h = f h
on_error_then (Err (halt.WsFull live asked)) P Q f h = tt
on_error_then (Err halt.NoMemory) P Q f h = tt

-- all leaves that names and entries have are held
pub all_held : (m : Machine) (hand : LeafCounts) → IsLawfulMachine m hand → Holds m.store (both (named_on m.stack) (named_by_names m.names))
all_held m hand l = λ key. omega (arith, l.desk.held key)

pub entries_held : (m : Machine) (hand : LeafCounts) → IsLawfulMachine m hand → Holds m.store (named_on m.stack)
entries_held m hand l = λ key. omega (arith, l.desk.held key)

-- ---- a store that only counted

counted_follows : (s t : StoreView) (leaves : LeafCounts) → OnlyCounted s t → Follows s t leaves leaves
counted_follows s t leaves only = record {
  holders = λ key. ap (λ (x : StoreView). holders_of x key + leaves key) only;
  kept = λ key held. ap (λ (x : StoreView). data_at x key) only;
  limit = ap (λ (x : StoreView). x.limit) only;
}

pub counted_moves : (s t : StoreView) (stack : List SegmentView) → OnlyCounted s t → IsLawfulStack s stack → Holds s (named_on stack) → Moves s t stack stack none none
counted_moves s t stack only lawful held = record {
  lawful = (counted_kept s t stack only lawful held).0;
  follows = counted_follows s t (both (named_on stack) none) only;
}

pub counted_keeps : (m0 m1 : Machine) (hand : LeafCounts) → m1.names ≡ m0.names → m1.stack ≡ m0.stack → m1.origin ≡ m0.origin → OnlyCounted m0.store m1.store → IsLawfulMachine m0 hand → Keeps m0 m1
counted_keeps m0 m1 hand names stack origin only l =
    keeps m0 m1 names origin (subst (λ (x : List SegmentView). Moves m0.store m1.store m0.stack x none none) (sym stack) (counted_moves m0.store m1.store m0.stack only l.desk.entries (entries_held m0 hand l)))

pub counted_pending : (m0 m1 : Machine) (hand : LeafCounts) → m1.stack ≡ m0.stack → OnlyCounted m0.store m1.store → IsLawfulMachine m0 hand → pending m1 ≡ pending m0
counted_pending m0 m1 hand stack only l = ap (entries m1.store) stack ∙ (counted_kept m0.store m1.store m0.stack only l.desk.entries (entries_held m0 hand l)).1

-- ---- operands

has_at : (xs : List SegmentView) (k : ℕ) → k < length xs → (s : SegmentView) × (slice_get xs k ≡ Some s)
has_at [] k h = absurd (omega (arith, h))
has_at (x ∷ xs) zero h = (x, refl)
has_at (x ∷ xs) (suc k) h = has_at xs k (omega (arith, h))

-- the leaf of an entry is lawful
pub leaf_at_lawful : (store : StoreView) (stack : List SegmentView) (at : ℕ) (leaf : Leaf) → at < length stack → IsLawfulStack store stack → ((s : SegmentView) → slice_get stack at ≡ Some s → IsLeafEntry s leaf) → IsLawfulLeaf store leaf
leaf_at_lawful store stack at leaf below lawful is =
    let there = has_at stack at below in
    leaf_lawful store there.0 leaf (is there.0 there.1) (entry_is_lawful store stack at there.0 lawful there.1)

-- the positions and the value, where no entry may fail
pub operands_there : (m : Machine) (mask : List Bool) (end at : ℕ) (leaves : List (Option Leaf)) (value : Leaf) (hand : LeafCounts) → IsLawfulMachine m hand → IsLeastOrNone MayFail m.stack 0 None → 1 + positions_in mask ≤ length m.stack
    → end ≡ length m.stack → at ≡ end - 1 - positions_in mask → ArePositions mask m.stack end leaves → ((s : SegmentView) → slice_get m.stack at ≡ Some s → IsLeafEntry s value)
    → AreReplacing mask (pending m) (array_of m.store value) (positions_of m.store leaves)
operands_there m mask end at leaves value hand l safe many is place p one =
    let all = safe_means m.store m.stack l.desk.entries safe in
    let here : at ≡ length m.stack - 1 - positions_in mask = place ∙ ap (λ (n : ℕ). n - 1 - positions_in mask) is in
    replacing_are m.store mask m.stack leaves value (subst (λ (n : ℕ). ArePositions mask m.stack n leaves) is p) many
    (λ s found. one s (ap (slice_get m.stack) here ∙ found)) all.0 all.1

-- ---- what the checks find

pub shape_found : (m0 m1 : Machine) (name : List ℕ) (mask : List Bool) (ns : List ℕ) (array value : Leaf) (positions : List (Option Leaf)) (hand : LeafCounts) → IsLawfulMachine m0 hand → look_up m0.names name ≡ Some array
    → AreReplacing mask (pending m0) (array_of m0.store value) (positions_of m0.store positions) → CanReplace m0.origin (array_of m0.store array) (positions_of m0.store positions) (array_of m0.store value) ns
    → Keeps m0 m1 → pending m1 ≡ pending m0 → IsToWrite m1 name mask ns
shape_found m0 m1 name mask ns array value positions hand l found are can k p = to_write_kept m0 m1 name mask ns (k.variables hand l) p (record {
  value = array_of m0.store value;
  ps = positions_of m0.store positions;
  operands = are;
  array = array_of m0.store array;
  bound = found_value m0 name (Some array) found;
  can = can;
})

pub refused_found : (m0 m1 : Machine) (name : List ℕ) (mask : List Bool) (kind : ErrorKind) (array value : Leaf) (positions : List (Option Leaf)) (hand : LeafCounts) → IsLawfulMachine m0 hand → look_up m0.names name ≡ Some array
    → AreReplacing mask (pending m0) (array_of m0.store value) (positions_of m0.store positions) → replacement m0.origin (array_of m0.store array) (positions_of m0.store positions) (array_of m0.store value) ≡ Err kind
    → Keeps m0 m1 → pending m1 ≡ pending m0 → RefusesReplace m1 name mask kind
refused_found m0 m1 name mask kind array value positions hand l found are e k p = refuses_kept m0 m1 name mask kind (k.variables hand l) p (record {
  value = array_of m0.store value;
  ps = positions_of m0.store positions;
  operands = are;
  answer = ap (λ (a : Option Array). replace_in m0.origin a (positions_of m0.store positions) (array_of m0.store value)) (found_value m0 name (Some array) found) ∙ e;
})

pub unset_found : (m : Machine) (name : List ℕ) (mask : List Bool) (value : Leaf) (positions : List (Option Leaf)) → look_up m.names name ≡ None → AreReplacing mask (pending m) (array_of m.store value) (positions_of m.store positions) → RefusesReplace m name mask error.Value
unset_found m name mask value positions found are = record {
  value = array_of m.store value;
  ps = positions_of m.store positions;
  operands = are;
  answer = ap (λ (a : Option Array). replace_in m.origin a (positions_of m.store positions) (array_of m.store value)) (found_value m name None found);
}

-- the checks passed, so the name is set
pub set_to_write : (m : Machine) (name : List ℕ) (mask : List Bool) (ns : List ℕ) → IsToWrite m name mask ns → IsSome (look_up m.names name)
set_to_write m name mask ns t = by (look_up m.names name) refl
  where
    by : (o : Option Leaf) → look_up m.names name ≡ o → IsSome o
    by None e = absurd (let none : None ≡ Some t.array = sym (found_value m name None e) ∙ t.bound in cc)
    by (Some leaf) e = refl

-- ---- a name that is free to be written

pub freed_keeps : (m0 m1 : Machine) → m1.origin ≡ m0.origin → ((hand : LeafCounts) → IsLawfulDesk m0.store m0.names m0.stack hand → IsLawfulDesk m1.store m1.names m1.stack hand)
    → ((o : ℤ) → variables_of m1.store o m1.names ≡ variables_of m0.store o m0.names) → m1.store.limit ≡ m0.store.limit → Keeps m0 m1
freed_keeps m0 m1 origin desk vars limit = record {
  lawful = λ hand l. record { desk = desk hand l.desk; origin = subst (λ (o : ℤ). (o ≡ pos 0) ⊎ (o ≡ pos 1)) (sym origin) l.origin };
  variables = λ hand l. ap (λ (o : ℤ). variables_of m1.store o m1.names) origin ∙ vars m0.origin;
  limit = limit;
}

pub record IsSet (names : Environment Leaf) (name : List ℕ) : Type 0 where
  pub leaf : Leaf
  pub bound : look_up names name ≡ Some leaf

pub is_set : (names : Environment Leaf) (name : List ℕ) → IsSome (look_up names name) → IsSet names name
is_set names name some = by (look_up names name) refl some
  where
    by : (o : Option Leaf) → look_up names name ≡ o → IsSome o → IsSet names name
    by None e h = absurd cc
    by (Some leaf) e h = record { leaf = leaf; bound = e }

-- no entry has more functions
pub freed_fewer : (old new : StoreView) (names after : Environment Leaf) (before stack : List SegmentView) (name : List ℕ) (leaf : Leaf) (key : ℕ)
    → KeepsLeaf old new names after before stack leaf key ⊎ GetsCopy old new names after before stack name leaf key → AreFewer before stack
freed_fewer old new names after before stack name leaf key (inl k) = moved_fewer (reads leaf) new before stack k.clears.moved
freed_fewer old new names after before stack name leaf key (inr g) = moved_fewer (reads leaf) new before stack g.moved

-- so many entries are there that mean the same
pub same_long : (s t : StoreView) (xs ys : List SegmentView) → entries t ys ≡ entries s xs → length ys ≡ length xs
same_long s t xs ys e = sym (length-map ys (entry t)) ∙ ap (λ (ms : List Meaning). length ms) e ∙ length-map xs (entry s)

-- there was no room
pub not_freed : (old new : StoreView) (before after : List SegmentView) (leaf : Leaf) (live asked : ℕ) → new.limit ≡ old.limit → IsNotWritable old new before after leaf (begin.WsFull live asked) → old.limit < live + asked
not_freed old new before after leaf live asked limit (inl s) = omega (arith, s.refused.live, s.refused.asked, s.refused.full, limit)
not_freed old new before after leaf live asked limit (inr s) = omega (arith, s.refused.live, s.refused.asked, s.refused.full, limit)

-- what is so of an error that is this one
pub err_is : {A E : Type 0} (r : Result A E) (e : E) (Q : E → Type 0) → IfErr r Q → r ≡ Err e → Q e
err_is (Ok a) e Q h is = absurd cc
err_is (Err x) e Q h is =
    let same : x ≡ e = cc in
    subst Q same h
