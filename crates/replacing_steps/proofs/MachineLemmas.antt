-- An indexed assignment, put together.
use Rattle.std.proofs.Common.{◌≡◌, inl, inr, ℕ, ℤ, ◌+◌, ◌-◌, ◌<◌, ◌≤◌, Bool, List, [], ◌∷◌, ◌++◌, length, map, Option, Some, refl, sym, ap, subst, ◌∙◌, arith, append_assoc}
use Rattle.std.specs.Prelude.{reverse, slice_get}
use Rattle.std.proofs.lemmas.List.{append-nil, map-append, length-append, length-map, length-reverse, reverse-reverse}
use Rattle.apl_base.specs.Array.{Array}
use Rattle.array_store.specs.Stores.{StoreView}
use Rattle.array_store.specs.Follows.{LeafCounts}
use Rattle.drag_along.specs.declared.leaves.Leaf.{Leaf}
use Rattle.drag_along.specs.Segments.{SegmentView}
use Rattle.drag_along.specs.Meaning.{Meaning, Means, entry}
use Rattle.value_stack.specs.Stacks.{entries}
use Rattle.apl_model.specs.Environment.{Environment, look_up, set_name}
use Rattle.apl_model.specs.Evaluation.{replace_in}
use Rattle.leaf_names.specs.Variables.{array_of}
use Rattle.indexing_steps.specs.Operands.{positions_in, spread, IsLeafEntry, ArePositions, arrays_of}
use Rattle.indexing_steps.specs.Falls.{Drops}
use Rattle.drag_along.proofs.OneLeafLemmas.{one_leaf_means}
use Rattle.indexing_steps.proofs.MaskLemmas.{spread-map}
use Rattle.indexing_steps.proofs.FallLemmas.{HasNewest, has_newest}
use Rattle.indexing_steps.proofs.OperandLemmas.{there_means, map_reverse, all_long}
use Rattle.indexing_steps.proofs.AnswerLemmas.{first_part, second_part}
use Rattle.machine_state.specs.declared.machines.Machine.{Machine}
use Rattle.machine_state.specs.StandsFor.{IsLawfulMachine, variables}
use Rattle.machine_state.specs.Steps.{pending, Keeps}
use Rattle.apl_base.specs.declared.faults.ErrorKind.{ErrorKind}
use Rattle.apl_base.specs.declared.faults.Place.{Place}
use Rattle.pending_steps.specs.declared.halts.Halt.{Halt}
use Rattle.pending_steps.specs.declared.halts.Halt.TheVariants as halt
use Rattle.pending_steps.specs.Leaves.{IsStopped}
use Rattle.pending_steps.specs.Steps.{IsNotComputed}
use Rattle.replacing_steps.specs.Checks.{CanReplace}
use Rattle.replacing_steps.specs.Replaces.{AreReplacing, Replaces, IsToWrite, WritesPlaces, RefusesReplace, IsReplaceHalted}
use Rattle.value_stack.proofs.NewestLemmas.{entries_end, get-behind}

abbrev mean : Array → Meaning
mean a = Means a

-- ---- lists

same_arrays : (xs ys : List Array) → map mean xs ≡ map mean ys → xs ≡ ys
same_arrays [] [] e = refl
same_arrays [] (y ∷ ys) e = absurd cc
same_arrays (x ∷ xs) [] e = absurd cc
same_arrays (x ∷ xs) (y ∷ ys) e =
    let head : x ≡ y = cc in
    let tail : map mean xs ≡ map mean ys = cc in
    ap (λ (z : Array). z ∷ xs) head ∙ ap (λ (l : List Array). y ∷ l) (same_arrays xs ys tail)

-- ---- the operands, which are there in one way only

pub record IsSame (v w : Array) (ps qs : List (Option Array)) : Type 0 where
  pub value : v ≡ w
  pub positions : ps ≡ qs

pub one_way : (mask : List Bool) (pend : List Meaning) (v w : Array) (ps qs : List (Option Array)) → AreReplacing mask pend v ps → AreReplacing mask pend w qs → IsSame v w ps qs
one_way mask pend v w ps qs x y =
    let long : length (map mean (reverse x.there)) ≡ length (map mean (reverse y.there)) =
    omega (arith, length-map (reverse x.there) mean, length-map (reverse y.there) mean, length-reverse x.there, length-reverse y.there, x.number, y.number) in
    let both_are : (map mean x.older ++ mean v ∷ []) ++ map mean (reverse x.there) ≡ (map mean y.older ++ mean w ∷ []) ++ map mean (reverse y.there) = sym x.are ∙ y.are in
    let young : reverse x.there ≡ reverse y.there = same_arrays (reverse x.there) (reverse y.there) (second_part (map mean x.older ++ mean v ∷ []) (map mean y.older ++ mean w ∷ []) (map mean (reverse x.there)) (map mean (reverse y.there)) both_are long) in
    let there : x.there ≡ y.there = sym (reverse-reverse x.there) ∙ ap (λ (l : List Array). reverse l) young ∙ reverse-reverse y.there in
    let old : map mean x.older ++ mean v ∷ [] ≡ map mean y.older ++ mean w ∷ [] = first_part (map mean x.older ++ mean v ∷ []) (map mean y.older ++ mean w ∷ []) (map mean (reverse x.there)) (map mean (reverse y.there)) both_are long in
    let last : mean v ∷ [] ≡ mean w ∷ [] = second_part (map mean x.older) (map mean y.older) (mean v ∷ []) (mean w ∷ []) old refl in
    record {
      value = cc;
      positions = x.positions ∙ ap (spread mask) there ∙ sym y.positions;
    }

-- an entry below the positions
nothing : (xs : List SegmentView) → length xs ≡ 0 → xs ≡ []
nothing [] h = refl
nothing (x ∷ xs) h = absurd (omega (arith, h))

-- the first of entries that mean arrays
pub record AreFirst (xs : List Meaning) : Type 0 where
  pub arrays : List Array
  pub are : xs ≡ map mean arrays

first_of : (xs ys : List Meaning) (arrays : List Array) → xs ++ ys ≡ map mean arrays → AreFirst xs
first_of [] ys arrays e = record { arrays = []; are = refl }
first_of (x ∷ xs) ys [] e = absurd cc
first_of (x ∷ xs) ys (a ∷ arrays) e =
    let here : x ≡ mean a = cc in
    let rest : xs ++ ys ≡ map mean arrays = cc in
    let r = first_of xs ys arrays rest in
    record { arrays = a ∷ r.arrays; are = ap (λ (m : Meaning). m ∷ xs) here ∙ ap (λ (ms : List Meaning). mean a ∷ ms) r.are }

pub replacing_are : (store : StoreView) (mask : List Bool) (stack : List SegmentView) (leaves : List (Option Leaf)) (value : Leaf) → ArePositions mask stack (length stack) leaves → 1 + positions_in mask ≤ length stack → ((s : SegmentView) → slice_get stack (length stack - 1 - positions_in mask) ≡ Some s → IsLeafEntry s value) → (all : List Array) → entries store stack ≡ map mean all → AreReplacing mask (entries store stack) (array_of store value) (arrays_of store leaves)
replacing_are store mask stack leaves value p many one all arrays =
    let count : length p.segments ≡ positions_in mask = all_long IsLeafEntry p.segments p.there p.are ∙ p.number in
    let empty : p.younger ≡ [] =
    nothing p.younger
    (omega (arith, ap (λ (l : List SegmentView). length l) p.whole, length-append (p.older ++ reverse p.segments) p.younger, length-append p.older (reverse p.segments), length-reverse p.segments, p.place)) in
    let whole : stack ≡ p.older ++ reverse p.segments =
    p.whole ∙ ap (λ (l : List SegmentView). (p.older ++ reverse p.segments) ++ l) empty ∙ append-nil (p.older ++ reverse p.segments) in
    let n : HasNewest p.older = has_newest p.older (omega (arith, many, count, p.place)) in
    let long : length p.older ≡ length n.older + 1 = ap (λ (l : List SegmentView). length l) n.whole ∙ length-append n.older (n.newest ∷ []) in
    let split : stack ≡ n.older ++ n.newest ∷ reverse p.segments =
    whole ∙ ap (λ (l : List SegmentView). l ++ reverse p.segments) n.whole ∙ append_assoc n.older (n.newest ∷ []) (reverse p.segments) in
    let place : length stack - 1 - positions_in mask ≡ length n.older = omega (arith, p.place, count, long) in
    let found : slice_get stack (length stack - 1 - positions_in mask) ≡ Some n.newest =
    ap (λ (k : ℕ). slice_get stack k) place ∙ ap (λ (l : List SegmentView). slice_get l (length n.older)) split ∙ get-behind n.older n.newest (reverse p.segments) in
    let leaf : IsLeafEntry n.newest value = one n.newest found in
    let under : AreFirst (entries store n.older) = first_of (entries store n.older) (entries store (n.newest ∷ reverse p.segments)) all
    (sym (map-append (entry store) n.older (n.newest ∷ reverse p.segments)) ∙ ap (entries store) (sym split) ∙ arrays) in
    record {
      there = map (array_of store) p.there;
      number = length-map p.there (array_of store) ∙ p.number;
      positions = ap (arrays_of store) p.positions ∙ sym (spread-map (array_of store) mask p.there);
      older = under.arrays;
      are =
          ap (entries store) whole ∙ map-append (entry store) p.older (reverse p.segments)
          ∙ ap (λ (ms : List Meaning). entries store p.older ++ ms)
          (map_reverse (entry store) p.segments ∙ ap (λ (ms : List Meaning). reverse ms) (there_means store p.segments p.there p.are) ∙ sym (map_reverse mean (map (array_of store) p.there)))
          ∙ ap (λ (ms : List Meaning). ms ++ map mean (reverse (map (array_of store) p.there)))
          (entries_end store p.older n.older n.newest n.whole
          ∙ ap (λ (ms : List Meaning). ms ++ entry store n.newest ∷ []) under.are
          ∙ ap (λ (m : Meaning). map mean under.arrays ++ m ∷ []) (one_leaf_means store n.newest value leaf.segment leaf.is));
    }

-- ---- the whole

-- what is to be written stays so where the machine means the same
pub to_write_kept : (m0 m1 : Machine) (name : List ℕ) (mask : List Bool) (ns : List ℕ) → variables m1 ≡ variables m0 → pending m1 ≡ pending m0 → IsToWrite m0 name mask ns → IsToWrite m1 name mask ns
to_write_kept m0 m1 name mask ns v p t = record {
  value = t.value;
  ps = t.ps;
  operands = subst (λ (ms : List Meaning). AreReplacing mask ms t.value t.ps) (sym p) t.operands;
  array = t.array;
  bound = ap (λ (e : Environment Array). look_up e name) v ∙ t.bound;
  can = subst (λ (o : ℤ). CanReplace o t.array t.ps t.value ns) (ap (λ (e : Environment Array). e.origin) (sym v)) t.can;
}

pub refuses_kept : (m0 m1 : Machine) (name : List ℕ) (mask : List Bool) (kind : ErrorKind) → variables m1 ≡ variables m0 → pending m1 ≡ pending m0 → RefusesReplace m0 name mask kind → RefusesReplace m1 name mask kind
refuses_kept m0 m1 name mask kind v p r = record {
  value = r.value;
  ps = r.ps;
  operands = subst (λ (ms : List Meaning). AreReplacing mask ms r.value r.ps) (sym p) r.operands;
  answer = ap (λ (e : Environment Array). replace_in e.origin (look_up e name) r.ps r.value) v ∙ r.answer;
}

-- the positions go behind the write
pub assembled : (m0 m1 m2 m3 : Machine) (name : List ℕ) (mask : List Bool) → Keeps m0 m1 → pending m1 ≡ pending m0 → WritesPlaces m1 m2 name mask → Keeps m2 m3 → Drops m2.store m3.store m2.stack m3.stack (positions_in mask) → (hand : LeafCounts) → IsLawfulMachine m0 hand → Replaces m0 m3 name mask
assembled m0 m1 m2 m3 name mask k p w l d hand lawful =
    let same : variables m1 ≡ variables m0 = k.variables hand lawful in
    let mine : AreReplacing mask (pending m0) w.value w.ps = subst (λ (ms : List Meaning). AreReplacing mask ms w.value w.ps) p w.operands in
    let gone : length (map mean (reverse mine.there)) ≡ length d.gone =
    omega (arith, length-map (reverse mine.there) mean, length-reverse mine.there, mine.number, d.number) in
    record {
      value = w.value;
      ps = w.ps;
      operands = mine;
      array = w.array;
      answer = ap (λ (e : Environment Array). replace_in e.origin (look_up e name) w.ps w.value) (sym same) ∙ w.answer;
      lawful = λ h is. l.lawful h (w.lawful h (k.lawful h is));
      variables_are = λ h is.
          l.variables h (w.lawful h (k.lawful h is))
          ∙ w.variables_are h (k.lawful h is)
          ∙ ap (λ (e : Environment Array). set_name e name w.array) same;
      pending_is = sym (first_part (map mean mine.older ++ mean w.value ∷ []) (pending m3) (map mean (reverse mine.there)) d.gone (sym mine.are ∙ sym p ∙ sym w.pending_is ∙ d.means) gone);
      limit = l.limit ∙ w.limit ∙ k.limit;
    }

-- so where the machine meant the same before
pub replaces_from : (m0 m1 m2 : Machine) (name : List ℕ) (mask : List Bool) → Keeps m0 m1 → pending m1 ≡ pending m0 → Replaces m1 m2 name mask → (hand : LeafCounts) → IsLawfulMachine m0 hand → Replaces m0 m2 name mask
replaces_from m0 m1 m2 name mask k p r hand lawful =
    let same : variables m1 ≡ variables m0 = k.variables hand lawful in
    let mine : AreReplacing mask (pending m0) r.value r.ps = subst (λ (ms : List Meaning). AreReplacing mask ms r.value r.ps) p r.operands in
    let long : length (map mean (reverse mine.there)) ≡ length (map mean (reverse r.operands.there)) =
    omega (arith, length-map (reverse mine.there) mean, length-reverse mine.there, mine.number, length-map (reverse r.operands.there) mean, length-reverse r.operands.there, r.operands.number) in
    record {
      value = r.value;
      ps = r.ps;
      operands = mine;
      array = r.array;
      answer = ap (λ (e : Environment Array). replace_in e.origin (look_up e name) r.ps r.value) (sym same) ∙ r.answer;
      lawful = λ h is. r.lawful h (k.lawful h is);
      variables_are = λ h is. r.variables_are h (k.lawful h is) ∙ ap (λ (e : Environment Array). set_name e name r.array) same;
      pending_is = r.pending_is ∙ first_part (map mean r.operands.older ++ mean r.value ∷ []) (map mean mine.older ++ mean r.value ∷ []) (map mean (reverse r.operands.there)) (map mean (reverse mine.there)) (sym r.operands.are ∙ p ∙ mine.are) (sym long);
      limit = r.limit ∙ k.limit;
    }

pub halted_from : (m0 m1 : Machine) (name : List ℕ) (mask : List Bool) (place : Place) (why : Halt) → m1.store.limit ≡ m0.store.limit → variables m1 ≡ variables m0 → pending m1 ≡ pending m0 → IsReplaceHalted m1 name mask place why → IsReplaceHalted m0 name mask place why
halted_from m0 m1 name mask place (halt.Error kind at) l v p (inl h) = inl (subst (λ (ms : List Meaning). IsNotComputed m0.store.limit ms (halt.Error kind at)) p (subst (λ (n : ℕ). IsNotComputed n (pending m1) (halt.Error kind at)) l h))
halted_from m0 m1 name mask place (halt.Error kind at) l v p (inr h) = inr (h.0, refuses_kept m1 m0 name mask kind (sym v) (sym p) h.1)
halted_from m0 m1 name mask place (halt.WsFull live asked) l v p h = subst (λ (n : ℕ). n < live + asked) l h
halted_from m0 m1 name mask place halt.NoMemory l v p h = tt

-- a halt that is no error of the instruction
pub not_computed_halts : (m : Machine) (name : List ℕ) (mask : List Bool) (place : Place) (why : Halt) → IsNotComputed m.store.limit (pending m) why → IsReplaceHalted m name mask place why
not_computed_halts m name mask place (halt.Error kind at) h = inl h
not_computed_halts m name mask place (halt.WsFull live asked) h = h
not_computed_halts m name mask place halt.NoMemory h = tt

pub stopped_halts : (m : Machine) (name : List ℕ) (mask : List Bool) (place : Place) (limit : ℕ) (why : Halt) → limit ≡ m.store.limit → IsStopped limit why → IsReplaceHalted m name mask place why
stopped_halts m name mask place limit (halt.Error kind at) e h = absurd h
stopped_halts m name mask place limit (halt.WsFull live asked) e h = subst (λ (n : ℕ). n < live + asked) e h
stopped_halts m name mask place limit halt.NoMemory e h = tt
