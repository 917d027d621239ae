-- Operands that go into hand as leaves.
use Rattle.std.proofs.Common.{◌≡◌, ℕ, zero, suc, Bool, true, false, List, [], ◌∷◌, ◌++◌, map, length, Some, None, refl, sym, ap, subst, ◌∙◌, arith}
use Rattle.std.specs.Prelude.{IsTrue, slice_get, Result, Ok, Err, IfErr}
use Rattle.std.proofs.lemmas.List.{append_assoc, append-nil}
use Rattle.apl_base.specs.Array.{Array}
use Rattle.array_store.specs.Stores.{StoreView}
use Rattle.array_store.specs.Follows.{LeafCounts, Follows, Holds, both, none}
use Rattle.array_store.proofs.FollowsLemmas.{follows_then, follows_beside, follows_counted}
use Rattle.drag_along.specs.declared.leaves.Leaf.{Leaf}
use Rattle.drag_along.specs.Nodes.{named_by_leaf}
use Rattle.drag_along.specs.Segments.{SegmentView}
use Rattle.drag_along.specs.Meaning.{Meaning, Means}
use Rattle.drag_along.specs.Lawful.{SameData}
use Rattle.drag_along.proofs.KeptLemmas.{follows_keeps, leaf_kept}
use Rattle.value_stack.specs.Stacks.{named_on, entries, MayFail, IsLeastOrNone}
use Rattle.leaf_names.specs.Variables.{array_of}
use Rattle.leaf_names.proofs.KeptLemmas.{array_kept}
use Rattle.pending_steps.specs.declared.halts.Halt.{Halt}
use Rattle.pending_steps.specs.declared.halts.Halt.TheVariants as halt
use Rattle.pending_steps.specs.Leaves.{TakesLeaf, IsStopped}
use Rattle.pending_steps.specs.Shapes.{AreArrays}
use Rattle.pending_steps.specs.Steps.{Moves, IsNotComputed}
use Rattle.leaf_steps.specs.declared.takes.Arguments.{Arguments}
use Rattle.leaf_steps.specs.Taking.{Taken, TakesOne, TakesTwo, AtError, named_by_arguments}
use Rattle.value_stack.proofs.NewestLemmas.{get-end}
use Rattle.leaf_names.proofs.StandsLemmas.{array_is}

-- ---- entries that can't fail

get-front : (older : List SegmentView) (s t : SegmentView) (k : ℕ) → slice_get older k ≡ Some t → slice_get (older ++ s ∷ []) k ≡ Some t
get-front [] s t k g = absurd cc
get-front (b ∷ older) s t zero g = g
get-front (b ∷ older) s t (suc k) g = get-front older s t k g

not_true : (b : Bool) → ¬ (IsTrue b) → b ≡ false
not_true true h = absurd (h refl)
not_true false h = refl

-- the newest of them can't
pub newest_safe : (stack older : List SegmentView) (s : SegmentView) → stack ≡ older ++ s ∷ [] → IsLeastOrNone MayFail stack 0 None → s.may_fail ≡ false
newest_safe stack older s is safe =
    let there : slice_get stack (length older) ≡ Some s = ap (λ (xs : List SegmentView). slice_get xs (length older)) is ∙ get-end older s in
    not_true s.may_fail (λ fails. safe (length older) (omega arith) (s, there, fails))

-- nor can the older ones
pub older_safe : (stack older : List SegmentView) (s : SegmentView) → stack ≡ older ++ s ∷ [] → IsLeastOrNone MayFail stack 0 None → IsLeastOrNone MayFail older 0 None
older_safe stack older s is safe k from so =
    safe k from (so.0, ap (λ (xs : List SegmentView). slice_get xs k) is ∙ get-front older s so.0 k so.1, so.2)

-- ---- entries that mean arrays

record Listed (meanings : List Meaning) : Type 0 where
  arrays : List Array
  are : meanings ≡ map (λ a. Means a) arrays

listed : (store : StoreView) (stack : List SegmentView) → AreArrays store stack → Listed (entries store stack)
listed store [] h = record { arrays = []; are = refl }
listed store (s ∷ stack) h =
    let rest : Listed (entries store stack) = listed store stack h.1 in
    record {
      arrays = h.0.array ∷ rest.arrays;
      are = ap (λ (m : Meaning). m ∷ entries store stack) h.0.means ∙ ap (λ (ms : List Meaning). Means h.0.array ∷ ms) rest.are;
    }

-- so do the older of them
older_listed : (ms : List Meaning) (m : Meaning) (arrays : List Array) → ms ++ m ∷ [] ≡ map (λ a. Means a) arrays → Listed ms
older_listed [] m arrays e = record { arrays = []; are = refl }
older_listed (x ∷ ms) m [] e = absurd cc
older_listed (x ∷ ms) m (a ∷ arrays) e =
    let head : x ≡ Means a = cc in
    let tail : ms ++ m ∷ [] ≡ map (λ a. Means a) arrays = cc in
    let rest : Listed ms = older_listed ms m arrays tail in
    record { arrays = a ∷ rest.arrays; are = ap (λ (y : Meaning). y ∷ ms) head ∙ ap (λ (ys : List Meaning). Means a ∷ ys) rest.are }

-- ---- the newest goes into hand

-- one more, where the others mean arrays
pub taken_more : (old mid new : StoreView) (before between after : List SegmentView) (operands : List Array) (hand : LeafCounts) (leaf : Leaf) → Taken old mid before between operands hand → TakesLeaf mid new between after leaf → Taken old new before after (array_of new leaf ∷ operands) (both hand (named_by_leaf leaf))
taken_more old mid new before between after operands hand leaf taken takes =
    let first : Follows old mid (both (named_on before) none) (both (named_on between) hand) = taken.moves.follows in
    let second : Follows mid new (both (both (named_on between) none) hand) (both (both (named_on after) (named_by_leaf leaf)) hand) =
    follows_beside mid new (both (named_on between) none) (both (named_on after) (named_by_leaf leaf)) hand takes.moves.follows in
    let under : Listed (entries new after) = older_listed (entries new after) (Means takes.array) taken.older (sym takes.means ∙ taken.is) in
    let means : map (λ a. Means a) taken.older ≡ map (λ a. Means a) under.arrays ++ Means (array_of new leaf) ∷ [] =
    sym taken.is ∙ takes.means ∙ ap (λ (ms : List Meaning). ms ++ Means takes.array ∷ []) under.are
    ∙ ap (λ (a : Array). map (λ b. Means b) under.arrays ++ Means a ∷ []) (sym (array_is new leaf takes.array takes.stands)) in
    record {
      older = under.arrays;
      was =
          taken.was ∙ ap (λ (ms : List Meaning). ms ++ map (λ a. Means a) operands) means
          ∙ append_assoc (map (λ a. Means a) under.arrays) (Means (array_of new leaf) ∷ []) (map (λ a. Means a) operands);
      is = under.are;
      moves = record {
        lawful = takes.moves.lawful;
        follows =
            follows_counted old new (both (named_on before) none) (both (both (named_on after) (named_by_leaf leaf)) hand) (both (named_on before) none) (both (named_on after) (both hand (named_by_leaf leaf))) (λ key. refl) (λ key. omega arith)
            (follows_then old mid new (both (named_on before) none) (both (named_on between) hand) (both (both (named_on after) (named_by_leaf leaf)) hand) first
            (follows_counted mid new (both (both (named_on between) none) hand) (both (both (named_on after) (named_by_leaf leaf)) hand) (both (named_on between) hand) (both (both (named_on after) (named_by_leaf leaf)) hand) (λ key. omega arith) (λ key. refl) second));
      };
    }

-- none yet, where all mean arrays
pub none_taken : (old new : StoreView) (before after : List SegmentView) → AreArrays new after → entries new after ≡ entries old before → Moves old new before after none none → Taken old new before after [] none
none_taken old new before after arrays same moves =
    let all : Listed (entries new after) = listed new after arrays in
    record { older = all.arrays; was = sym same ∙ all.are ∙ sym (append-nil (map (λ a. Means a) all.arrays)); is = all.are; moves = moves }

-- leaves that are counted in another way
pub taken_counted : (old new : StoreView) (before after : List SegmentView) (operands : List Array) (hand other : LeafCounts) → ((key : ℕ) → other key ≡ hand key) → Taken old new before after operands hand → Taken old new before after operands other
taken_counted old new before after operands hand other same taken = record {
  older = taken.older;
  was = taken.was;
  is = taken.is;
  moves = record {
    lawful = taken.moves.lawful;
    follows = follows_counted old new (both (named_on before) none) (both (named_on after) hand) (both (named_on before) none) (both (named_on after) other) (λ key. refl) (λ key. omega (arith, same key)) taken.moves.follows;
  };
}

pub one_taken : (old mid new : StoreView) (before between after : List SegmentView) (leaf : Leaf) → Taken old mid before between [] none → TakesLeaf mid new between after leaf → TakesOne old new before after leaf
one_taken old mid new before between after leaf taken takes = record {
  lawful = takes.stands.lawful;
  taken = taken_counted old new before after (array_of new leaf ∷ []) (both none (named_by_leaf leaf)) (named_by_leaf leaf) (λ key. omega arith) (taken_more old mid new before between after [] none leaf taken takes);
}

-- as many holders as there are leaves, on the stack and in hand
pub taken_holds : (old new : StoreView) (before after : List SegmentView) (hand : LeafCounts) → Holds old (named_on before) → Moves old new before after none hand → Holds new (both (named_on after) hand)
taken_holds old new before after hand holds moves = λ key. omega (arith, holds key, moves.follows.holders key)

-- the second after the first, which stays what it is
pub two_taken : (old mid new : StoreView) (before between after : List SegmentView) (arguments : Arguments) → Holds old (named_on before) → TakesOne old mid before between arguments.left → TakesLeaf mid new between after arguments.right → TakesTwo old new before after arguments
two_taken old mid new before between after arguments holds one takes =
    let left = arguments.left in
    let held : Holds mid (both (named_on between) (named_by_leaf left)) = taken_holds old mid before between (named_by_leaf left) holds one.taken.moves in
    let same : SameData mid new (named_by_leaf left) =
    follows_keeps mid new (both (named_on between) none) (both (named_on after) (named_by_leaf arguments.right)) (named_by_leaf left) (named_by_leaf left) takes.moves.follows (λ key. omega (arith, held key)) (λ key. omega arith) in
    record {
      left = (leaf_kept mid new left same one.lawful).0;
      right = takes.stands.lawful;
      taken =
          subst (λ (a : Array). Taken old new before after (array_of new arguments.right ∷ a ∷ []) (named_by_arguments arguments)) (sym (array_kept mid new left same one.lawful))
          (taken_more old mid new before between after (array_of mid left ∷ []) (named_by_leaf left) arguments.right one.taken takes);
    }

-- ---- why it stops

pub stopped_halts : (old new : StoreView) (pending : List Meaning) (why : Halt) → new.limit ≡ old.limit → IsStopped new.limit why → IsNotComputed old.limit pending why
stopped_halts old new pending (halt.Error kind place) same stopped = absurd stopped
stopped_halts old new pending (halt.WsFull live asked) same stopped = omega (arith, same, stopped)
stopped_halts old new pending halt.NoMemory same stopped = tt

pub stopped_at_no_error : (limit : ℕ) (why : Halt) (P : Type 0) → IsStopped limit why → AtError why P
stopped_at_no_error limit (halt.Error kind place) P stopped = absurd stopped
stopped_at_no_error limit (halt.WsFull live asked) P stopped = tt
stopped_at_no_error limit halt.NoMemory P stopped = tt

pub at_error : (why : Halt) (P : Type 0) → P → AtError why P
at_error (halt.Error kind place) P p = p
at_error (halt.WsFull live asked) P p = tt
at_error halt.NoMemory P p = tt

-- what is so is so where it halts at an error
pub halted_so : {A : Type 0} (result : Result A Halt) (P : Type 0) → P → IfErr result (λ why. AtError why P)
halted_so (Ok value) P p = tt
halted_so (Err why) P p = at_error why P p
