-- The newest entry as a leaf, and steps that only count.
use Rattle.std.proofs.Common.{◌≡◌, ◌≢◌, ℕ, suc, ◌+◌, List, [], ◌∷◌, ◌++◌, length, map, Some, None, Ok, Err, refl, sym, ap, ◌∙◌, subst, arith}
use Rattle.std.specs.Prelude.{◌-◌, slice_get, Result, OnOk}
use Rattle.std.proofs.lemmas.List.{map-append}
use Rattle.apl_base.specs.Array.{Array}
use Rattle.array_store.specs.Stores.{StoreView}
use Rattle.array_store.specs.Counting.{OnlyCounted}
use Rattle.array_store.specs.Follows.{Follows, Holds, both, none}
use Rattle.array_store.proofs.FollowsLemmas.{follows_counted, follows_after}
use Rattle.drag_along.specs.declared.leaves.Leaf.{Leaf}
use Rattle.drag_along.specs.declared.nodes.Node.{Node}
use Rattle.drag_along.specs.declared.nodes.Node.TheVariants.{Operand, One, Two}
use Rattle.drag_along.specs.Nodes.{functions_in, pending_after}
use Rattle.drag_along.specs.Segments.{SegmentView, IsSegment, leaf_segment}
use Rattle.drag_along.specs.Meaning.{Meaning, Means, entry}
use Rattle.drag_along.specs.Lawful.{IsLawful, IsLawfulLeaf}
use Rattle.drag_along.specs.Views.{only_leaf}
use Rattle.drag_along.proofs.KeptLemmas.{follows_keeps}
use Rattle.drag_along.proofs.OneLeafLemmas.{one_leaf_segment, one_leaf_means, one_leaf_lawful}
use Rattle.value_stack.specs.Stacks.{named_on, entries, IsLawfulStack}
use Rattle.value_stack.proofs.EntriesLemmas.{stack_kept}
use Rattle.leaf_names.specs.Variables.{array_of}
use Rattle.pending_steps.specs.Steps.{Moves}
use Rattle.pending_steps.proofs.StepLemmas.{newest_lawful}
use Rattle.machine_state.specs.declared.machines.Machine.{Machine}
use Rattle.machine_state.specs.Steps.{pending, IsLawfulBeside, Keeps}
use Rattle.machine_state.proofs.KeepsLemmas.{keeps}
use Rattle.calling_steps.specs.Outputs.{on_top}
use Rattle.calling_steps.specs.Ready.{IsNewest}
use Rattle.array_store.proofs.CountingLemmas.{follows-counted}

-- ---- an expression without functions is a leaf

same_number : (n m : ℕ) → Some n ≡ Some m → n ≡ m
same_number n m e = cc

-- nodes without functions leave a value for each of them
more_pending : (xs : List Node) (n m : ℕ) → functions_in xs ≡ 0 → pending_after xs n ≡ Some m → n + length xs ≡ m
more_pending [] n m none h = omega (arith, same_number n m h)
more_pending (Operand leaf ∷ xs) n m none h = omega (arith, more_pending xs (suc n) m none h)
more_pending (One f p ∷ xs) n m none h = absurd (omega (arith, none))
more_pending (Two f p ∷ xs) n m none h = absurd (omega (arith, none))

one_node : (xs : List Node) → functions_in xs ≡ 0 → length xs ≡ 1 → only_leaf xs ≢ None
one_node [] none one h = absurd (omega (arith, one))
one_node (Operand leaf ∷ []) none one h = cc
one_node (Operand leaf ∷ x ∷ xs) none one h = absurd (omega (arith, one))
one_node (One f p ∷ xs) none one h = absurd (omega (arith, none))
one_node (Two f p ∷ xs) none one h = absurd (omega (arith, none))

pub has_leaf : (s : SegmentView) → IsSegment s → functions_in s.nodes ≡ 0 → only_leaf s.nodes ≢ None
has_leaf s h none = one_node s.nodes none (omega (arith, more_pending s.nodes 0 1 none h.whole))

-- ---- the newest entry

-- the others
pub without_last : (stack : List SegmentView) (s : SegmentView) → slice_get stack (length stack - 1) ≡ Some s → (older : List SegmentView) × (stack ≡ older ++ s ∷ [])
without_last [] s g = absurd cc
without_last (a ∷ []) s g = ([], ap (λ (x : SegmentView). x ∷ []) (same_segment a s g))
  where
    same_segment : (a s : SegmentView) → Some a ≡ Some s → a ≡ s
    same_segment a s e = cc
without_last (a ∷ b ∷ stack) s g =
    let at : length (a ∷ b ∷ stack) - 1 ≡ suc (length (b ∷ stack) - 1) = omega arith in
    let rest = without_last (b ∷ stack) s (subst (λ (k : ℕ). slice_get (a ∷ b ∷ stack) k ≡ Some s) at g) in
    (a ∷ rest.0, ap (λ (xs : List SegmentView). a ∷ xs) rest.1)

pub is_newest : (stack : List SegmentView) (s : SegmentView) (leaf : Leaf) → slice_get stack (length stack - 1) ≡ Some s → IsSegment s → only_leaf s.nodes ≡ Some leaf → IsNewest stack leaf
is_newest stack s leaf g h only =
    let rest = without_last stack s g in
    record { older = rest.0; newest = s; are = rest.1; segment = h; only = only }

-- arrays are that of the newest and the others
pub parted : (m : Meaning) (ms : List Meaning) (arrays : List Array) → ms ++ m ∷ [] ≡ map (λ a. Means a) arrays → (older : List Array) × ((array : Array) × (m ≡ Means array) × (ms ≡ map (λ a. Means a) older))
parted m [] [] e = absurd cc
parted m [] (a ∷ []) e = ([], (a, cc, refl))
parted m [] (a ∷ b ∷ arrays) e = absurd cc
parted m (n ∷ ms) [] e = absurd cc
parted m (n ∷ ms) (a ∷ arrays) e =
    let first : n ≡ Means a = cc in
    let others : ms ++ m ∷ [] ≡ map (λ a. Means a) arrays = cc in
    let rest = parted m ms arrays others in
    (a ∷ rest.0, (rest.1.0, rest.1.1, ap (λ (x : Meaning). x ∷ ms) first ∙ ap (λ (xs : List Meaning). Means a ∷ xs) rest.1.2))

-- the array of the leaf that the newest entry is, above the others
pub newest_means : (store : StoreView) (stack : List SegmentView) (leaf : Leaf) (arrays : List Array) → IsNewest stack leaf → entries store stack ≡ map (λ a. Means a) arrays → (older : List Array) × (entries store stack ≡ on_top older (array_of store leaf))
newest_means store stack leaf arrays n are =
    let split : entries store stack ≡ entries store n.older ++ entry store n.newest ∷ [] = ap (entries store) n.are ∙ map-append (entry store) n.older (n.newest ∷ []) in
    let parts = parted (entry store n.newest) (entries store n.older) arrays (sym split ∙ are) in (
      parts.0,
      split
          ∙ ap (λ (ms : List Meaning). ms ++ entry store n.newest ∷ []) parts.1.2
          ∙ ap (λ (m : Meaning). map (λ a. Means a) parts.0 ++ m ∷ []) (one_leaf_means store n.newest leaf n.segment n.only),
    )

pub newest_leaf_lawful : (store : StoreView) (stack : List SegmentView) (leaf : Leaf) → IsNewest stack leaf → IsLawfulStack store stack → IsLawfulLeaf store leaf
newest_leaf_lawful store stack leaf n lawful =
    let one : IsLawful store n.newest = newest_lawful store stack n.older n.newest n.are lawful in
    let is : n.newest ≡ leaf_segment leaf n.newest.range = one_leaf_segment n.newest leaf n.segment n.only in
    ((one_leaf_lawful store leaf n.newest.range).0 (subst (IsLawful store) is one)).0

-- ---- steps that only count

pub counted_moves : (old new : StoreView) (stack : List SegmentView) → OnlyCounted old new → IsLawfulStack old stack → Holds old (named_on stack) → Moves old new stack stack none none × (entries new stack ≡ entries old stack)
counted_moves old new stack only lawful holds =
    let follows : Follows old new none none = follows-counted old new only in
    let kept = stack_kept old new stack (follows_keeps old new none none (named_on stack) (named_on stack) follows (λ key. omega (arith, holds key)) (λ key. omega arith)) lawful in (
      record {
        lawful = kept.0;
        follows =
            follows_counted old new (both (named_on stack) none) (both (named_on stack) none) (both (named_on stack) none) (both (named_on stack) none)
            (λ key. refl) (λ key. refl) (follows_after old new none none (named_on stack) follows);
      },
      kept.1,
    )

-- a machine that is lawful holds what its entries name
pub holds_entries : (m : Machine) → IsLawfulBeside m → Holds m.store (named_on m.stack)
holds_entries m l = λ key. omega (arith, l.1.desk.held key)

pub counted_keeps : (old : Machine) (store : StoreView) → OnlyCounted old.store store → IsLawfulBeside old → Keeps old (record old { store = store }) × (entries store old.stack ≡ pending old)
counted_keeps old store only l =
    let moved = counted_moves old.store store old.stack only l.1.desk.entries (holds_entries old l) in
    (keeps old (record old { store = store }) refl refl moved.0, moved.1)

-- ---- answers

pub on_ok_so : {A E : Type 0} (r : Result A E) (P : Type 0) → P → OnOk r P
on_ok_so (Ok a) P p = p
on_ok_so (Err e) P p = tt
