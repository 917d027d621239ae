-- The newest entry of a stack, and what is below it.
use Rattle.std.proofs.Common.{◌≡◌, ℕ, zero, suc, ◌+◌, ◌-◌, ◌<◌, ◌≤◌, Bool, true, false, List, [], ◌∷◌, ◌++◌, length, Some, refl, sym, ap, subst, ◌∙◌, arith}
use Rattle.std.specs.Prelude.{IsTrue, slice_get, slice_index_or}
use Rattle.std.proofs.lemmas.List.{append_assoc, map-append, length-append, length-map}
use Rattle.std.proofs.Math.ListN.{get_or-append}
use Rattle.array_store.specs.Stores.{StoreView}
use Rattle.array_store.specs.Counting.{OnlyFetched}
use Rattle.array_store.specs.Follows.{Follows, Holds, both, none}
use Rattle.array_store.proofs.CountingLemmas.{follows-counted}
use Rattle.array_store.proofs.FollowsLemmas.{follows_after, follows_counted}
use Rattle.drag_along.specs.declared.leaves.Leaf.{Leaf}
use Rattle.drag_along.specs.Segments.{SegmentView, IsSegment, leaf_segment}
use Rattle.drag_along.specs.Meaning.{Meaning, Means, entry}
use Rattle.drag_along.specs.Lawful.{IsLawful, IsLawfulLeaf}
use Rattle.drag_along.specs.Views.{only_leaf}
use Rattle.drag_along.proofs.KeptLemmas.{follows_keeps}
use Rattle.drag_along.proofs.OneLeafLemmas.{one_leaf_segment, one_leaf_means, one_leaf_lawful}
use Rattle.leaf_names.specs.Variables.{array_of}
use Rattle.value_stack.specs.Stacks.{named_on, entries, IsLawfulStack}
use Rattle.value_stack.proofs.EntriesLemmas.{stack_kept}
use Rattle.pending_steps.specs.Shapes.{shapes_of, newest_shape, second_shape, IsArrayEntry}
use Rattle.pending_steps.specs.Steps.{Moves}
use Rattle.pending_steps.proofs.ArrayLemmas.{safe_entry}
use Rattle.pending_steps.proofs.EndLemmas.{end_shape}
use Rattle.pending_steps.proofs.StepLemmas.{newest_lawful}
use Rattle.selection_choices.specs.declared.choices.Choice.{Choice}
use Rattle.selection_choices.specs.Choices.{chosen_meaning}
use Rattle.selecting_steps.specs.Chosen.{ChoosesNewest, ChoosesSecond}
use Rattle.value_stack.proofs.NewestLemmas.{entries_end, newest_at}

-- ---- the newest entry

pub newest_shape_is : (stack older : List SegmentView) (s : SegmentView) → stack ≡ older ++ s ∷ [] → newest_shape stack ≡ s.shape
newest_shape_is stack older s is = end_shape stack (length stack - 1) s (newest_at stack older s is)

-- the one below it is the newest of the others
get-before : (older after : List SegmentView) (k : ℕ) → k < length older → slice_get (older ++ after) k ≡ slice_get older k
get-before [] after k w = absurd (omega (arith, w))
get-before (b ∷ older) after zero w = refl
get-before (b ∷ older) after (suc k) w = get-before older after k (omega (arith, w))

pub second_at : (stack older : List SegmentView) (s : SegmentView) → stack ≡ older ++ s ∷ [] → 2 ≤ length stack → slice_get stack (length stack - 2) ≡ slice_get older (length older - 1)
second_at stack older s is two =
    let long : length stack ≡ length older + 1 = ap (λ (xs : List SegmentView). length xs) is ∙ length-append older (s ∷ []) in
    let here : length stack - 2 ≡ length older - 1 = omega (arith, long) in
    ap (λ (k : ℕ). slice_get stack k) here ∙ ap (λ (xs : List SegmentView). slice_get xs (length older - 1)) is ∙ get-before older (s ∷ []) (length older - 1) (omega (arith, long, two))

pub second_shape_is : (stack older : List SegmentView) (s : SegmentView) → stack ≡ older ++ s ∷ [] → 2 ≤ length stack → second_shape stack ≡ newest_shape older
second_shape_is stack older s is two =
    let long : length stack ≡ length older + 1 = ap (λ (xs : List SegmentView). length xs) is ∙ length-append older (s ∷ []) in
    let here : length stack - 2 ≡ length older - 1 = omega (arith, long) in
    let many : length (shapes_of older) ≡ length older = length-map older (λ (x : SegmentView). x.shape) in
    ap (λ (k : ℕ). slice_index_or (shapes_of stack) k []) here
    ∙ ap (λ (xs : List SegmentView). slice_index_or (shapes_of xs) (length older - 1) []) is
    ∙ ap (λ (ns : List (List ℕ)). slice_index_or ns (length older - 1) []) (map-append (λ (x : SegmentView). x.shape) older (s ∷ []))
    ∙ get_or-append (shapes_of older) (s.shape ∷ []) [] (length older - 1) (omega (arith, long, two, many))

-- a stack whose newest entry this is
pub record Split (stack : List SegmentView) (s : SegmentView) : Type 0 where
  pub older : List SegmentView
  pub is : stack ≡ older ++ s ∷ []

pub split : (stack : List SegmentView) (s : SegmentView) → slice_get stack (length stack - 1) ≡ Some s → Split stack s
split [] s g = absurd cc
split (x ∷ []) s g =
    let same : x ≡ s = cc in
    record { older = []; is = ap (λ (y : SegmentView). y ∷ []) same }
split (x ∷ y ∷ stack) s g =
    let next : length (x ∷ y ∷ stack) - 1 ≡ suc (length (y ∷ stack) - 1) = omega arith in
    let rest : Split (y ∷ stack) s = split (y ∷ stack) s (sym (ap (λ (k : ℕ). slice_get (x ∷ y ∷ stack) k) next) ∙ g) in
    record { older = x ∷ rest.older; is = ap (λ (xs : List SegmentView). x ∷ xs) rest.is }

-- where the shapes stay, these do
pub newest_kept : (before after : List SegmentView) → shapes_of after ≡ shapes_of before → length after ≡ length before → newest_shape before ≡ newest_shape after
newest_kept before after shapes long =
    ap (λ (k : ℕ). slice_index_or (shapes_of before) (k - 1) []) (sym long) ∙ ap (λ (ns : List (List ℕ)). slice_index_or ns (length after - 1) []) (sym shapes)

pub second_kept : (before after : List SegmentView) → shapes_of after ≡ shapes_of before → length after ≡ length before → second_shape before ≡ second_shape after
second_kept before after shapes long =
    ap (λ (k : ℕ). slice_index_or (shapes_of before) (k - 2) []) (sym long) ∙ ap (λ (ns : List (List ℕ)). slice_index_or ns (length after - 2) []) (sym shapes)

-- where no entry may fail
not_true : (b : Bool) → ¬ (IsTrue b) → b ≡ false
not_true true h = absurd (h refl)
not_true false h = refl

-- the newest entry is this leaf
pub record IsNewestLeaf (store : StoreView) (stack : List SegmentView) (leaf : Leaf) : Type 0 where
  pub older : List Meaning
  pub is : entries store stack ≡ older ++ Means (array_of store leaf) ∷ []
  pub lawful : IsLawfulLeaf store leaf

pub newest_leaf : (store : StoreView) (stack : List SegmentView) (s : SegmentView) (leaf : Leaf) → slice_get stack (length stack - 1) ≡ Some s → IsSegment s → only_leaf s.nodes ≡ Some leaf → IsLawfulStack store stack → IsNewestLeaf store stack leaf
newest_leaf store stack s leaf g h only lawful =
    let parts : Split stack s = split stack s g in
    let is : s ≡ leaf_segment leaf s.range = one_leaf_segment s leaf h only in
    record {
      older = entries store parts.older;
      is = entries_end store stack parts.older s parts.is ∙ ap (λ (m : Meaning). entries store parts.older ++ m ∷ []) (one_leaf_means store s leaf h only);
      lawful = ((one_leaf_lawful store leaf s.range).0 (subst (IsLawful store) is (newest_lawful store stack parts.older s parts.is lawful))).0;
    }

-- ---- what is made of it

pub newest_chosen : (c : Choice) (store : StoreView) (before after older : List SegmentView) (s t : SegmentView) → before ≡ older ++ s ∷ [] → after ≡ older ++ t ∷ [] → IsSegment s → IsLawful store s → s.may_fail ≡ false → entry store t ≡ chosen_meaning c (entry store s) → ChoosesNewest c (newest_shape before) (entries store before) (entries store after)
newest_chosen c store before after older s t was is h l safe means =
    let one : IsArrayEntry store s = safe_entry store s h l safe in
    record {
      older = entries store older;
      array = one.array;
      of_shape = record { shape = one.shape ∙ sym (newest_shape_is before older s was); complete = one.complete };
      was = entries_end store before older s was ∙ ap (λ (m : Meaning). entries store older ++ m ∷ []) one.means;
      is = entries_end store after older t is ∙ ap (λ (m : Meaning). entries store older ++ m ∷ []) (means ∙ ap (chosen_meaning c) one.means);
    }

-- and of the one below, where it went
pub second_chosen : (c : Choice) (ns ms : List ℕ) (before between after : List Meaning) (newest : Meaning) → ms ≡ ns → before ≡ between ++ newest ∷ [] → ChoosesNewest c ns between after → ChoosesSecond c ms before after
second_chosen c ns ms before between after newest same was h = record {
  older = h.older;
  array = h.array;
  newest = newest;
  of_shape = record { shape = h.of_shape.shape ∙ sym same; complete = h.of_shape.complete };
  was = was ∙ ap (λ (xs : List Meaning). xs ++ newest ∷ []) h.was ∙ append_assoc h.older (Means h.array ∷ []) (newest ∷ []);
  is = h.is;
}

-- ---- what moves

-- an entry that names the same owners comes in the place of another
pub moves_on : (old new : StoreView) (before between after : List SegmentView) → Moves old new before between none none → ((key : ℕ) → named_on after key ≡ named_on between key) → IsLawfulStack new after → Moves old new before after none none
moves_on old new before between after m same lawful = record {
  lawful = lawful;
  follows =
      follows_counted old new (both (named_on before) none) (both (named_on between) none) (both (named_on before) none) (both (named_on after) none)
      (λ key. refl) (λ key. omega (arith, same key)) m.follows;
}

-- where cells were fetched, nothing moves
pub record IsAsBefore (old new : StoreView) (stack : List SegmentView) : Type 0 where
  pub means : entries new stack ≡ entries old stack
  pub moves : Moves old new stack stack none none

pub fetched_stays : (old new : StoreView) (stack : List SegmentView) (most : ℕ) → OnlyFetched old new most → IsLawfulStack old stack → Holds old (named_on stack) → IsAsBefore old new stack
fetched_stays old new stack most fetched lawful held =
    let follows : Follows old new none none = follows-counted old new fetched.only in
    let kept = stack_kept old new stack (follows_keeps old new none none (named_on stack) (named_on stack) follows (λ key. omega (arith, held key)) (λ key. omega arith)) lawful in
    record {
      means = kept.1;
      moves = record { lawful = kept.0; follows = follows_after old new none none (named_on stack) follows };
    }
