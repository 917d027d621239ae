-- Leaves that are held once more and come as entries, and entries that are let go.
use Rattle.std.proofs.Common.{◌≡◌, ℕ, ◌+◌, ◌-◌, List, [], ◌∷◌, ◌++◌, length, Some, refl, sym, ap, ◌∙◌, arith}
use Rattle.std.proofs.lemmas.List.{map-append, length-append}
use Rattle.std.specs.Prelude.{slice_get}
use Rattle.apl_base.specs.Array.{Array}
use Rattle.array_store.specs.Stores.{StoreView}
use Rattle.array_store.specs.Follows.{Follows, Holds, both, none}
use Rattle.array_store.proofs.FollowsLemmas.{follows_then, follows_after, follows_counted}
use Rattle.drag_along.specs.declared.leaves.Leaf.{Leaf}
use Rattle.drag_along.specs.Nodes.{leaf_shape, named_by_leaf}
use Rattle.drag_along.specs.Segments.{SegmentView, named_by}
use Rattle.drag_along.specs.Meaning.{Meaning, Means, leaf_array, entry}
use Rattle.drag_along.specs.Views.{StandsForArray}
use Rattle.drag_along.proofs.KeptLemmas.{follows_keeps}
use Rattle.value_stack.specs.Stacks.{named_on, entries, IsLawfulStack}
use Rattle.value_stack.proofs.EntriesLemmas.{named_on_both, stack_kept}
use Rattle.leaf_names.specs.Variables.{array_of}
use Rattle.pending_steps.specs.Steps.{Moves}
use Rattle.pending_steps.specs.Leaves.{PutsLeaf, PutsHeld}
use Rattle.pending_steps.proofs.StepLemmas.{older_lawful}
use Rattle.pending_steps.proofs.LiteralLemmas.{beside_made}
use Rattle.value_stack.proofs.NewestLemmas.{get-end}

pub held_puts : (old new : StoreView) (before after : List SegmentView) (leaf held : Leaf) → IsLawfulStack old before → Holds old (named_on before) → held ≡ leaf → StandsForArray new held (leaf_array old (leaf_shape leaf) leaf) → Follows old new none (named_by_leaf leaf) → PutsLeaf new before after held → PutsHeld old new before after leaf
held_puts old new before after leaf held lawful holds same stands follows puts =
    let kept = beside_made old new (named_by_leaf leaf) before follows lawful holds in
    let array : array_of new held ≡ array_of old leaf = ap (λ (ns : List ℕ). leaf_array new ns held) stands.shape.same ∙ stands.array in
    let named : (key : ℕ) → named_by_leaf held key ≡ named_by_leaf leaf key = λ key. ap (λ (l : Leaf). named_by_leaf l key) same in
    let first : Follows old new (both (named_on before) none) (both (named_on before) (named_by_leaf leaf)) = follows_after old new none (named_by_leaf leaf) (named_on before) follows in
    let second : Follows new new (both (named_on before) (named_by_leaf held)) (both (named_on after) none) = puts.moves.follows in
    record {
      means = puts.means ∙ ap (λ (ms : List Meaning). ms ++ Means (array_of new held) ∷ []) kept.1 ∙ ap (λ (a : Array). entries old before ++ Means a ∷ []) array;
      moves = record {
        lawful = puts.moves.lawful;
        follows =
            follows_then old new new (both (named_on before) none) (both (named_on before) (named_by_leaf leaf)) (both (named_on after) none) first
            (follows_counted new new (both (named_on before) (named_by_leaf held)) (both (named_on after) none) (both (named_on before) (named_by_leaf leaf)) (both (named_on after) none) (λ key. omega (arith, named key)) (λ key. refl) second);
      };
    }

-- the newest entry is the one that was taken off
pub newest_was : (stack older : List SegmentView) (s t : SegmentView) → stack ≡ older ++ s ∷ [] → slice_get stack (length stack - 1) ≡ Some t → t ≡ s
newest_was stack older s t is g =
    let long : length stack - 1 ≡ length older = omega (arith, ap (λ (xs : List SegmentView). length xs) is, length-append older (s ∷ [])) in
    let at : slice_get stack (length stack - 1) ≡ Some s =
    ap (λ (k : ℕ). slice_get stack k) long ∙ ap (λ (xs : List SegmentView). slice_get xs (length older)) is ∙ get-end older s in
    let both_are : Some t ≡ Some s = sym g ∙ at in
    cc

-- and stood above the others
pub newest_above : (stack older : List SegmentView) (s t : SegmentView) → stack ≡ older ++ s ∷ [] → slice_get stack (length stack - 1) ≡ Some t → stack ≡ older ++ t ∷ []
newest_above stack older s t is g = is ∙ ap (λ (x : SegmentView). older ++ x ∷ []) (sym (newest_was stack older s t is g))

pub record IsDropped (old new : StoreView) (stack older : List SegmentView) (s : SegmentView) : Type 0 where
  pub means : entries old stack ≡ entries new older ++ entry old s ∷ []
  pub moves : Moves old new stack older none none

pub newest_dropped : (old new : StoreView) (stack older : List SegmentView) (s : SegmentView) → stack ≡ older ++ s ∷ [] → IsLawfulStack old stack → Holds old (named_on stack) → Follows old new (named_by s) none → IsDropped old new stack older s
newest_dropped old new stack older s is lawful holds follows =
    let named : (key : ℕ) → named_on stack key ≡ named_on older key + named_by s key = λ key.
    ap (λ (xs : List SegmentView). named_on xs key) is ∙ named_on_both older (s ∷ []) key ∙ omega arith in
    let held : Holds old (both (named_by s) (named_on older)) = λ key. omega (arith, holds key, named key) in
    let kept = stack_kept old new older (follows_keeps old new (named_by s) none (named_on older) (named_on older) follows held (λ key. omega arith)) (older_lawful old stack older s is lawful) in
    record {
      means = ap (entries old) is ∙ map-append (entry old) older (s ∷ []) ∙ ap (λ (ms : List Meaning). ms ++ entry old s ∷ []) (sym kept.1);
      moves = record {
        lawful = kept.0;
        follows =
            follows_counted old new (both (named_on older) (named_by s)) (both (named_on older) none) (both (named_on stack) none) (both (named_on older) none)
            (λ key. omega (arith, named key)) (λ key. refl)
            (follows_after old new (named_by s) none (named_on older) follows);
      };
    }
