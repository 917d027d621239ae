-- Entries that go into hand as leaves.
use Rattle.std.proofs.Common.{◌≡◌, ℕ, ◌+◌, List, [], ◌∷◌, ◌++◌, Some, refl, sym, ap, subst, ◌∙◌, arith}
use Rattle.std.proofs.lemmas.List.{map-append}
use Rattle.apl_base.specs.Array.{Array}
use Rattle.array_desc.specs.Desc.{IsDesc}
use Rattle.array_store.specs.Stores.{StoreView}
use Rattle.array_store.specs.Follows.{Follows, Holds, both, none}
use Rattle.array_store.proofs.FollowsLemmas.{follows_same, follows_then, follows_beside, follows_after, follows_counted}
use Rattle.drag_along.specs.declared.leaves.Leaf.{Leaf}
use Rattle.drag_along.specs.Nodes.{leaf_desc, leaf_shape, named_by_leaf}
use Rattle.drag_along.specs.Segments.{SegmentView, IsSegment, named_by, leaf_segment}
use Rattle.drag_along.specs.Meaning.{Meaning, Means, leaf_array, entry}
use Rattle.drag_along.specs.Lawful.{IsLawful, IsLawfulLeaf, SameData}
use Rattle.drag_along.specs.Views.{StandsForArray, only_leaf}
use Rattle.drag_along.proofs.KeptLemmas.{follows_keeps}
use Rattle.drag_along.proofs.OneLeafLemmas.{one_leaf_segment, one_leaf_means, one_leaf_lawful}
use Rattle.value_stack.specs.Stacks.{named_on, entries, IsLawfulStack}
use Rattle.value_stack.proofs.EntriesLemmas.{named_on_both, stack_kept}
use Rattle.pending_steps.specs.Leaves.{TakesLeaf, ComesAsLeaf}
use Rattle.pending_steps.proofs.StepLemmas.{older_lawful}
use Rattle.leaf_names.proofs.StandsLemmas.{stands_kept}

-- an expression that is a leaf comes as that leaf
pub leaf_comes : (store : StoreView) (s : SegmentView) (leaf copied : Leaf) → IsSegment s → IsLawful store s → only_leaf s.nodes ≡ Some leaf → copied ≡ leaf → IsDesc (leaf_desc leaf) → ComesAsLeaf store store s copied
leaf_comes store s leaf copied h l only same desc =
    let is : s ≡ leaf_segment leaf s.range = one_leaf_segment s leaf h only in
    let lawful : IsLawfulLeaf store leaf = ((one_leaf_lawful store leaf s.range).0 (subst (IsLawful store) is l)).0 in
    let comes : ComesAsLeaf store store s leaf = record {
      array = leaf_array store (leaf_shape leaf) leaf;
      means = one_leaf_means store s leaf h only;
      stands = record { lawful = lawful; shape = record { desc = desc; same = refl }; kind = refl; array = refl };
      follows = follows_counted store store (named_by s) (named_by s) (named_by s) (named_by_leaf leaf) (λ key. refl) (λ key. omega (arith, ap (λ (x : SegmentView). named_by x key) is)) (follows_same store (named_by s));
    } in
    subst (ComesAsLeaf store store s) (sym same) comes

-- an expression that was computed and let go
pub computed_comes : (old made new : StoreView) (s : SegmentView) (leaf : Leaf) (a : Array) → Holds old (named_by s) → entry old s ≡ Means a → StandsForArray made leaf a → Follows old made none (named_by_leaf leaf) → Follows made new (named_by s) none → ComesAsLeaf old new s leaf
computed_comes old made new s leaf a holds means stands came gone =
    let held : Holds made (both (named_by s) (named_by_leaf leaf)) =
    (λ key. omega (arith, holds key, came.holders key)) in
    let same : SameData made new (named_by_leaf leaf) = follows_keeps made new (named_by s) none (named_by_leaf leaf) (named_by_leaf leaf) gone held (λ key. omega arith) in
    let first : Follows old made (both none (named_by s)) (both (named_by_leaf leaf) (named_by s)) = follows_beside old made none (named_by_leaf leaf) (named_by s) came in
    let second : Follows made new (both (named_by_leaf leaf) (named_by s)) (both (named_by_leaf leaf) none) = follows_after made new (named_by s) none (named_by_leaf leaf) gone in
    record {
      array = a;
      means = means;
      stands = stands_kept made new leaf a same stands;
      follows =
          follows_counted old new (both none (named_by s)) (both (named_by_leaf leaf) none) (named_by s) (named_by_leaf leaf) (λ key. omega arith) (λ key. omega arith)
          (follows_then old made new (both none (named_by s)) (both (named_by_leaf leaf) (named_by s)) (both (named_by_leaf leaf) none) first second);
    }

-- the newest entry of a stack
pub newest_taken : (old new : StoreView) (stack older : List SegmentView) (s : SegmentView) (leaf : Leaf) → stack ≡ older ++ s ∷ [] → IsLawfulStack old stack → Holds old (named_on stack) → ComesAsLeaf old new s leaf → TakesLeaf old new stack older leaf
newest_taken old new stack older s leaf is lawful holds comes =
    let named : (key : ℕ) → named_on stack key ≡ named_on older key + named_by s key = λ key.
    ap (λ (xs : List SegmentView). named_on xs key) is ∙ named_on_both older (s ∷ []) key ∙ omega arith in
    let held : Holds old (both (named_by s) (named_on older)) = λ key. omega (arith, holds key, named key) in
    let same : SameData old new (named_on older) = follows_keeps old new (named_by s) (named_by_leaf leaf) (named_on older) (named_on older) comes.follows held (λ key. omega arith) in
    let kept = stack_kept old new older same (older_lawful old stack older s is lawful) in
    record {
      array = comes.array;
      means =
          ap (entries old) is ∙ map-append (entry old) older (s ∷ [])
          ∙ ap (λ (ms : List Meaning). ms ++ entry old s ∷ []) (sym kept.1)
          ∙ ap (λ (m : Meaning). entries new older ++ m ∷ []) comes.means;
      stands = comes.stands;
      moves = record {
        lawful = kept.0;
        follows =
            follows_counted old new (both (named_on older) (named_by s)) (both (named_on older) (named_by_leaf leaf)) (both (named_on stack) none) (both (named_on older) (named_by_leaf leaf))
            (λ key. omega (arith, named key)) (λ key. refl)
            (follows_after old new (named_by s) (named_by_leaf leaf) (named_on older) comes.follows);
      };
    }
