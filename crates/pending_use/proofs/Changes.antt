-- A stack on which entries go and others come, the newest ones.
use Rattle.std.proofs.Common.{◌≡◌, List, [], ◌∷◌, ◌++◌, refl, sym, ap, ◌∙◌, subst, arith}
use Rattle.std.proofs.lemmas.List.{append-nil}
use Rattle.std.proofs.lemmas.List.Sums.{sum_by-cons}
use Rattle.array_store.specs.Stores.{StoreView}
use Rattle.array_store.specs.Follows.{LeafCounts, Follows, both, none}
use Rattle.array_store.proofs.FollowsLemmas.{follows_counted}
use Rattle.drag_along.specs.Segments.{SegmentView, named_by}
use Rattle.drag_along.specs.Meaning.{Meaning, entry}
use Rattle.drag_along.specs.Lawful.{IsLawful}
use Rattle.value_stack.specs.Stacks.{named_on, entries, IsLawfulStack, IsReplaced}
use Rattle.value_stack.proofs.EntriesLemmas.{replaced, pushed_stack}
use Rattle.pending_use.specs.Uses.{Stands, Becomes}

-- where older entries stayed and others came, whatever leaves are beside
becomes : (old new : StoreView) (before after older came : List SegmentView) → after ≡ older ++ came → ((beside : LeafCounts) → Stands old before beside → IsReplaced old new older came [] (both none beside)) → Becomes old new before after (entries old older ++ entries new came)
becomes old new before after older came is all =
    let one_left : (older ++ came) ++ [] ≡ after = append-nil (older ++ came) ∙ sym is in
    record {
      stands = λ beside stands. record {
        lawful = subst (IsLawfulStack new) one_left (all beside stands).lawful;
        held = λ key. omega (arith, (all beside stands).held key, ap (λ (xs : List SegmentView). named_on xs key) one_left);
      };
      entries_mean = λ beside stands.
          ap (entries new) (sym one_left) ∙ (all beside stands).means ∙ append-nil (entries old older ++ entries new came);
    }

-- entries go and none come
gone : (old new : StoreView) (before after went : List SegmentView) → before ≡ after ++ went → Follows old new (named_on went) none → Becomes old new before after (entries old after)
gone old new before after went was follows =
    let one_more : (after ++ went) ++ [] ≡ before = append-nil (after ++ went) ∙ sym was in
    let counted : Follows old new (both (named_on went) none) (both (named_on []) none) =
    follows_counted old new (named_on went) none _ _ (λ key. omega arith) (λ key. refl) follows in
    subst (Becomes old new before after) (append-nil (entries old after))
    (becomes old new before after after [] (sym (append-nil after)) (λ beside stands.
    replaced old new after went [] [] none none beside
    (subst (IsLawfulStack old) (sym one_more) stands.lawful)
    (λ key. omega (arith, stands.held key, ap (λ (xs : List SegmentView). named_on xs key) one_more))
    counted tt))

-- the newest entry goes
pub dropped : (old new : StoreView) (before after : List SegmentView) (s : SegmentView) → before ≡ after ++ s ∷ [] → Follows old new (named_by s) none → Becomes old new before after (entries old after)
dropped old new before after s was follows =
    gone old new before after (s ∷ []) was
    (follows_counted old new (named_by s) none _ _ (λ key. omega (arith, sum_by-cons (λ (g : SegmentView). named_by g key) s [])) (λ key. refl) follows)

-- no entry goes or comes
pub stayed : (old new : StoreView) (before after : List SegmentView) → after ≡ before → Follows old new none none → Becomes old new before after (entries old before)
stayed old new before after same follows =
    subst (λ (xs : List SegmentView). Becomes old new before after (entries old xs)) same
    (gone old new before after [] (sym same ∙ sym (append-nil after)) (follows_counted old new none none _ _ (λ key. refl) (λ key. refl) follows))

-- an entry comes, which means this
pub pushed : (old new : StoreView) (before after : List SegmentView) (s : SegmentView) (m : Meaning) → after ≡ before ++ s ∷ [] → Follows old new none (named_by s) → IsLawful new s → entry new s ≡ m → Becomes old new before after (entries old before ++ m ∷ [])
pushed old new before after s m is follows lawful means =
    let counted : Follows old new none (both (named_by s) none) =
    follows_counted old new none (named_by s) _ _ (λ key. refl) (λ key. omega arith) follows in
    subst (λ (x : Meaning). Becomes old new before after (entries old before ++ x ∷ [])) means
    (becomes old new before after before (s ∷ []) is (λ beside stands.
    pushed_stack old new before s none none beside stands.lawful (λ key. omega (arith, stands.held key)) counted lawful))
