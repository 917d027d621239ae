-- Entries that are let go, and the newest entry.
use Rattle.std.proofs.Common.{◌≡◌, ℕ, ◌+◌, ◌-◌, ◌<◌, zero, suc, false, List, [], ◌∷◌, ◌++◌, length, Some, refl, sym, ap, subst, ◌∙◌, arith, append_assoc}
use Rattle.std.proofs.lemmas.List.{append-nil, length-append, length-map}
use Rattle.std.specs.Prelude.{slice_get}
use Rattle.std.specs.List.{AllByRecursion}
use Rattle.array_store.specs.Counting.{OnlyCounted}
use Rattle.array_store.proofs.CountingLemmas.{follows-counted}
use Rattle.array_store.specs.Stores.{StoreView}
use Rattle.array_store.specs.Follows.{Holds, both, none}
use Rattle.array_store.proofs.FollowsLemmas.{follows_same, follows_then, follows_beside, follows_counted, holds_then}
use Rattle.drag_along.specs.Segments.{SegmentView, IsSegment, named_by}
use Rattle.drag_along.specs.Meaning.{Meaning, entry}
use Rattle.drag_along.specs.Lawful.{IsLawful}
use Rattle.drag_along.proofs.KeptLemmas.{follows_keeps, segment_kept}
use Rattle.value_stack.specs.Stacks.{named_on, entries, IsLawfulStack}
use Rattle.value_stack.proofs.EntriesLemmas.{named_on_both}
use Rattle.beating.specs.declared.selections.Selection.{Selection}
use Rattle.beating.specs.Selecting.{selected_meaning}
use Rattle.pending_steps.specs.Steps.{Moves}
use Rattle.pending_steps.specs.Shapes.{IsArrayEntry}
use Rattle.pending_steps.proofs.ArrayLemmas.{safe_entry}
use Rattle.pending_steps.proofs.LiteralLemmas.{beside_made}
use Rattle.pending_steps.proofs.StepLemmas.{newest_lawful, older_lawful, pushed_lawful}
use Rattle.indexing_steps.specs.Falls.{Drops, DropsBelow, SelectsNewest}
use Rattle.value_stack.proofs.NewestLemmas.{entries_end}

-- ---- moves, one after the other

pub moves_same : (s : StoreView) (x : List SegmentView) → IsLawfulStack s x → Moves s s x x none none
moves_same s x l = record { lawful = l; follows = follows_same s (both (named_on x) none) }

pub moves_then : (a b c : StoreView) (x y z : List SegmentView) → Moves a b x y none none → Moves b c y z none none → Moves a c x z none none
moves_then a b c x y z m n = record {
  lawful = n.lawful;
  follows = follows_then a b c (both (named_on x) none) (both (named_on y) none) (both (named_on z) none) m.follows n.follows;
}

pub moves_hold : (a b : StoreView) (x y : List SegmentView) → Moves a b x y none none → Holds a (named_on x) → Holds b (named_on y)
moves_hold a b x y m h key =
    omega (arith, holds_then a b (both (named_on x) none) (both (named_on y) none) m.follows (λ k. omega (arith, h k)) key)

-- ---- the newest entry

pub record HasNewest (stack : List SegmentView) : Type 0 where
  pub older : List SegmentView
  pub newest : SegmentView
  pub whole : stack ≡ older ++ newest ∷ []

pub has_newest : (stack : List SegmentView) → 0 < length stack → HasNewest stack
has_newest [] h = absurd (omega (arith, h))
has_newest (s ∷ []) h = record { older = []; newest = s; whole = refl }
has_newest (s ∷ t ∷ stack) h =
    let rest : HasNewest (t ∷ stack) = has_newest (t ∷ stack) (omega arith) in
    record { older = s ∷ rest.older; newest = rest.newest; whole = ap (λ (xs : List SegmentView). s ∷ xs) rest.whole }

pub named_end : (stack older : List SegmentView) (s : SegmentView) (key : ℕ) → stack ≡ older ++ s ∷ [] → named_on stack key ≡ named_on older key + named_by s key
named_end stack older s key is = ap (λ (xs : List SegmentView). named_on xs key) is ∙ named_on_both older (s ∷ []) key ∙ omega arith

-- ---- entries that are let go

pub drops_none : (s : StoreView) (x : List SegmentView) → IsLawfulStack s x → Drops s s x x 0
drops_none s x l = record { gone = []; number = refl; means = sym (append-nil (entries s x)); moves = moves_same s x l }

pub drops_more : (a b c : StoreView) (x y z : List SegmentView) (n : ℕ) (m : Meaning) → Drops a b x y n → entries b y ≡ entries c z ++ m ∷ [] → Moves b c y z none none → Drops a c x z (n + 1)
drops_more a b c x y z n m d e moves = record {
  gone = m ∷ d.gone;
  number = omega (arith, d.number);
  means = d.means ∙ ap (λ (ms : List Meaning). ms ++ d.gone) e ∙ append_assoc (entries c z) (m ∷ []) d.gone;
  moves = moves_then a b c x y z d.moves moves;
}

pub drop_left : (a b : StoreView) (x y : List SegmentView) (n : ℕ) → Drops a b x y n → length y + n ≡ length x
drop_left a b x y n d =
    let long : length (entries a x) ≡ length (entries b y ++ d.gone) = ap (λ (ms : List Meaning). length ms) d.means in
    omega (arith, long, length-map x (entry a), length-map y (entry b), length-append (entries b y) d.gone, d.number)

-- an entry in hand stays as it is
pub beside : (a b : StoreView) (x y : List SegmentView) (s : SegmentView) → Moves a b x y none none → Holds a (both (named_on x) (named_by s)) → IsLawful a s → IsLawful b s × (entry b s ≡ entry a s)
beside a b x y s m h l =
    segment_kept a b s
    (follows_keeps a b (both (named_on x) none) (both (named_on y) none) (named_by s) (named_by s) m.follows (λ key. omega (arith, h key)) (λ key. omega arith)) l

pub dropped_below : (a b : StoreView) (before mid y after : List SegmentView) (s : SegmentView) (n : ℕ) → before ≡ mid ++ s ∷ [] → after ≡ y ++ s ∷ [] → IsLawfulStack a before → Holds a (named_on before) → Drops a b mid y n → DropsBelow a b before after n
dropped_below a b before mid y after s n was is lawful holds d =
    let kept = beside a b mid y s d.moves (λ key. omega (arith, holds key, named_end before mid s key was)) (newest_lawful a before mid s was lawful) in
    record {
      older = entries b y;
      gone = d.gone;
      newest = entry a s;
      number = d.number;
      was = entries_end a before mid s was ∙ ap (λ (ms : List Meaning). ms ++ entry a s ∷ []) d.means;
      is = entries_end b after y s is ∙ ap (λ (m : Meaning). entries b y ++ m ∷ []) kept.1;
      moves = record {
        lawful = pushed_lawful b after y s is d.moves.lawful kept.0;
        follows =
            follows_counted a b (both (both (named_on mid) none) (named_by s)) (both (both (named_on y) none) (named_by s)) (both (named_on before) none) (both (named_on after) none)
            (λ key. omega (arith, named_end before mid s key was)) (λ key. omega (arith, named_end after y s key is))
            (follows_beside a b (both (named_on mid) none) (both (named_on y) none) (named_by s) d.moves.follows);
      };
    }

pub mid_held : (a : StoreView) (before mid : List SegmentView) (s : SegmentView) → before ≡ mid ++ s ∷ [] → Holds a (named_on before) → Holds a (named_on mid)
mid_held a before mid s was holds key = omega (arith, holds key, named_end before mid s key was)

pub mid_long : (before mid : List SegmentView) (s : SegmentView) → before ≡ mid ++ s ∷ [] → length before ≡ length mid + 1
mid_long before mid s was = ap (λ (xs : List SegmentView). length xs) was ∙ length-append mid (s ∷ [])

-- ---- a selection of the newest entry

pub newest_selected : (store : StoreView) (before mid after : List SegmentView) (s t : SegmentView) (by : Selection) → IsSegment s → before ≡ mid ++ s ∷ [] → after ≡ mid ++ t ∷ [] → s.may_fail ≡ false → IsLawfulStack store before → IsLawful store t → entry store t ≡ selected_meaning by (entry store s) → ((key : ℕ) → named_by t key ≡ named_by s key) → SelectsNewest store before after by
newest_selected store before mid after s t by h was is safe lawful l e named =
    let one : IsArrayEntry store s = safe_entry store s h (newest_lawful store before mid s was lawful) safe in
    record {
      older = entries store mid;
      array = one.array;
      was = entries_end store before mid s was ∙ ap (λ (m : Meaning). entries store mid ++ m ∷ []) one.means;
      is = entries_end store after mid t is ∙ ap (λ (m : Meaning). entries store mid ++ m ∷ []) (e ∙ ap (selected_meaning by) one.means);
      moves = record {
        lawful = pushed_lawful store after mid t is (older_lawful store before mid s was lawful) l;
        follows =
            follows_counted store store (both (named_on before) none) (both (named_on before) none) (both (named_on before) none) (both (named_on after) none)
            (λ key. refl) (λ key. omega (arith, named_end before mid s key was, named_end after mid t key is, named key))
            (follows_same store (both (named_on before) none));
      };
    }

-- each entry of a stack is a segment
pub segment_at : (stack : List SegmentView) (k : ℕ) (s : SegmentView) → AllByRecursion IsSegment stack → slice_get stack k ≡ Some s → IsSegment s
segment_at [] k s h g = absurd cc
segment_at (x ∷ stack) zero s h g = let same : x ≡ s = cc in subst IsSegment same h.0
segment_at (x ∷ stack) (suc k) s h g = segment_at stack k s h.1 g

-- over a store that only counted, entries are as they were
pub counted_kept : (old new : StoreView) (stack : List SegmentView) → OnlyCounted old new → IsLawfulStack old stack → Holds old (named_on stack) → IsLawfulStack new stack × (entries new stack ≡ entries old stack)
counted_kept old new stack only lawful holds = beside_made old new none stack (follows-counted old new only) lawful holds
