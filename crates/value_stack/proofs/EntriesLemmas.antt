-- Stacks over a store: entries that stay while others go and come.
use Rattle.std.proofs.Common.{◌≡◌, ◌≢◌, ℕ, zero, suc, ◌+◌, ◌<◌, ◌≤◌, ℤ, List, [], ◌∷◌, ◌++◌, length, drop, Some, None, refl, sym, ap, ◌∙◌, subst, inl, inr, arith}
use Rattle.std.specs.Prelude.{slice_get}
use Rattle.std.specs.List.{AllByRecursion}
use Rattle.std.proofs.lemmas.Bool.{cases_lt}
use Rattle.std.proofs.lemmas.List.{append-nil, map-append}
use Rattle.std.proofs.lemmas.List.Sums.{sum_by-cons, sum_by-append}
use Rattle.apl_base.proofs.Lists.{all_append}
use Rattle.array_store.specs.Stores.{StoreView, holders_of, cells_of, with_cell}
use Rattle.array_store.specs.Follows.{LeafCounts, Follows, Holds, both}
use Rattle.array_store.proofs.FollowsLemmas.{follows_counted}
use Rattle.array_store.proofs.StoreLemmas.{written_is_only}
use Rattle.drag_along.specs.Segments.{SegmentView, named_by}
use Rattle.drag_along.specs.Meaning.{Meaning, entry}
use Rattle.drag_along.specs.Lawful.{IsLawful, SameData}
use Rattle.drag_along.proofs.KeptLemmas.{follows_keeps, segment_kept}
use Rattle.value_stack.specs.Stacks.{named_on, entries, Reads, IsLeastOrNone, IsLawfulStack, IsHeldBy, IsReplaced}

pub named_on_both : (older younger : List SegmentView) (key : ℕ) → named_on (older ++ younger) key ≡ named_on older key + named_on younger key
named_on_both older younger key = sum_by-append (λ (g : SegmentView). named_by g key) older younger

pub named_on-cons : (g : SegmentView) (xs : List SegmentView) (key : ℕ) → named_on (g ∷ xs) key ≡ named_by g key + named_on xs key
named_on-cons g xs key = sum_by-cons (λ (x : SegmentView). named_by x key) g xs

-- no entry reads the owner, so no leaf names it
none_named : (stack : List SegmentView) (key : ℕ) → IsLeastOrNone (Reads key) stack 0 None → named_on stack key ≡ 0
none_named [] key none = refl
none_named (g ∷ stack) key none =
    let rest : named_on stack key ≡ 0 = none_named stack key (λ k low so. none (suc k) (omega arith) so) in
    elim (cases_lt 0 (named_by g key)) [
      | inl reads ↦ absurd (none 0 (omega arith) (g, refl, reads))
      | inr unread ↦ omega (arith, named_on-cons g stack key, rest, unread)
    ]

pub unread_is_unnamed : (stack : List SegmentView) (key from : ℕ) → IsLeastOrNone (Reads key) stack from None → named_on (drop from stack) key ≡ 0
unread_is_unnamed stack key zero none = none_named stack key none
unread_is_unnamed [] key (suc from) none = refl
unread_is_unnamed (g ∷ stack) key (suc from) none =
    unread_is_unnamed stack key from (λ k low so. none (suc k) (omega (arith, low)) so)

pub entry_is_lawful : (store : StoreView) (stack : List SegmentView) (at : ℕ) (segment : SegmentView) → IsLawfulStack store stack → slice_get stack at ≡ Some segment → IsLawful store segment
entry_is_lawful store [] at segment lawful found = absurd (cc)
entry_is_lawful store (g ∷ stack) zero segment lawful found = let e : g ≡ segment = cc in subst (IsLawful store) e lawful.0
entry_is_lawful store (g ∷ stack) (suc at) segment lawful found = entry_is_lawful store stack at segment lawful.1 found

-- ---- entries that stay

all_older : {X : Type 0} (P : X → Type 0) (xs ys : List X) → AllByRecursion P (xs ++ ys) → AllByRecursion P xs
all_older P [] ys all = tt
all_older P (x ∷ xs) ys all = (all.0, all_older P xs ys all.1)

all_younger : {X : Type 0} (P : X → Type 0) (xs ys : List X) → AllByRecursion P (xs ++ ys) → AllByRecursion P ys
all_younger P [] ys all = all
all_younger P (x ∷ xs) ys all = all_younger P xs ys all.1

-- lawful over the new store, with the meanings that they had
record Kept (old new : StoreView) (stack : List SegmentView) : Type 0 where
  lawful : IsLawfulStack new stack
  means : entries new stack ≡ entries old stack

kept_all : (old new : StoreView) (others : LeafCounts) (stack : List SegmentView) → SameData old new others → ((key : ℕ) → named_on stack key ≤ others key) → IsLawfulStack old stack → Kept old new stack
kept_all old new others [] same few lawful = record { lawful = tt; means = refl }
kept_all old new others (g ∷ stack) same few lawful =
    let its : SameData old new (named_by g) = record {
      live = λ key named. same.live key (omega (arith, named, named_on-cons g stack key, few key));
      kept = λ key named. same.kept key (omega (arith, named, named_on-cons g stack key, few key));
    } in
    let here = segment_kept old new g its lawful.0 in
    let rest = kept_all old new others stack same (λ key. omega (arith, named_on-cons g stack key, few key)) lawful.1 in
    record {
      lawful = (here.0, rest.lawful);
      means = ap (λ (m : Meaning). m ∷ entries new stack) here.1 ∙ ap (λ (ms : List Meaning). entry old g ∷ ms) rest.means;
    }

-- over the same data a stack is lawful, and means the same
pub stack_kept : (old new : StoreView) (stack : List SegmentView) → SameData old new (named_on stack) → IsLawfulStack old stack → IsLawfulStack new stack × (entries new stack ≡ entries old stack)
stack_kept old new stack same lawful =
    let kept = kept_all old new (named_on stack) stack same (λ key. omega arith) lawful in
    (kept.lawful, kept.means)

named_on_three : (older some younger : List SegmentView) (key : ℕ) → named_on ((older ++ some) ++ younger) key ≡ named_on older key + named_on some key + named_on younger key
named_on_three older some younger key = omega (arith, named_on_both (older ++ some) younger key, named_on_both older some key)

pub replaced : (old new : StoreView) (older gone came younger : List SegmentView) (before after beside : LeafCounts) → IsLawfulStack old ((older ++ gone) ++ younger) → IsHeldBy old ((older ++ gone) ++ younger) (both before beside) → Follows old new (both (named_on gone) before) (both (named_on came) after) → IsLawfulStack new came → IsReplaced old new older came younger (both after beside)
replaced old new older gone came younger before after beside lawful held follows new_lawful =
    let others : LeafCounts = both (named_on older) (named_on younger) in
    let holds : Holds old (both (both (named_on gone) before) others) = λ key. omega (arith, held key, named_on_three older gone younger key) in
    let same = follows_keeps old new (both (named_on gone) before) (both (named_on came) after) others others follows holds (λ key. omega arith) in
    let lower = kept_all old new others older same (λ key. omega arith) (all_older (IsLawful old) older gone (all_older (IsLawful old) (older ++ gone) younger lawful)) in
    let upper = kept_all old new others younger same (λ key. omega arith) (all_younger (IsLawful old) (older ++ gone) younger lawful) in
    record {
      lawful = all_append (IsLawful new) (older ++ came) younger (all_append (IsLawful new) older came lower.lawful new_lawful) upper.lawful;
      held = λ key. omega (arith, held key, follows.holders key, named_on_three older gone younger key, named_on_three older came younger key);
      means =
          map-append (entry new) (older ++ came) younger ∙ ap (λ (ms : List Meaning). ms ++ entries new younger) (map-append (entry new) older came)
          ∙ ap (λ (ms : List Meaning). (ms ++ entries new came) ++ entries new younger) lower.means ∙ ap (λ (ms : List Meaning). (entries old older ++ entries new came) ++ ms) upper.means;
    }

-- an entry more
pub pushed_stack : (old new : StoreView) (stack : List SegmentView) (pushed : SegmentView) (before after beside : LeafCounts) → IsLawfulStack old stack → IsHeldBy old stack (both before beside) → Follows old new before (both (named_by pushed) after) → IsLawful new pushed → IsReplaced old new stack (pushed ∷ []) [] (both after beside)
pushed_stack old new stack pushed before after beside lawful held follows is_lawful =
    let none_more : (stack ++ []) ++ [] ≡ stack = append-nil (stack ++ []) ∙ append-nil stack in
    let one : (key : ℕ) → named_on (pushed ∷ []) key ≡ named_by pushed key = λ key. omega (arith, named_on-cons pushed [] key) in
    replaced old new stack [] (pushed ∷ []) [] before after beside
    (subst (IsLawfulStack old) (sym none_more) lawful)
    (λ key. omega (arith, held key, named_on_three stack [] [] key))
    (follows_counted old new before (both (named_by pushed) after) (both (named_on []) before) (both (named_on (pushed ∷ [])) after) (λ key. omega arith) (λ key. omega (arith, one key)) follows)
    (is_lawful, tt)

-- a cell written in an owner that no entry reads
pub unread_written : (store : StoreView) (stack : List SegmentView) (key place : ℕ) (cell : ℤ) → 0 < holders_of store key → place < length (cells_of store key) → Holds store (named_on stack) → IsLeastOrNone (Reads key) stack 0 None → IsLawfulStack store stack → IsLawfulStack (with_cell store key place cell) stack × (entries (with_cell store key place cell) stack ≡ entries store stack)
unread_written store stack key place cell live below holds none lawful =
    let unnamed : named_on stack key ≡ 0 = unread_is_unnamed stack key 0 none in
    let only = written_is_only store key place cell live below in
    let apart : (other : ℕ) → 0 < named_on stack other → other ≢ key = λ other named same. let e : named_on stack other ≡ named_on stack key = ap (named_on stack) same in omega (arith, named, e, unnamed) in
    stack_kept store (with_cell store key place cell) stack
    (record {
      live = λ other named. omega (arith, only.holders other, holds other, named);
      kept = λ other named. only.others other (apart other named);
    })
    lawful
