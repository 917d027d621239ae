-- The entries that read the owner of a leaf, and who holds it after they were moved.
use Rattle.std.proofs.Common.{◌≡◌, ℕ, zero, suc, ◌+◌, ◌≤◌, Bool, true, false, cond, List, [], ◌∷◌, ◌++◌, length, map, None, refl, sym, ap, ◌∙◌, subst, inl, inr, arith}
use Rattle.std.specs.Prelude.{nat_lt}
use Rattle.std.specs.List.{filter}
use Rattle.std.proofs.lemmas.Bool.{cases_lt, cases_eq}
use Rattle.std.proofs.lemmas.Bool.Decides.{nat_tests, Decides-ltb}
use Rattle.apl_base.specs.declared.cells.Kind.{Kind}
use Rattle.apl_base.specs.Array.{size_of}
use Rattle.array_desc.specs.Desc.{DescView, IsWhole}
use Rattle.array_store.specs.Stores.{StoreView, AreCounts, holders_of, cells_of}
use Rattle.array_store.specs.Follows.{Follows, Holds, one_of, both}
use Rattle.array_store.proofs.FollowsLemmas.{cells_of-kept}
use Rattle.array_store.proofs.CameLemmas.{renews_nothing}
use Rattle.drag_along.specs.declared.leaves.Leaf.{Leaf}
use Rattle.drag_along.specs.declared.leaves.Leaf.TheVariants.{Stored, Gen}
use Rattle.drag_along.specs.Nodes.{leaf_shape, named_by_leaf}
use Rattle.drag_along.specs.Segments.{SegmentView, named_by}
use Rattle.drag_along.specs.Lawful.{IsLawful, MeansWithin}
use Rattle.drag_along.specs.Views.{FillsShape}
use Rattle.value_stack.specs.Stacks.{named_on, Reads, IsSoAt, IsLeastOrNone, IsLawfulStack}
use Rattle.e_machine.specs.declared.faults.ForceFault.{ForceFault}
use Rattle.e_machine.specs.declared.faults.ForceFault.TheVariants as force
use Rattle.e_machine.specs.Forced.{elements_of}
use Rattle.alias_force.specs.Moving.{IsOwn, IsMoved, AreMoved, ComputesAll, OwnersCame, StopsAt}
use Rattle.alias_force.specs.Steps.{IsNoFault, ReadsAll}
use Rattle.alias_force.specs.Writing.{reads, HasAlone, ClearsReaders}
use Rattle.alias_force.proofs.EntryLemmas.{one_of-self, one_of-other}
use Rattle.alias_force.proofs.SafeLemmas.{IsSafe, safe_rest, safe_first, safe_cons}
use Rattle.value_stack.proofs.EntriesLemmas.{named_on-cons}

-- ---- a leaf that reads no owner

none_read : (desc : DescView) (kind : Kind) (stack : List SegmentView) → filter (reads (Gen desc kind)) stack ≡ []
none_read desc kind [] = refl
none_read desc kind (g ∷ stack) = none_read desc kind stack

stay : (desc : DescView) (kind : Kind) (s : StoreView) (stack : List SegmentView) → AreMoved (reads (Gen desc kind)) s stack stack
stay desc kind s [] = tt
stay desc kind s (g ∷ stack) = (record { own = λ so. absurd (cc); same = λ not_so. refl }, stay desc kind s stack)

pub nothing_read : (desc : DescView) (kind : Kind) (s : StoreView) (stack : List SegmentView) → AreCounts s.counts → ClearsReaders s s stack stack (Gen desc kind)
nothing_read desc kind s stack small =
    let none : [] ≡ filter (reads (Gen desc kind)) stack = sym (none_read desc kind stack) in
    record {
      moved = stay desc kind s stack;
      computes = subst (λ (xs : List SegmentView). ComputesAll s s xs 0) none (record { applied = omega (arith, small.applied); made = omega (arith, small.made); fetched = record { low = omega arith; high = omega arith } });
      came = subst (λ (xs : List SegmentView). OwnersCame s s (map elements_of xs)) none (record { came = []; renews = renews_nothing s; cells = refl });
      idle = λ e. refl;
    }

-- ---- no entry may fail

-- an entry that was moved may not fail, nor one that stayed
moved_stays_safe : (test : SegmentView → Bool) (s : StoreView) (before after : SegmentView) → IsMoved test s before after → before.may_fail ≡ false → after.may_fail ≡ false
moved_stays_safe test s before after moved safe = by (test before) refl
  where
    by : (b : Bool) → test before ≡ b → after.may_fail ≡ false
    by true e = ap (λ (g : SegmentView). g.may_fail) (moved.own e).is
    by false e = ap (λ (g : SegmentView). g.may_fail) (moved.same (λ so. absurd (cc))) ∙ safe

-- with younger ones that stayed
moved_before : (test : SegmentView → Bool) (s : StoreView) (older moved younger : List SegmentView) → AreMoved test s older moved → IsSafe (older ++ younger) → IsSafe (moved ++ younger)
moved_before test s [] [] younger all safe = safe
moved_before test s [] (y ∷ ys) younger all safe = absurd all
moved_before test s (x ∷ xs) [] younger all safe = absurd all
moved_before test s (x ∷ xs) (y ∷ ys) younger all safe =
    safe_cons y (ys ++ younger) (moved_stays_safe test s x y all.0 (safe_first x (xs ++ younger) safe)) (moved_before test s xs ys younger all.1 (safe_rest x (xs ++ younger) safe))

pub stays_safe : (test : SegmentView → Bool) (s : StoreView) (before after : List SegmentView) → AreMoved test s before after → IsSafe before → IsSafe after
stays_safe test s [] [] all safe = safe
stays_safe test s [] (y ∷ ys) all safe = absurd all
stays_safe test s (x ∷ xs) [] all safe = absurd all
stays_safe test s (x ∷ xs) (y ∷ ys) all safe =
    safe_cons y ys (moved_stays_safe test s x y all.0 (safe_first x xs safe)) (stays_safe test s xs ys all.1 (safe_rest x xs safe))

pub stops_safe : (test : SegmentView → Bool) (old new : StoreView) (before after : List SegmentView) (fault : ForceFault) → StopsAt test old new before after fault → IsSafe before → IsSafe after
stops_safe test old new before after fault stops safe =
    subst IsSafe (sym stops.after_is) (moved_before test new stops.older stops.moved (stops.segment ∷ stops.younger) stops.are_moved (subst IsSafe stops.before_is safe))

-- so what is refused is no fault
lawful_at : (s : StoreView) (moved younger : List SegmentView) (g : SegmentView) → IsLawfulStack s (moved ++ g ∷ younger) → IsLawful s g
lawful_at s [] younger g lawful = lawful.0
lawful_at s (x ∷ moved) younger g lawful = lawful_at s moved younger g lawful.1

safe_at : (moved younger : List SegmentView) (g : SegmentView) → IsSafe (moved ++ g ∷ younger) → g.may_fail ≡ false
safe_at [] younger g safe = safe_first g younger safe
safe_at (x ∷ moved) younger g safe = safe_at moved younger g (safe_rest x (moved ++ g ∷ younger) safe)

pub no_fault : (test : SegmentView → Bool) (old new : StoreView) (before after : List SegmentView) (fault : ForceFault) → StopsAt test old new before after fault → IsSafe before → IsLawfulStack new after → IsNoFault fault
no_fault test old new before after (force.Fault place) stops safe lawful =
    let here = lawful_at new stops.moved stops.younger stops.segment (subst (IsLawfulStack new) stops.after_is lawful) in
    subst (MeansWithin stops.segment.range) stops.refused.0 (here.sound (safe_at stops.older stops.younger stops.segment (subst IsSafe stops.before_is safe)))
no_fault test old new before after (force.WsFull live asked) stops safe lawful = tt
no_fault test old new before after force.NoMemory stops safe lawful = tt

-- ---- who holds the owner afterwards

-- an entry that has an owner of its own names no owner that another leaf holds too
own_names_not : (s : StoreView) (y : SegmentView) (owner : ℕ) → IsOwn s y → named_by y owner + 1 ≤ holders_of s owner → named_by y owner ≡ 0
own_names_not s y owner own held =
    let by_leaf : named_by_leaf own.leaf owner ≡ one_of own.key owner = ap (λ (l : Leaf). named_by_leaf l owner) own.view.is in
    let named : named_by y owner ≡ one_of own.key owner = omega (arith, ap (λ (x : SegmentView). named_by x owner) own.is, by_leaf) in
    elim (cases_eq owner own.key) [
      | inl same ↦
          let once : holders_of s owner ≡ 1 = ap (holders_of s) same ∙ own.own.alone in
          omega (arith, once, held)
      | inr differs ↦ named ∙ one_of-other own.key owner differs
    ]

-- an entry that the test of readers lets stay names it not
stays_unread : (owner : ℕ) (desc : DescView) (kind : Kind) (g : SegmentView) → reads (Stored owner desc kind) g ≡ false → named_by g owner ≡ 0
stays_unread owner desc kind g e = elim (cases_lt 0 (named_by g owner)) [
  | inl some ↦ (let so : nat_lt 0 (named_by g owner) ≡ true = (Decides-ltb 0 (named_by g owner)).1 some in absurd (cc))
  | inr none ↦ omega (arith, none)
]

moved_unread : (s : StoreView) (owner : ℕ) (desc : DescView) (kind : Kind) (x y : SegmentView) → IsMoved (reads (Stored owner desc kind)) s x y → named_by y owner + 1 ≤ holders_of s owner → named_by y owner ≡ 0
moved_unread s owner desc kind x y moved held = by (reads (Stored owner desc kind) x) refl
  where
    by : (b : Bool) → reads (Stored owner desc kind) x ≡ b → named_by y owner ≡ 0
    by true e = own_names_not s y owner (moved.own e) held
    by false e = ap (λ (g : SegmentView). named_by g owner) (moved.same (λ so. absurd (cc))) ∙ stays_unread owner desc kind x e

pub all_unread : (s : StoreView) (owner : ℕ) (desc : DescView) (kind : Kind) (xs ys : List SegmentView) → AreMoved (reads (Stored owner desc kind)) s xs ys → named_on ys owner + 1 ≤ holders_of s owner → named_on ys owner ≡ 0
all_unread s owner desc kind [] [] all held = refl
all_unread s owner desc kind [] (y ∷ ys) all held = absurd all
all_unread s owner desc kind (x ∷ xs) [] all held = absurd all
all_unread s owner desc kind (x ∷ xs) (y ∷ ys) all held =
    let first = moved_unread s owner desc kind x y all.0 (omega (arith, held, named_on-cons y ys owner)) in
    let rest = all_unread s owner desc kind xs ys all.1 (omega (arith, held, named_on-cons y ys owner)) in
    omega (arith, first, rest, named_on-cons y ys owner)

-- no leaf of the entries names it, so no entry reads it
pub unnamed_unread : (stack : List SegmentView) (owner : ℕ) → named_on stack owner ≡ 0 → IsLeastOrNone (Reads owner) stack 0 None
unnamed_unread stack owner none = λ k low so. not_there stack k none so
  where
    not_there : (xs : List SegmentView) (k : ℕ) → named_on xs owner ≡ 0 → IsSoAt (Reads owner) xs k → ⊥
    not_there [] k e so = let f = so.1 in absurd (cc)
    not_there (x ∷ xs) zero e so = let is : x ≡ so.0 = (let f = so.1 in cc) in omega (arith, so.2, ap (λ (g : SegmentView). named_by g owner) is, named_on-cons x xs owner, e)
    not_there (x ∷ xs) (suc k) e so = not_there xs k (omega (arith, named_on-cons x xs owner, e)) so

-- what is known after the readers were moved
pub record IsCleared (old new : StoreView) (before after : List SegmentView) (owner : ℕ) : Type 0 where
  pub unread : named_on after owner ≡ 0
  pub holders : holders_of new owner + named_on before owner ≡ holders_of old owner
  pub cells : cells_of new owner ≡ cells_of old owner

pub cleared : (old new : StoreView) (before after : List SegmentView) (owner : ℕ) (desc : DescView) (kind : Kind) → Holds old (both (named_on before) (named_by_leaf (Stored owner desc kind))) → Follows old new (named_on before) (named_on after) → AreMoved (reads (Stored owner desc kind)) new before after → IsCleared old new before after owner
cleared old new before after owner desc kind holds follows moved =
    let unread : named_on after owner ≡ 0 = all_unread new owner desc kind before after moved (omega (arith, holds owner, follows.holders owner, one_of-self owner)) in
    record {
      unread = unread;
      holders = omega (arith, follows.holders owner, unread);
      cells = cells_of-kept old new owner (follows.kept owner (omega (arith, holds owner, one_of-self owner)));
    }

pub found_alone : (old new : StoreView) (before after : List SegmentView) (owner : ℕ) (desc : DescView) (kind : Kind) → IsCleared old new before after owner → ReadsAll old (Stored owner desc kind) → holders_of new owner ≡ 1 → HasAlone old before (Stored owner desc kind) owner × FillsShape new owner desc.shape × (holders_of new owner ≡ 1) × IsLeastOrNone (Reads owner) after 0 None
found_alone old new before after owner desc kind is all once = (
  record {
    view = record { desc = desc; whole = all.0; is = refl };
    fills = record { live = omega (arith, is.holders, once); count = all.1 };
    alone = omega (arith, is.holders, once);
  },
  record { live = omega (arith, once); count = ap length is.cells ∙ all.1 },
  once,
  unnamed_unread after owner is.unread,
)

pub not_alone : (old new : StoreView) (before after : List SegmentView) (owner : ℕ) (desc : DescView) (kind : Kind) → IsCleared old new before after owner → (ReadsAll old (Stored owner desc kind) → holders_of new owner ≡ 1 → ⊥) → (key : ℕ) → HasAlone old before (Stored owner desc kind) key → ⊥
not_alone old new before after owner desc kind is never key has =
    let same : owner ≡ key = (let e = has.view.is in cc) in
    let of_desc : desc ≡ has.view.desc = (let e = has.view.is in cc) in
    let whole : IsWhole desc.shape desc = subst (IsWhole desc.shape) (sym of_desc) has.view.whole in
    let count : length (cells_of old owner) ≡ size_of desc.shape = ap (λ (k : ℕ). length (cells_of old k)) same ∙ has.fills.count in
    let once : holders_of old owner ≡ named_on before owner + 1 = subst (λ (k : ℕ). holders_of old k ≡ named_on before k + 1) (sym same) has.alone in
    never (whole, count) (omega (arith, is.holders, once))

-- ---- the same of a leaf that is stored

pub clears_of : (old new : StoreView) (before after : List SegmentView) (leaf : Leaf) (owner : ℕ) (desc : DescView) (kind : Kind) → leaf ≡ Stored owner desc kind → ClearsReaders old new before after (Stored owner desc kind) → ClearsReaders old new before after leaf
clears_of old new before after leaf owner desc kind is clears = subst (ClearsReaders old new before after) (sym is) clears

pub cleared_of : (old new : StoreView) (before after : List SegmentView) (leaf : Leaf) (owner : ℕ) (desc : DescView) (kind : Kind) → leaf ≡ Stored owner desc kind → Holds old (both (named_on before) (named_by_leaf leaf)) → Follows old new (named_on before) (named_on after) → AreMoved (reads (Stored owner desc kind)) new before after → IsCleared old new before after owner
cleared_of old new before after leaf owner desc kind is holds follows moved =
    cleared old new before after owner desc kind (subst (λ (l : Leaf). Holds old (both (named_on before) (named_by_leaf l))) is holds) follows moved

pub found_of : (old new : StoreView) (before after : List SegmentView) (leaf : Leaf) (owner : ℕ) (desc : DescView) (kind : Kind) → leaf ≡ Stored owner desc kind → IsCleared old new before after owner → ReadsAll old leaf → holders_of new owner ≡ 1 → HasAlone old before leaf owner × FillsShape new owner (leaf_shape leaf) × (holders_of new owner ≡ 1) × IsLeastOrNone (Reads owner) after 0 None
found_of old new before after leaf owner desc kind is clear all once =
    subst (λ (l : Leaf). HasAlone old before l owner × FillsShape new owner (leaf_shape l) × (holders_of new owner ≡ 1) × IsLeastOrNone (Reads owner) after 0 None) (sym is)
    (found_alone old new before after owner desc kind clear (subst (ReadsAll old) is all) once)

pub lacks_of : (old new : StoreView) (before after : List SegmentView) (leaf : Leaf) (owner : ℕ) (desc : DescView) (kind : Kind) → leaf ≡ Stored owner desc kind → IsCleared old new before after owner → (ReadsAll old leaf → holders_of new owner ≡ 1 → ⊥) → (key : ℕ) → HasAlone old before leaf key → ⊥
lacks_of old new before after leaf owner desc kind is clear never key has =
    not_alone old new before after owner desc kind clear (λ all once. never (subst (ReadsAll old) (sym is) all) once) key (subst (λ (l : Leaf). HasAlone old before l key) is has)

-- ---- where no entry reads an owner

unread_first : (g : SegmentView) (stack : List SegmentView) (owner : ℕ) → IsLeastOrNone (Reads owner) (g ∷ stack) 0 None → nat_lt 0 (named_by g owner) ≡ false
unread_first g stack owner unread = elim (cases_lt 0 (named_by g owner)) [
  | inl some ↦ absurd (unread 0 (omega arith) (g, refl, some))
  | inr none ↦ grind (arith, nat_tests)
]

pub unread_is_clear : (stack : List SegmentView) (owner : ℕ) (desc : DescView) (kind : Kind) → IsLeastOrNone (Reads owner) stack 0 None → filter (reads (Stored owner desc kind)) stack ≡ []
unread_is_clear [] owner desc kind unread = refl
unread_is_clear (g ∷ stack) owner desc kind unread =
    let rest : List SegmentView = filter (reads (Stored owner desc kind)) stack in
    ap (λ (b : Bool). cond b (g ∷ rest) rest) (unread_first g stack owner unread) ∙ unread_is_clear stack owner desc kind (λ k low so. unread (suc k) (omega arith) so)
