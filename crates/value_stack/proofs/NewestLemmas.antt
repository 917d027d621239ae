-- Entries at a position, the newest of them, and how many leaves they name.
use Rattle.std.proofs.Common.{◌≡◌, ℕ, suc, ◌-◌, ◌*◌, ◌<◌, ◌≤◌, Bool, true, false, List, [], ◌∷◌, ◌++◌, length, Some, None, refl, ap, ◌∙◌, arith}
use Rattle.std.specs.Prelude.{slice_get}
use Rattle.std.specs.List.{AllByRecursion}
use Rattle.std.proofs.lemmas.List.{map-append, length-append}
use Rattle.array_store.specs.Stores.{StoreView}
use Rattle.drag_along.specs.Segments.{SegmentView, IsSegment}
use Rattle.drag_along.specs.Meaning.{entry}
use Rattle.drag_along.proofs.OneLeafLemmas.{named_at_most}
use Rattle.value_stack.specs.Stacks.{named_on, entries, MayFail, IsLeastOrNone}
use Rattle.value_stack.proofs.EntriesLemmas.{named_on-cons}

-- ---- entries at a position

-- the entry behind others
pub get-behind : (before : List SegmentView) (a : SegmentView) (after : List SegmentView) → slice_get (before ++ a ∷ after) (length before) ≡ Some a
get-behind [] a after = refl
get-behind (b ∷ before) a after = get-behind before a after

-- the entry at the end
pub get-end : (older : List SegmentView) (s : SegmentView) → slice_get (older ++ s ∷ []) (length older) ≡ Some s
get-end older s = get-behind older s []

pub newest_at : (stack older : List SegmentView) (s : SegmentView) → stack ≡ older ++ s ∷ [] → slice_get stack (length stack - 1) ≡ Some s
newest_at stack older s is =
    let long : length stack - 1 ≡ length older = omega (arith, ap (λ (xs : List SegmentView). length xs) is, length-append older (s ∷ [])) in
    ap (λ (k : ℕ). slice_get stack k) long ∙ ap (λ (xs : List SegmentView). slice_get xs (length older)) is ∙ get-end older s

-- a stack that has an entry has a newest
pub last_there : (stack : List SegmentView) → 0 < length stack → (s : SegmentView) × (slice_get stack (length stack - 1) ≡ Some s)
last_there [] some = absurd (omega (arith, some))
last_there (a ∷ []) some = (a, refl)
last_there (a ∷ b ∷ stack) some =
    let at : length (a ∷ b ∷ stack) - 1 ≡ suc (length (b ∷ stack) - 1) = omega arith in
    let rest = last_there (b ∷ stack) (omega arith) in
    (rest.0, ap (λ (k : ℕ). slice_get (a ∷ b ∷ stack) k) at ∙ rest.1)

-- where no entry may fail, none at a position does
pub safe_at : (stack : List SegmentView) (k : ℕ) (s : SegmentView) → IsLeastOrNone MayFail stack 0 None → slice_get stack k ≡ Some s → s.may_fail ≡ false
safe_at stack k s safe g = by s.may_fail refl
  where
    by : (t : Bool) → s.may_fail ≡ t → s.may_fail ≡ false
    by true e = absurd (safe k (omega arith) (s, g, e))
    by false e = e

-- ---- over a store

pub entries_end : (store : StoreView) (stack older : List SegmentView) (s : SegmentView) → stack ≡ older ++ s ∷ [] → entries store stack ≡ entries store older ++ entry store s ∷ []
entries_end store stack older s is = ap (entries store) is ∙ map-append (entry store) older (s ∷ [])

-- 65 leaves an entry at most name an owner
pub few_named : (stack : List SegmentView) (key : ℕ) → AllByRecursion IsSegment stack → named_on stack key ≤ 65 * length stack
few_named [] key all = omega arith
few_named (g ∷ stack) key all = omega (arith, named_on-cons g stack key, named_at_most g key all.0, few_named stack key all.1)
