-- Lemmas on the entries of a stack.
use Rattle.std.proofs.Common.{◌≡◌, ℕ, ◌+◌, ◌<◌, ◌≤◌, List, [], ◌∷◌, ◌++◌, length, get_or, set, Option, Some, None, refl, sym, ap, ◌∙◌, subst, inl, inr, arith}
use Rattle.std.specs.Prelude.{Bool, true, false, MatchOption, slice_get}
use Rattle.std.specs.Option.{option_to_list}
use Rattle.std.proofs.lemmas.Bool.{cases_eq}
use Rattle.std.proofs.lemmas.Option.{slice_get_read, slice_get_cases}
use Rattle.std.proofs.lemmas.List.Sums.{sum_by-set, sum_by-append}
use Rattle.drag_along.specs.Segments.{SegmentView, named_by}
use Rattle.value_stack.specs.Stacks.{named_on, IsSoAt, NoneBetween, IsLeast}

pub named_on-pushed : (old inside new : List SegmentView) (s : SegmentView) → inside ≡ old → new ≡ inside ++ s ∷ [] → (key : ℕ) → named_on new key ≡ named_on old key + named_by s key
named_on-pushed old inside new s e h key =
    omega (arith, ap (λ (xs : List SegmentView). named_on xs key) h, ap (λ (xs : List SegmentView). named_on xs key) e, sum_by-append (λ (g : SegmentView). named_by g key) inside (s ∷ []))

pub named_on-popped : (old inside new : List SegmentView) (r : Option SegmentView) → inside ≡ old → inside ≡ new ++ option_to_list r → MatchOption r ((key : ℕ) → named_on new key ≡ named_on old key) (λ s. (key : ℕ) → named_on new key + named_by s key ≡ named_on old key)
named_on-popped old inside new None e h =
    λ key. omega (arith, ap (λ (xs : List SegmentView). named_on xs key) h, ap (λ (xs : List SegmentView). named_on xs key) e, sum_by-append (λ (g : SegmentView). named_by g key) new [])
named_on-popped old inside new (Some s) e h =
    λ key. omega (arith, ap (λ (xs : List SegmentView). named_on xs key) h, ap (λ (xs : List SegmentView). named_on xs key) e, sum_by-append (λ (g : SegmentView). named_by g key) new (s ∷ []))

pub named_on-replaced : (old inside : List SegmentView) (at : ℕ) (s put g : SegmentView) → inside ≡ old → at < length inside → g ≡ get_or inside at g → put ≡ s → (key : ℕ) → named_on (set inside at put) key + named_by g key ≡ named_on old key + named_by s key
named_on-replaced old inside at s put g e h read same key =
    omega (arith, sum_by-set (λ (x : SegmentView). named_by x key) inside at put g h, ap (λ (xs : List SegmentView). named_on xs key) e, ap (λ (x : SegmentView). named_by x key) same, ap (λ (x : SegmentView). named_by x key) read)

-- the first entry that is so
pub least_found : (P : SegmentView → Type 0) (inside now : List SegmentView) (from at : ℕ) (g : SegmentView) → inside ≡ now → from ≤ at → at < length inside → g ≡ get_or inside at g → P g → NoneBetween P inside from at → IsLeast P now from at
least_found P inside now from at g e low h read so none =
    subst (λ (xs : List SegmentView). IsLeast P xs from at) e (record {
      low = low;
      there = (g, slice_get_read inside (length inside) at g refl h read, so);
      before = none;
    })

-- one more entry that is not so
pub none_next : (P : SegmentView → Type 0) (inside : List SegmentView) (from at : ℕ) (g : SegmentView) → at < length inside → g ≡ get_or inside at g → (P g → ⊥) → NoneBetween P inside from at → NoneBetween P inside from (at + 1)
none_next P inside from at g h read differs none = λ k low high so.
    elim (cases_eq k at) [
      | inl same ↦
          let here : slice_get inside at ≡ Some so.0 = ap (slice_get inside) (sym same) ∙ so.1 in
          differs (subst P (same_item so.0 g (sym here ∙ slice_get_read inside (length inside) at g refl h read)) so.2)
      | inr other ↦ none k low (omega arith) so
    ]
  where
    same_item : (x y : SegmentView) → Some x ≡ Some y → x ≡ y
    same_item x y e = cc

-- none up to the end is none at all
pub none_left : (P : SegmentView → Type 0) (inside now : List SegmentView) (from at : ℕ) → inside ≡ now → length inside ≤ at → NoneBetween P inside from at → (k : ℕ) → from ≤ k → IsSoAt P now k → ⊥
none_left P inside now from at e h none k low so =
    let there : IsSoAt P inside k = subst (λ (xs : List SegmentView). IsSoAt P xs k) (sym e) so in
    elim (slice_get_cases inside k).1 [
      | inl found ↦ none k low (omega (arith, found.1)) there
      | inr past ↦ absurd (no_item there.0 (sym past.1 ∙ there.1))
    ]
  where
    no_item : (x : SegmentView) → None ≡ Some x → ⊥
    no_item x e = absurd (cc)

pub not_both : (a b : Bool) → a ≡ b → a ≡ false → b ≡ true → ⊥
not_both a b e f t = absurd (cc)
