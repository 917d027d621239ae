-- A descriptor is determined by its lengths and its numbers.
use Rattle.std.proofs.Common.{◌≡◌, ℕ, zero, suc, ◌<◌, ◌≤◌, ℤ, pos, ◌+ℤ◌, ◌*ℤ◌, List, [], ◌∷◌, length, refl, ap, sym, subst, ◌∙◌, arith}
use Rattle.std.specs.List.{AllByRecursion}
use Rattle.std.proofs.lemmas.Int.{ints}
use Rattle.apl_base.specs.Array.{IsIndex, size_of}
use Rattle.apl_base.specs.Selection.{only_index}
use Rattle.array_desc.specs.Desc.{DescView, IsDesc, ShortAxesRest, dot, number}
use Rattle.array_desc.proofs.Indices.{index_with_size, positive}
use Rattle.array_desc.proofs.Sums.{dot-zeros}

-- two bases and lists of strides that give the same numbers
pub record SameNumbers (b c : ℤ) (ss ts : List ℤ) (ns : List ℕ) : Type 0 where
  pub each : (i : List ℕ) → IsIndex ns i → b +ℤ dot ss i ≡ c +ℤ dot ts i

pub first_same : (b c : ℤ) (ss ts : List ℤ) (ns : List ℕ) → 0 < size_of ns → SameNumbers b c ss ts ns → b ≡ c
first_same b c ss ts ns p h =
    let e = h.each (only_index ns) (index_with_size ns p) in
    omega (arith, ints, e, dot-zeros ss ns, dot-zeros ts ns)

unit_same : (b c s t : ℤ) (ss ts : List ℤ) (ns : List ℕ) (n : ℕ) → 1 < n → 0 < size_of ns → b ≡ c → SameNumbers b c (s ∷ ss) (t ∷ ts) (n ∷ ns) → s ≡ t
unit_same b c s t ss ts ns n q p f h =
    let e = h.each (1 ∷ only_index ns) (q, index_with_size ns p) in
    omega (arith, ints, e, dot-zeros ss ns, dot-zeros ts ns)

without_first : (b c s t x y : ℤ) → b +ℤ ((s *ℤ pos 0) +ℤ x) ≡ c +ℤ ((t *ℤ pos 0) +ℤ y) → b +ℤ x ≡ c +ℤ y
without_first b c s t x y h = omega (arith, ints, h)

rest_same : (b c s t : ℤ) (ss ts : List ℤ) (ns : List ℕ) (n : ℕ) → 0 < n → SameNumbers b c (s ∷ ss) (t ∷ ts) (n ∷ ns) → SameNumbers b c ss ts ns
rest_same b c s t ss ts ns n p h = record { each = λ i q. without_first b c s t (dot ss i) (dot ts i) (h.each (0 ∷ i) (p, q)) }

pub strides_same : (b c : ℤ) (ss ts : List ℤ) (ns : List ℕ) → length ss ≡ length ns → length ts ≡ length ns → ShortAxesRest ss ns → ShortAxesRest ts ns → 0 < size_of ns → SameNumbers b c ss ts ns → ss ≡ ts
strides_same b c [] [] [] l m x y p h = refl
strides_same b c (s ∷ ss) (t ∷ ts) (zero ∷ ns) l m x y p h = absurd (omega (arith, p))
strides_same b c (s ∷ ss) (t ∷ ts) (suc zero ∷ ns) l m x y p h =
    let o : 1 ≤ 1 = omega arith in
    let r = strides_same b c ss ts ns (omega (arith, l)) (omega (arith, m)) x.1 y.1 (positive 0 (size_of ns) p) (rest_same b c s t ss ts ns 1 (omega arith) h) in
    ap (λ v. v ∷ ss) (x.0 o ∙ sym (y.0 o)) ∙ ap (λ v. t ∷ v) r
strides_same b c (s ∷ ss) (t ∷ ts) (suc (suc n) ∷ ns) l m x y p h =
    let z = positive (suc n) (size_of ns) p in
    let e = unit_same b c s t ss ts ns (suc (suc n)) (omega arith) z (first_same b c (s ∷ ss) (t ∷ ts) (suc (suc n) ∷ ns) p h) h in
    let r = strides_same b c ss ts ns (omega (arith, l)) (omega (arith, m)) x.1 y.1 z (rest_same b c s t ss ts ns (suc (suc n)) (omega arith) h) in
    ap (λ v. v ∷ ss) e ∙ ap (λ v. t ∷ v) r
strides_same b c [] (t ∷ ts) [] l m x y p h = absurd (omega (arith, m))
strides_same b c [] ts (n ∷ ns) l m x y p h = absurd (omega (arith, l))
strides_same b c (s ∷ ss) ts [] l m x y p h = absurd (omega (arith, l))
strides_same b c (s ∷ ss) [] (n ∷ ns) l m x y p h = absurd (omega (arith, m))

zeros_same : (ss ts : List ℤ) → length ss ≡ length ts → AllByRecursion (λ s. s ≡ pos 0) ss → AllByRecursion (λ s. s ≡ pos 0) ts → ss ≡ ts
zeros_same [] [] l x y = refl
zeros_same (s ∷ ss) (t ∷ ts) l x y =
    ap (λ v. v ∷ ss) (x.0 ∙ sym y.0) ∙ ap (λ v. t ∷ v) (zeros_same ss ts (omega (arith, l)) x.1 y.1)
zeros_same [] (t ∷ ts) l x y = absurd (omega (arith, l))
zeros_same (s ∷ ss) [] l x y = absurd (omega (arith, l))

-- descriptors with the same base, strides and lengths are the same
pub parts_same : (d e : DescView) → d.base ≡ e.base → d.strides ≡ e.strides → d.shape ≡ e.shape → d ≡ e
parts_same d e p q r = λ i. record { base = p i; strides = q i; shape = r i }

by_size : (d e : DescView) (n : ℕ) → n ≡ size_of d.shape → IsDesc d → IsDesc e → d.shape ≡ e.shape → ((i : List ℕ) → IsIndex d.shape i → number d i ≡ number e i) → d ≡ e
by_size d e zero z w v r h =
    let x = w.empty (sym z) in
    let y = v.empty (ap size_of (sym r) ∙ sym z) in
    parts_same d e (x.base ∙ sym y.base) (zeros_same d.strides e.strides (w.strides ∙ ap length r ∙ sym v.strides) x.strides y.strides) r
by_size d e (suc n) z w v r h =
    let p : 0 < size_of d.shape = omega (arith, z) in
    let s : SameNumbers d.base e.base d.strides e.strides d.shape = record { each = h } in
    let P : List ℕ → Type 0 = ShortAxesRest e.strides in
    parts_same d e (first_same d.base e.base d.strides e.strides d.shape p s)
    (strides_same d.base e.base d.strides e.strides d.shape w.strides (v.strides ∙ ap length (sym r)) w.short (subst P (sym r) v.short) p s) r

pub determined : (d e : DescView) → IsDesc d → IsDesc e → d.shape ≡ e.shape → ((i : List ℕ) → IsIndex d.shape i → number d i ≡ number e i) → d ≡ e
determined d e w v r h = by_size d e (size_of d.shape) refl w v r h
