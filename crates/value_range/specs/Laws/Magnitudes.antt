-- Magnitudes over an interval, signs, and the factorial.
use Rattle.std.proofs.Common.{◌≡◌, ℕ, zero, suc, ◌+◌, ◌-◌, ◌*◌, ◌≤◌, Bool, true, false, IsTrue, ◌&&◌, ◌⊎◌, inl, inr, ℤ, pos, negsuc, ◌≤ℤ◌, ◌<ℤ◌, int_le, if◌then◌else◌, refl, sym, subst, ◌∙◌, add-zero, add-suc, arith}
use Rattle.std.proofs.Math.Nat.{mul-le-mul_right, le_refl}
use Rattle.std.specs.Int.{int_min, int_signum}
use Rattle.std.proofs.lemmas.Int.{ints, clamps}
use Rattle.apl_base.specs.Scalar.{magnitude, factorial}
use Rattle.value_range.specs.Interval.{has_zero, most_of}
use Rattle.value_range.specs.Laws.Tests.{both, both_back, le_test, le_tested}
use Rattle.value_range.specs.Laws.Shown.{Holds, Inside}

-- the least magnitude in a..b
abbrev pub low_at : Bool → ℤ → ℤ → ℤ
low_at zero_in a b = if zero_in then pos 0 else int_min (magnitude a) (magnitude b)

pub magnitude-most : (a b x : ℤ) → Holds a b x → magnitude x ≤ℤ most_of a b
magnitude-most a b x h = omega (arith, ints, clamps)

pub le_trans : (a b c : ℤ) → a ≤ℤ b → b ≤ℤ c → a ≤ℤ c
le_trans a b c h k = omega (arith, ints)

pub no_zero : (a b : ℤ) → a ≤ℤ b → has_zero a b ≡ false → (pos 0 <ℤ a) ⊎ (b <ℤ pos 0)
no_zero a b h e = by (int_le a (pos 0)) (int_le (pos 0) b) refl refl e
  where
    by : (s t : Bool) → int_le a (pos 0) ≡ s → int_le (pos 0) b ≡ t → (s && t) ≡ false → (pos 0 <ℤ a) ⊎ (b <ℤ pos 0)
    by true t p q e =
        let f : int_le (pos 0) b ≡ false = q ∙ e in
        inr (omega (arith, ints))
    by false t p q e = inl (omega (arith, ints))

pub zero_within : (a b x : ℤ) → Holds a b x → x ≡ pos 0 → IsTrue (has_zero a b)
zero_within a b x h e = both_back (int_le a (pos 0)) (int_le (pos 0) b) (le_tested a (pos 0) (omega (arith, ints))) (le_tested (pos 0) b (omega (arith, ints)))

pub zero_inside : (a b p q : ℤ) → Inside a b p q → IsTrue (has_zero a b) → IsTrue (has_zero p q)
zero_inside a b p q i e =
    let t = both (int_le a (pos 0)) (int_le (pos 0) b) e in
    let u : a ≤ℤ pos 0 = le_test a (pos 0) t.0 in
    let v : pos 0 ≤ℤ b = le_test (pos 0) b t.1 in
    both_back (int_le p (pos 0)) (int_le (pos 0) q) (le_tested p (pos 0) (omega (arith, ints))) (le_tested (pos 0) q (omega (arith, ints)))

-- over less of an interval the least magnitude is no less
pub low-inside : (a b p q : ℤ) → a ≤ℤ b → Inside a b p q → low_at (has_zero p q) p q ≤ℤ low_at (has_zero a b) a b
low-inside a b p q h i = by (has_zero a b) (has_zero p q) refl refl
  where
    by : (s t : Bool) → has_zero a b ≡ s → has_zero p q ≡ t → low_at t p q ≤ℤ low_at s a b
    by true true e f = omega (arith, ints)
    by false true e f = omega (arith, ints, clamps)
    by true false e f = let g : true ≡ false = sym (zero_inside a b p q i e) ∙ f in cc
    by false false e f =
        elim (no_zero p q (omega (arith, ints)) f) as (λ _. int_min (magnitude p) (magnitude q) ≤ℤ int_min (magnitude a) (magnitude b)) [
          | inl l ↦ omega (arith, ints, clamps)
          | inr l ↦ omega (arith, ints, clamps)
        ]

pub low-magnitude : (a b x : ℤ) → Holds a b x → low_at (has_zero a b) a b ≤ℤ magnitude x
low-magnitude a b x h = by (has_zero a b) refl
  where
    by : (t : Bool) → has_zero a b ≡ t → low_at t a b ≤ℤ magnitude x
    by true e = omega (arith, ints)
    by false e =
        elim (no_zero a b (le_trans a x b h.least h.most) e) as (λ _. int_min (magnitude a) (magnitude b) ≤ℤ magnitude x) [
          | inl l ↦ omega (arith, ints, clamps)
          | inr l ↦ omega (arith, ints, clamps)
        ]

pub low_nonnegative : (t : Bool) (a b : ℤ) → pos 0 ≤ℤ low_at t a b
low_nonnegative true a b = omega (arith, ints)
low_nonnegative false a b = omega (arith, ints, clamps)

pub most-inside : (a b p q : ℤ) → a ≤ℤ b → Inside a b p q → most_of a b ≤ℤ most_of p q
most-inside a b p q h i = omega (arith, ints, clamps)

pub int_signum-le : (a b : ℤ) → a ≤ℤ b → int_signum a ≤ℤ int_signum b
int_signum-le (pos a) (pos b) h = omega (arith, ints)
int_signum-le (pos a) (negsuc b) h = omega (arith, ints)
int_signum-le (negsuc a) (pos b) h = omega (arith, ints)
int_signum-le (negsuc a) (negsuc b) h = omega (arith, ints)

pub factorial-positive : (n : ℕ) → 1 ≤ factorial n
factorial-positive zero = omega arith
factorial-positive (suc n) = omega (arith, mul-le-mul_right (factorial n) (let l : 1 ≤ suc n = omega arith in l), factorial-positive n)

pub factorial-grows : (n k : ℕ) → factorial n ≤ factorial (n + k)
factorial-grows n zero = rw add-zero (le_refl _)
factorial-grows n (suc k) =
    let more : 1 * factorial (n + k) ≤ suc (n + k) * factorial (n + k) = mul-le-mul_right (factorial (n + k)) (let l : 1 ≤ suc (n + k) = omega arith in l) in
    let before = factorial-grows n k in
    rw add-suc (omega arith)

pub factorial-le : (m n : ℕ) → m ≤ n → factorial m ≤ factorial n
factorial-le m n h =
    let e : m + (n - m) ≡ n = omega arith in
    subst (λ (k : ℕ). factorial m ≤ factorial k) e (factorial-grows m (n - m))
