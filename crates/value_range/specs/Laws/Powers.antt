-- Powers of numbers that are not negative.
use Rattle.std.proofs.Common.{◌≡◌, ℕ, zero, suc, ◌^◌, ◌≤◌, max, Bool, true, false, ℤ, pos, negsuc, ◌≤ℤ◌, int_le, unsigned_abs, if◌then◌else◌, ◌&&◌, ◌<ℤ◌, neg_ℤ, Some, None, refl, sym, ap, ◌∙◌, arith}
use Rattle.std.proofs.Math.Nat.{pow-suc, pow-le-pow_left, pow-le-pow_right, le_trans}
use Rattle.std.proofs.lemmas.Int.{ints, clamps}
use Rattle.apl_base.specs.declared.cells.TheConstants.{M}
use Rattle.apl_base.specs.Scalar.{in_range, power}
use Rattle.value_range.specs.Interval.{to_the, low_power, high_power}

pub pow-le : (m n b d : ℕ) → m ≤ b → n ≤ d → 1 ≤ b → m ^ n ≤ b ^ d
pow-le m n b d h k p = le_trans (pow-le-pow_left h n) (pow-le-pow_right p k)

pub zero-pow-le : (n : ℕ) → 0 ^ n ≤ 1
zero-pow-le zero = omega arith
zero-pow-le (suc n) = omega (arith, pow-suc 0 n)

pub pow-high : (m n b d : ℕ) → m ≤ b → n ≤ d → m ^ n ≤ max 1 (b ^ d)
pow-high m n zero d h k =
    let l = le_trans (pow-le-pow_left h n) (zero-pow-le n) in
    omega arith
pow-high m n (suc b) d h k = let l = pow-le m n (suc b) d h k (omega arith) in omega arith

pub to_the-pos : (a n : ℤ) → pos 0 ≤ℤ a → to_the a n ≡ pos (unsigned_abs a ^ unsigned_abs n)
to_the-pos (pos a) n h = refl
to_the-pos (negsuc a) n h = absurd (omega (arith, ints))

pub power-pos : (x y : ℤ) → pos 0 ≤ℤ x → pos 0 ≤ℤ y → power x y ≡ in_range (pos (unsigned_abs x ^ unsigned_abs y))
power-pos (pos x) (pos y) h k = refl
power-pos (pos x) (negsuc y) h k = absurd (omega (arith, ints))
power-pos (negsuc x) y h k = absurd (omega (arith, ints))

-- a larger base and a larger exponent give a power that is no smaller
pub high_power-holds : (b d x y : ℤ) → pos 0 ≤ℤ x → x ≤ℤ b → pos 0 ≤ℤ y → y ≤ℤ d → pos (unsigned_abs x ^ unsigned_abs y) ≤ℤ high_power b d
high_power-holds b d x y h k l m =
    let e = to_the-pos b d (omega (arith, ints)) in
    let low = pow-high (unsigned_abs x) (unsigned_abs y) (unsigned_abs b) (unsigned_abs d) (omega (arith, ints)) (omega (arith, ints)) in
    rw e (omega (arith, ints, clamps))

pub low_power-holds : (a c x y : ℤ) → pos 0 ≤ℤ a → a ≤ℤ x → pos 0 ≤ℤ c → c ≤ℤ y → low_power a c ≤ℤ pos (unsigned_abs x ^ unsigned_abs y)
low_power-holds a c x y h k l m = by (int_le (pos 1) a) refl
  where
    by : (t : Bool) → int_le (pos 1) a ≡ t → (if t then to_the a c else pos 0) ≤ℤ pos (unsigned_abs x ^ unsigned_abs y)
    by true e =
        let low = pow-le (unsigned_abs a) (unsigned_abs c) (unsigned_abs x) (unsigned_abs y) (omega (arith, ints)) (omega (arith, ints)) (omega (arith, ints)) in
        rw (to_the-pos a c h) (omega (arith, ints))
    by false e = omega (arith, ints)

pub low_power-inside : (a c p r : ℤ) → pos 0 ≤ℤ p → p ≤ℤ a → pos 0 ≤ℤ r → r ≤ℤ c → low_power p r ≤ℤ low_power a c
low_power-inside a c p r h k l m = by (int_le (pos 1) a) refl
  where
    by : (t : Bool) → int_le (pos 1) a ≡ t → low_power p r ≤ℤ (if t then to_the a c else pos 0)
    by true e =
        let low = low_power-holds p r a c h k l m in
        rw (to_the-pos a c (omega (arith, ints))) low
    by false e =
        let f : int_le (pos 1) p ≡ false = sym (omega (arith, ints)) in
        rw f (omega (arith, ints))

-- a power is no greater than the high power of larger numbers
pub high_power-inside : (b d q s : ℤ) → pos 0 ≤ℤ b → b ≤ℤ q → pos 0 ≤ℤ d → d ≤ℤ s → high_power b d ≤ℤ high_power q s
high_power-inside b d q s h k l m =
    let high = high_power-holds q s b d h k l m in
    let e = to_the-pos b d h in
    rw e (omega (arith, ints, clamps))

pub low_power-nonnegative : (a c : ℤ) → pos 0 ≤ℤ low_power a c
low_power-nonnegative a c = by (int_le (pos 1) a) refl
  where
    by : (t : Bool) → int_le (pos 1) a ≡ t → pos 0 ≤ℤ (if t then to_the a c else pos 0)
    by true e = rw (to_the-pos a c (omega (arith, ints))) (omega (arith, ints))
    by false e = omega (arith, ints)

one-pow : (n : ℕ) → 1 ^ n ≡ 1
one-pow zero = refl
one-pow (suc n) = omega (arith, pow-suc 1 n, one-pow n)

-- 0 and 1 to a power above 0 are themselves
pub low_base : (b e : ℤ) → pos 0 ≤ℤ b → b ≤ℤ pos 1 → pos 0 ≤ℤ e → (e ≡ pos 0 → ⊥) → Some b ≡ in_range (to_the b e)
low_base (pos zero) (pos zero) h k l m = absurd (m refl)
low_base (pos zero) (pos (suc n)) h k l m = let e : 0 ^ suc n ≡ 0 = omega (arith, pow-suc 0 n) in sym (ap (λ (z : ℕ). in_range (pos z)) e)
low_base (pos (suc zero)) (pos n) h k l m = sym (ap (λ (z : ℕ). in_range (pos z)) (one-pow n))
low_base (pos (suc (suc b))) (pos n) h k l m = absurd (omega (arith, ints))
low_base (negsuc b) e h k l m = absurd (omega (arith, ints))
low_base (pos b) (negsuc n) h k l m = absurd (omega (arith, ints))

beyond : (z : ℤ) → M <ℤ z → None ≡ in_range z
beyond z h =
    let e : int_le z M ≡ false = sym (omega (arith, ints)) in
    sym (ap (λ (t : Bool). if int_le (neg_ℤ M) z && t then Some z else None) e ∙ neither (int_le (neg_ℤ M) z) z)
  where
    neither : (t : Bool) (z : ℤ) → (if t && false then Some z else None) ≡ None
    neither true z = refl
    neither false z = refl

-- 2 to the power 120 is no number, nor is a larger power
pub high_exponent : (b e : ℤ) → pos 2 ≤ℤ b → pos 120 ≤ℤ e → None ≡ in_range (to_the b e)
high_exponent b e h k =
    let t = to_the-pos b e (omega (arith, ints)) in
    let l = pow-le 2 120 (unsigned_abs b) (unsigned_abs e) (omega (arith, ints)) (omega (arith, ints)) (omega (arith, ints)) in
    let m : M <ℤ pos (2 ^ 120) = record { lt = tt } in
    rw t (beyond (pos (unsigned_abs b ^ unsigned_abs e)) (omega (arith, ints)))
