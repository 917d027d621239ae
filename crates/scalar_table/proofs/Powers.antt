-- The powers of 0, 1 and -1, and those that are past every number of the language.
use Rattle.std.proofs.Common.{◌≡◌, ℕ, zero, suc, ◌-◌, ◌^◌, ◌%◌, ◌<◌, ◌≤◌, ◌==◌, true, false, cond, ◌&&◌, ℤ, pos, negsuc, ◌<ℤ◌, ◌≤ℤ◌, unsigned_abs, Some, None, refl, ◌∙◌, ap, arith}
use Rattle.std.specs.Int.{int_pow}
use Rattle.std.proofs.lemmas.Int.{ints}
use Rattle.std.proofs.lemmas.Bool.{lt-leb, ne_eqb, eq-eqb}
use Rattle.std.proofs.Math.Nat.{pow-le-pow_left, pow-le-pow_right}
use Rattle.apl_base.specs.Scalar.{in_range, power}
use Rattle.scalar_table.specs.LawfulNumbers.{one-pow, unsigned_abs-int_pow}

pub power-one : (e : ℤ) → power (pos 1) e ≡ Some (pos 1)
power-one (pos n) = ap (λ k. in_range (pos k)) (one-pow n)
power-one (negsuc n) = ap (λ k. Some (pos k)) (one-pow (suc n))

zero-pow : (n : ℕ) → 0 ^ suc n ≡ 0
zero-pow n = omega arith

pub power-zero : (e : ℤ) → pos 0 <ℤ e → power (pos 0) e ≡ Some (pos 0)
power-zero (pos zero) h = absurd (omega (arith, ints))
power-zero (pos (suc n)) h = ap (λ k. in_range (pos k)) (zero-pow n)
power-zero (negsuc n) h = absurd (omega (arith, ints))

power-minus_one : (e : ℤ) → power (negsuc 0) e ≡ Some (cond (unsigned_abs e % 2 == 0) (pos 1) (negsuc 0))
power-minus_one (pos n) = rw one-pow (elim (n % 2 == 0) as (λ b. in_range (cond b (pos 1) (negsuc 0)) ≡ Some (cond b (pos 1) (negsuc 0))) [ true ↦ refl | false ↦ refl ])
power-minus_one (negsuc n) = rw one-pow refl

pub power-minus_one-even : (e : ℤ) → unsigned_abs e % 2 ≡ 0 → power (negsuc 0) e ≡ Some (pos 1)
power-minus_one-even e even = power-minus_one e ∙ ap (λ b. Some (cond b (pos 1) (negsuc 0))) (eq-eqb (unsigned_abs e % 2) 0 even)

pub power-minus_one-odd : (e : ℤ) → (unsigned_abs e % 2 ≡ 0 → ⊥) → power (negsuc 0) e ≡ Some (negsuc 0)
power-minus_one-odd e odd = power-minus_one e ∙ ap (λ b. Some (cond b (pos 1) (negsuc 0))) (ne_eqb (unsigned_abs e % 2) 0 odd)

pub power-none : (a e : ℤ) → 2 ≤ unsigned_abs a → e <ℤ pos 0 → power a e ≡ None
power-none a (pos n) big below = absurd (omega (arith, ints))
power-none a (negsuc n) big below =
    let other : unsigned_abs a ≡ 1 → ⊥ = λ e. omega arith in
    ap (λ b. cond b (Some (int_pow a (suc n))) None) (ne_eqb (unsigned_abs a) 1 other)

huge : (m n : ℕ) → 2 ≤ m → 120 ≤ n → 10 ^ 36 < m ^ n
huge m n base far =
    let a : 2 ^ n ≤ m ^ n = pow-le-pow_left base n in
    let b : 2 ^ 120 ≤ 2 ^ n = pow-le-pow_right (omega arith) far in
    omega arith

outside : (z : ℤ) → 10 ^ 36 < unsigned_abs z → in_range z ≡ None
outside (pos n) h = ap (λ b. cond b (Some (pos n)) None) (lt-leb n (10 ^ 36) h)
outside (negsuc n) h = ap (λ b. cond (b && true) (Some (negsuc n)) None) (lt-leb n (10 ^ 36 - 1) (omega arith))

pub power-far : (a e : ℤ) → 2 ≤ unsigned_abs a → pos 120 ≤ℤ e → power a e ≡ None
power-far a (negsuc n) big far = absurd (omega (arith, ints))
power-far a (pos n) big far =
    outside (int_pow a n) (rw unsigned_abs-int_pow (huge (unsigned_abs a) n big (omega (arith, ints))))
