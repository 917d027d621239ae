-- What a scalar function gives at numbers of the language is such a number.
use Rattle.std.proofs.Common.{◌≡◌, ℕ, zero, suc, ◌+◌, ◌-◌, ◌*◌, ◌/◌, ◌%◌, ◌^◌, ◌≤◌, Bool, true, false, not, ◌&&◌, ◌||◌, cond, ◌==◌, leb, ℤ, pos, negsuc, neg_ℤ, ◌-ℤ◌, ◌+ℤ◌, ◌*ℤ◌, int_le, int_lt, int_div, unsigned_abs, Option, Some, None, IfSome, refl, ap, ◌∙◌, arith}
use Rattle.std.proofs.lemmas.Int.{ints}
use Rattle.std.specs.Int.{int_pow, int_signum, int_div_euclid}
use Rattle.std.specs.Ordering.{int_eq}
use Rattle.std.proofs.Math.Nat.{div-le_self, pow-suc}
use Rattle.std.proofs.lemmas.Bool.{leb-true, eqb-true}
use Rattle.std.specs.Option.{option_map, option_and_then}
use Rattle.apl_base.proofs.Numbers.{is_number-true, IsNumber-magnitude, magnitude-IsNumber, IsNumber-int_min, IsNumber-int_max}
use Rattle.apl_base.specs.declared.rows.Mon.{Mon}
use Rattle.apl_base.specs.declared.rows.Mon.TheVariants as mon
use Rattle.apl_base.specs.declared.rows.Dya.{Dya}
use Rattle.apl_base.specs.declared.rows.Dya.TheVariants as dya
use Rattle.apl_base.specs.Number.{IsNumber, is_number}
use Rattle.apl_base.specs.Scalar.{in_range, truth, truth_value, logical, magnitude, quotient, power, residue, factorial, factorial_of, of_number, of_numbers}

pub one-pow : (n : ℕ) → 1 ^ n ≡ 1
one-pow zero = refl
one-pow (suc n) = pow-suc 1 n ∙ ap (λ k. k * 1) (one-pow n)

unsigned_abs-neg : (n : ℕ) → unsigned_abs (neg_ℤ (pos n)) ≡ n
unsigned_abs-neg zero = refl
unsigned_abs-neg (suc n) = refl

-- the magnitude of a power
pub unsigned_abs-int_pow : (a : ℤ) (n : ℕ) → unsigned_abs (int_pow a n) ≡ unsigned_abs a ^ n
unsigned_abs-int_pow (pos a) n = refl
unsigned_abs-int_pow (negsuc a) n = elim (n % 2 == 0) as (λ b. unsigned_abs (cond b (pos (suc a ^ n)) (neg_ℤ (pos (suc a ^ n)))) ≡ suc a ^ n) [ true ↦ refl | false ↦ unsigned_abs-neg (suc a ^ n) ]

-- an option that holds its value under a test
under_test : (b : Bool) (z : ℤ) → (b ≡ true → IsNumber z) → IfSome (cond b (Some z) None) IsNumber
under_test true z h = h refl
under_test false z h = tt

in_range-lawful : (z : ℤ) → IfSome (in_range z) IsNumber
in_range-lawful z = under_test (is_number z) z (is_number-true z)

zero-lawful : IsNumber (pos 0)
zero-lawful = IsNumber-magnitude (pos 0) (omega arith)

pub truth-lawful : (b : Bool) → IsNumber (truth b)
truth-lawful true = IsNumber-magnitude (pos 1) (omega arith)
truth-lawful false = zero-lawful

truth_of-lawful : (b : Bool) (o : Option Bool) (f : Bool → Bool) → IfSome (option_map (λ q. truth (f q)) o) IsNumber
truth_of-lawful b None f = tt
truth_of-lawful b (Some q) f = truth-lawful (f q)

neg-lawful : (z : ℤ) → IsNumber z → IsNumber (neg_ℤ z)
neg-lawful z h = record { least = omega (arith, ints, h.least, h.most); most = omega (arith, ints, h.least, h.most) }

sign-lawful : (z : ℤ) → IsNumber (int_signum z)
sign-lawful (pos n) = IsNumber-magnitude (int_signum (pos n)) (omega arith)
sign-lawful (negsuc n) = IsNumber-magnitude (negsuc 0) (omega arith)

magnitude-lawful : (z : ℤ) → IsNumber z → IsNumber (magnitude z)
magnitude-lawful (pos n) h = h
magnitude-lawful (negsuc n) h = neg-lawful (negsuc n) h

factorial-grows : (k n : ℕ) → factorial n ≤ factorial (k + n)
factorial-grows zero n = let e : 0 + n ≡ n = omega arith in rw e (omega arith)
factorial-grows (suc k) n =
    let e : suc k + n ≡ suc (k + n) = omega arith in
    let before : factorial n ≤ factorial (k + n) = factorial-grows k n in
    rw e (omega arith)

pub factorial-le : (n : ℕ) → n ≤ 32 → factorial n ≤ 10 ^ 36
factorial-le n h =
    let e : (32 - n) + n ≡ 32 = omega arith in
    let grows : factorial n ≤ factorial 32 = rw e at (factorial-grows (32 - n) n) in
    omega arith

factorial-lawful : (z : ℤ) → IfSome (factorial_of z) IsNumber
factorial-lawful (pos n) = under_test (leb n 32) (pos (factorial n)) (λ t. IsNumber-magnitude (pos (factorial n)) (factorial-le n (leb-true n 32 t)))
factorial-lawful (negsuc n) = tt

pub of_number-lawful : (f : Mon) (z : ℤ) → IsNumber z → IfSome (of_number f z) IsNumber
of_number-lawful mon.Plus z h = h
of_number-lawful mon.Minus z h = neg-lawful z h
of_number-lawful mon.Sign z h = sign-lawful z
of_number-lawful mon.Recip z h = under_test (unsigned_abs z == 1) z (λ t. h)
of_number-lawful mon.Ceil z h = h
of_number-lawful mon.Floor z h = h
of_number-lawful mon.Abs z h = magnitude-lawful z h
of_number-lawful mon.Not z h = truth_of-lawful true (truth_value z) not
of_number-lawful mon.Fact z h = factorial-lawful z

quotient-number : (a : ℤ) (n : ℕ) → IsNumber a → IsNumber (int_div a (pos (suc n)))
quotient-number (pos a) n h =
    let part : a / suc n ≤ a = div-le_self a (suc n) in
    IsNumber-magnitude (pos (a / suc n)) (omega (arith, ints, h.most))
quotient-number (negsuc a) n h =
    let part : suc a / suc n ≤ suc a = div-le_self (suc a) (suc n) in
    neg-lawful (pos (suc a / suc n)) (IsNumber-magnitude (pos (suc a / suc n)) (omega (arith, ints, h.least)))

quotient-lawful : (a b : ℤ) → IsNumber a → IfSome (quotient a b) IsNumber
quotient-lawful (pos zero) (pos zero) h = IsNumber-magnitude (pos 1) (omega arith)
quotient-lawful (pos (suc a)) (pos zero) h = tt
quotient-lawful (negsuc a) (pos zero) h = tt
quotient-lawful a (pos (suc b)) h = under_test (unsigned_abs a % suc b == 0) (int_div a (pos (suc b))) (λ t. quotient-number a b h)
quotient-lawful a (negsuc b) h =
    elim (unsigned_abs a % suc b == 0) as (λ t. IfSome (cond t (in_range (int_div a (negsuc b))) None) IsNumber)
    [ true ↦ in_range-lawful (int_div a (negsuc b)) | false ↦ tt ]

unit-pow : (a : ℤ) (n : ℕ) → unsigned_abs a ≡ 1 → unsigned_abs (int_pow a n) ≤ 10 ^ 36
unit-pow a n one =
    let e : unsigned_abs (int_pow a n) ≡ 1 = unsigned_abs-int_pow a n ∙ ap (λ m. m ^ n) one ∙ one-pow n in
    omega arith

power-lawful : (a b : ℤ) → IfSome (power a b) IsNumber
power-lawful a (pos n) = in_range-lawful (int_pow a n)
power-lawful a (negsuc n) = under_test (unsigned_abs a == 1) (int_pow a (suc n)) (λ t. IsNumber-magnitude (int_pow a (suc n)) (unit-pow a (suc n) (eqb-true (unsigned_abs a) 1 t)))

rest-lawful : (a : ℕ) (b : ℤ) → suc a ≤ 10 ^ 36 → IsNumber b → IsNumber (b -ℤ (pos (suc a) *ℤ int_div_euclid b (pos (suc a))))
rest-lawful a (pos n) size h =
    let whole : suc a * (n / suc a) + n % suc a ≡ n = omega arith in
    record { least = omega (arith, ints, h.most); most = omega (arith, ints, h.most) }
rest-lawful a (negsuc n) size h =
    let whole : suc a * (n / suc a) + n % suc a ≡ n = omega arith in
    let below : n % suc a ≤ a = omega arith in
    let more : suc a * suc (n / suc a) ≡ suc a * (n / suc a) + suc a = omega arith in
    record { least = omega (arith, ints, h.least); most = omega (arith, ints, h.least) }

residue-lawful : (a b : ℤ) → IsNumber a → IsNumber b → IfSome (residue a b) IsNumber
residue-lawful (pos zero) b ha hb = under_test (int_le (pos 0) b) b (λ t. hb)
residue-lawful (pos (suc a)) b ha hb = rest-lawful a b (magnitude-IsNumber (pos (suc a)) ha) hb
residue-lawful (negsuc a) b ha hb = rest-lawful a b (magnitude-IsNumber (negsuc a) ha) hb

logical-lawful : (f : Bool → Bool → Bool) (a b : ℤ) → IfSome (logical f a b) IsNumber
logical-lawful f a b = go (truth_value a) (truth_value b) where
  go : (p q : Option Bool) → IfSome (option_and_then (λ x. option_map (λ y. truth (f x y)) q) p) IsNumber
  go None q = tt
  go (Some x) None = tt
  go (Some x) (Some y) = truth-lawful (f x y)

pub of_numbers-lawful : (f : Dya) (a b : ℤ) → IsNumber a → IsNumber b → IfSome (of_numbers f a b) IsNumber
of_numbers-lawful dya.Add a b ha hb = in_range-lawful (a +ℤ b)
of_numbers-lawful dya.Sub a b ha hb = in_range-lawful (a -ℤ b)
of_numbers-lawful dya.Mul a b ha hb = in_range-lawful (a *ℤ b)
of_numbers-lawful dya.Div a b ha hb = quotient-lawful a b ha
of_numbers-lawful dya.Pow a b ha hb = power-lawful a b
of_numbers-lawful dya.Max a b ha hb = IsNumber-int_max a b ha hb
of_numbers-lawful dya.Min a b ha hb = IsNumber-int_min a b ha hb
of_numbers-lawful dya.Residue a b ha hb = residue-lawful a b ha hb
of_numbers-lawful dya.And a b ha hb = logical-lawful (λ p q. p && q) a b
of_numbers-lawful dya.Or a b ha hb = logical-lawful (λ p q. p || q) a b
of_numbers-lawful dya.Nand a b ha hb = logical-lawful (λ p q. not (p && q)) a b
of_numbers-lawful dya.Nor a b ha hb = logical-lawful (λ p q. not (p || q)) a b
of_numbers-lawful dya.Lt a b ha hb = truth-lawful (int_lt a b)
of_numbers-lawful dya.Le a b ha hb = truth-lawful (int_le a b)
of_numbers-lawful dya.Eq a b ha hb = truth-lawful (int_eq a b)
of_numbers-lawful dya.Ge a b ha hb = truth-lawful (int_le b a)
of_numbers-lawful dya.Gt a b ha hb = truth-lawful (int_lt b a)
of_numbers-lawful dya.Ne a b ha hb = truth-lawful (not (int_eq a b))
