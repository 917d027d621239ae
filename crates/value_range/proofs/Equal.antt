-- Answers of equal parts are equal.
use Rattle.std.proofs.Common.{◌≡◌, Bool, true, false, ℤ, Option, Some, None, refl, sym, ap, ◌∙◌, ◌&&◌, ◌||◌, if◌then◌else◌}
use Rattle.std.proofs.Common.{ℕ, suc, ◌+◌, ◌<◌, ◌^◌, pos, ◌*ℤ◌, FitsSigned, add-one, lit<, arith}
use Rattle.std.proofs.Math.Nat.{mul_comm}
use Rattle.std.specs.Int.{w128}
use Rattle.std.proofs.lemmas.Int.{ints}
use Rattle.apl_base.specs.Scalar.{in_range, factorial}
use Rattle.value_range.specs.Laws.Magnitudes.{factorial-le}
use Rattle.value_range.specs.Laws.Tests.{number_test}
use Rattle.apl_base.specs.Number.{is_number}
use Rattle.value_range.specs.declared.sides.Ranged.{Ranged}
use Rattle.value_range.specs.Interval.{always, not_safe, safe_where, are_numbers, least_of, greatest_of}

pub always-same : (r : Ranged) (x y p q : ℤ) → r ≡ always x y → x ≡ p → y ≡ q → r ≡ always p q
always-same r x y p q e f g = e ∙ ap (λ (z : ℤ). always z y) f ∙ ap (always p) g

pub safe_where-same : (r : Ranged) (t u : Bool) (x y p q : ℤ) → r ≡ safe_where t x y → t ≡ u → x ≡ p → y ≡ q → r ≡ safe_where u p q
safe_where-same r t u x y p q e d f g = e ∙ ap (λ (v : Bool). safe_where v x y) d ∙ ap (λ (z : ℤ). safe_where u z y) f ∙ ap (safe_where u p) g

pub safe_within-same : (r : Ranged) (x y p q : ℤ) → r ≡ safe_where (is_number x && is_number y) x y → x ≡ p → y ≡ q → r ≡ safe_where (is_number p && is_number q) p q
safe_within-same r x y p q e f g = e ∙ ap (λ (z : ℤ). safe_where (is_number z && is_number y) z y) f ∙ ap (λ (z : ℤ). safe_where (is_number p && is_number z) p z) g

-- where the first test failed
pub second-same : (p q : Bool) (r : Ranged) (a b m n : ℤ) → p ≡ false → r ≡ safe_where q m n → r ≡ safe_where (p || q) (if p then a else m) (if p then b else n)
second-same true q r a b m n e f = cc
second-same false q r a b m n e f = f

pub none_number : (z : ℤ) → None ≡ in_range z → is_number z ≡ false
none_number z e = by (is_number z) refl
  where
    by : (t : Bool) → is_number z ≡ t → is_number z ≡ false
    by true f =
        let g : in_range z ≡ Some z = ap (λ (t : Bool). if t then Some z else None) f in
        absurd (let N : Option ℤ = None in let h : N ≡ Some z = e ∙ g in cc)
    by false f = f

pub some_number : (z v : ℤ) → Some v ≡ in_range z → (is_number z ≡ true) × (v ≡ z) × FitsSigned w128 v
some_number z v e = by (is_number z) refl
  where
    by : (t : Bool) → is_number z ≡ t → (is_number z ≡ true) × (v ≡ z) × FitsSigned w128 v
    by true f =
        let g : in_range z ≡ Some z = ap (λ (t : Bool). if t then Some z else None) f in
        let h : Some v ≡ Some z = e ∙ g in
        let k : v ≡ z = cc in
        let n = number_test z f in
        (f, k, omega (arith, ints, n.least, n.most))
    by false f =
        let g : in_range z ≡ None = ap (λ (t : Bool). if t then Some z else None) f in
        let h : Some v ≡ None = e ∙ g in
        cc

fails_second : (a b c d : Bool) → b ≡ false → ((a && b) && (c && d)) ≡ false
fails_second true true c d e = cc
fails_second true false c d e = refl
fails_second false b c d e = refl

fails_third : (a b c d : Bool) → c ≡ false → ((a && b) && (c && d)) ≡ false
fails_third true true true d e = cc
fails_third true true false d e = refl
fails_third true false c d e = refl
fails_third false b c d e = refl

fails_fourth : (a b c d : Bool) → d ≡ false → ((a && b) && (c && d)) ≡ false
fails_fourth true true true d e = e
fails_fourth true true false d e = refl
fails_fourth true false c d e = refl
fails_fourth false b c d e = refl

holds_all : (a b c d : Bool) → a ≡ true → b ≡ true → c ≡ true → d ≡ true → ((a && b) && (c && d)) ≡ true
holds_all a b c d e f g h = ap (λ (t : Bool). (t && b) && (c && d)) e ∙ ap (λ (t : Bool). t && (c && d)) f ∙ ap (λ (t : Bool). t && d) g ∙ h

not_where : (r : Ranged) (t : Bool) (lo hi : ℤ) → r ≡ not_safe → t ≡ false → r ≡ safe_where t lo hi
not_where r t lo hi e f = e ∙ sym (ap (λ (u : Bool). safe_where u lo hi) f)

module _ (r : Ranged) (p q s t : ℤ) where
  abbrev Box : Type 0
  Box = r ≡ safe_where (are_numbers p q s t) (least_of p q s t) (greatest_of p q s t)

  pub box_second : r ≡ not_safe → None ≡ in_range q → Box
  box_second e f = not_where r (are_numbers p q s t) (least_of p q s t) (greatest_of p q s t) e (fails_second (is_number p) (is_number q) (is_number s) (is_number t) (none_number q f))

  pub box_third : r ≡ not_safe → None ≡ in_range s → Box
  box_third e f = not_where r (are_numbers p q s t) (least_of p q s t) (greatest_of p q s t) e (fails_third (is_number p) (is_number q) (is_number s) (is_number t) (none_number s f))

  pub box_fourth : r ≡ not_safe → None ≡ in_range t → Box
  box_fourth e f = not_where r (are_numbers p q s t) (least_of p q s t) (greatest_of p q s t) e (fails_fourth (is_number p) (is_number q) (is_number s) (is_number t) (none_number t f))

  pub box_all : (lo hi : ℤ) → r ≡ always lo hi → lo ≡ least_of p q s t → hi ≡ greatest_of p q s t → is_number p ≡ true → is_number q ≡ true → is_number s ≡ true → is_number t ≡ true → Box
  box_all lo hi e f g h k l m =
      always-same r lo hi (least_of p q s t) (greatest_of p q s t) e f g
      ∙ sym (ap (λ (u : Bool). safe_where u (least_of p q s t) (greatest_of p q s t)) (holds_all (is_number p) (is_number q) (is_number s) (is_number t) h k l m))

pub factorial-step : (p f : ℤ) (k : ℕ) → p ≡ pos (factorial k) → f ≡ pos (k + 1) → p *ℤ f ≡ pos (factorial (k + 1))
factorial-step p f k e g =
    ap (λ (z : ℤ). z *ℤ f) e ∙ ap (λ (z : ℤ). pos (factorial k) *ℤ z) g ∙ ap pos (rw add-one (mul_comm (factorial k) (suc k)))

pub factorial_fits : (p f : ℤ) (k : ℕ) → p ≡ pos (factorial k) → f ≡ pos (k + 1) → k < 32 → FitsSigned w128 (p *ℤ f)
factorial_fits p f k e g l =
    let s = factorial-step p f k e g in
    let m = factorial-le (k + 1) 32 (omega arith) in
    let t : factorial 32 < 2 ^ 127 = lit< tt in
    omega (arith, ints, s)

pub least_of-same : (z p q r s : ℤ) (a b c d : ℤ) → z ≡ least_of p q r s → p ≡ a → q ≡ b → r ≡ c → s ≡ d → z ≡ least_of a b c d
least_of-same z p q r s a b c d e f g h k = e ∙ ap (λ (x : ℤ). least_of x q r s) f ∙ ap (λ (x : ℤ). least_of a x r s) g ∙ ap (λ (x : ℤ). least_of a b x s) h ∙ ap (least_of a b c) k

pub greatest_of-same : (z p q r s : ℤ) (a b c d : ℤ) → z ≡ greatest_of p q r s → p ≡ a → q ≡ b → r ≡ c → s ≡ d → z ≡ greatest_of a b c d
greatest_of-same z p q r s a b c d e f g h k = e ∙ ap (λ (x : ℤ). greatest_of x q r s) f ∙ ap (λ (x : ℤ). greatest_of a x r s) g ∙ ap (λ (x : ℤ). greatest_of a b x s) h ∙ ap (greatest_of a b c) k
