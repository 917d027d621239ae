-- Tests of numbers, and what they tell.
use Rattle.std.proofs.Common.{◌≡◌, zero, suc, Bool, true, false, cond, ◌&&◌, ◌||◌, ◌⊎◌, IsTrue, ℤ, pos, negsuc, neg_ℤ, ◌≤ℤ◌, int_le, Some, None, refl, sym, ap, arith}
use Rattle.std.specs.Ordering.{int_eq}
use Rattle.std.proofs.Common.{inl, inr}
use Rattle.std.proofs.lemmas.Int.{ints}
use Rattle.std.proofs.lemmas.Bool.Decides.{Decides-int_eq}
use Rattle.value_range.specs.Interval.{is_only, are_truths}
use Rattle.value_range.specs.Laws.Shown.{Inside}
use Rattle.apl_base.specs.declared.cells.TheConstants.{M}
use Rattle.apl_base.specs.Number.{IsNumber, is_number}
use Rattle.apl_base.specs.Scalar.{in_range}

pub both : (p q : Bool) → IsTrue (p && q) → IsTrue p × IsTrue q
both true true e = (refl, refl)
both true false e = cc
both false q e = cc

pub both_back : (p q : Bool) → IsTrue p → IsTrue q → IsTrue (p && q)
both_back true true e f = refl
both_back true false e f = cc
both_back false q e f = cc

pub either : (p q : Bool) → IsTrue (p || q) → IsTrue p ⊎ IsTrue q
either true q e = inl refl
either false true e = inr refl
either false false e = cc

pub either_left : (p q : Bool) → IsTrue p → IsTrue (p || q)
either_left true q e = refl
either_left false q e = cc

pub either_right : (p q : Bool) → IsTrue q → IsTrue (p || q)
either_right true q e = refl
either_right false true e = refl
either_right false false e = cc

pub le_test : (a b : ℤ) → IsTrue (int_le a b) → a ≤ℤ b
le_test a b e = omega (arith, ints)

pub le_tested : (a b : ℤ) → a ≤ℤ b → IsTrue (int_le a b)
le_tested a b h = sym (omega (arith, ints))

pub same_test : (a b : ℤ) → IsTrue (int_eq a b) → a ≡ b
same_test a b e = (Decides-int_eq a b).0 e

pub same_tested : (a b : ℤ) → a ≡ b → IsTrue (int_eq a b)
same_tested a b e = (Decides-int_eq a b).1 e

pub number_test : (z : ℤ) → IsTrue (is_number z) → IsNumber z
number_test z e =
    let t = both (int_le (neg_ℤ M) z) (int_le z M) e in
    record { least = le_test (neg_ℤ M) z t.0; most = le_test z M t.1 }

pub number_tested : (z : ℤ) → IsNumber z → IsTrue (is_number z)
number_tested z n = both_back (int_le (neg_ℤ M) z) (int_le z M) (le_tested (neg_ℤ M) z n.least) (le_tested z M n.most)

pub in_range-number : (z : ℤ) → IsNumber z → in_range z ≡ Some z
in_range-number z n = ap (λ (t : Bool). cond t (Some z) None) (number_tested z n)

pub only_test : (n a b : ℤ) → IsTrue (is_only n a b) → (a ≡ n) × (b ≡ n)
only_test n a b e = let t = both (int_eq a n) (int_eq b n) e in (same_test a n t.0, same_test b n t.1)

pub only_tested : (n a b : ℤ) → a ≡ n → b ≡ n → IsTrue (is_only n a b)
only_tested n a b p q = both_back (int_eq a n) (int_eq b n) (same_tested a n p) (same_tested b n q)

pub only_inside : (n a b p q : ℤ) → a ≤ℤ b → Inside a b p q → IsTrue (is_only n p q) → IsTrue (is_only n a b)
only_inside n a b p q h i e =
    let t = only_test n p q e in
    only_tested n a b (omega (arith, ints, t.0, t.1)) (omega (arith, ints, t.0, t.1))

pub truths_test : (a b : ℤ) → IsTrue (are_truths a b) → (pos 0 ≤ℤ a) × (b ≤ℤ pos 1)
truths_test a b e = let t = both (int_le (pos 0) a) (int_le b (pos 1)) e in (le_test (pos 0) a t.0, le_test b (pos 1) t.1)

pub truths_tested : (a b : ℤ) → pos 0 ≤ℤ a → b ≤ℤ pos 1 → IsTrue (are_truths a b)
truths_tested a b h k = both_back (int_le (pos 0) a) (int_le b (pos 1)) (le_tested (pos 0) a h) (le_tested b (pos 1) k)

pub truth_cases : (z : ℤ) → pos 0 ≤ℤ z → z ≤ℤ pos 1 → (z ≡ pos 0) ⊎ (z ≡ pos 1)
truth_cases (pos zero) h k = inl refl
truth_cases (pos (suc zero)) h k = inr refl
truth_cases (pos (suc (suc n))) h k = absurd (omega (arith, ints))
truth_cases (negsuc n) h k = absurd (omega (arith, ints))
