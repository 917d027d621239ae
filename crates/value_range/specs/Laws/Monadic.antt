-- The rows of one argument, each with its left argument left unread.
use Rattle.std.proofs.Common.{◌≡◌, Bool, true, IsTrue, ◌&&◌, ◌⊎◌, inl, inr, ℤ, pos, negsuc, neg_ℤ, ◌-ℤ◌, ◌≤ℤ◌, int_le, nat_le, unsigned_abs, if◌then◌else◌, Some, None, refl, sym, ap, subst, arith}
use Rattle.apl_base.specs.declared.cells.TheConstants.{M}
use Rattle.std.specs.Int.{int_signum}
use Rattle.std.proofs.lemmas.Int.{ints, clamps}
use Rattle.apl_base.specs.declared.rows.Mon.TheVariants as mon
use Rattle.apl_base.specs.Number.{IsNumber}
use Rattle.apl_base.specs.Scalar.{of_number, factorial, magnitude}
use Rattle.apl_base.specs.Interval.{IsSpan}
use Rattle.value_range.specs.Interval.{is_only, are_units, are_truths, has_zero, most_of}
use Rattle.value_range.specs.Laws.Tests.{both, both_back, either, either_left, either_right, le_test, le_tested, only_test, only_inside, truths_test, truths_tested, truth_cases}
use Rattle.value_range.specs.Laws.Shown.{IsRow, Holds, Inside, Valued}
use Rattle.value_range.specs.Laws.Magnitudes.{low_at, magnitude-most, low-magnitude, low-inside, low_nonnegative, most-inside, int_signum-le, factorial-le}

pub plus : IsRow (λ a b c d. true) (λ a b c d. c) (λ a b c d. d) (λ x y. of_number mon.Plus y)
plus = record {
  span = λ a b c d h k t. k;
  sound = λ a b c d x y h k p q t. record { number = y; is = refl; holds = q };
  smaller = λ a b c d p q r s h k l m i j t. (t, j);
}

pub minus : IsRow (λ a b c d. true) (λ a b c d. neg_ℤ d) (λ a b c d. neg_ℤ c) (λ x y. of_number mon.Minus y)
minus = record {
  span = λ a b c d h k t. record { least = record { least = omega (arith, ints); most = omega (arith, ints) }; order = omega (arith, ints); most = record { least = omega (arith, ints); most = omega (arith, ints) } };
  sound = λ a b c d x y h k p q t. record { number = neg_ℤ y; is = refl; holds = record { least = omega (arith, ints); most = omega (arith, ints) } };
  smaller = λ a b c d p q r s h k l m i j t. (t, record { least = omega (arith, ints); most = omega (arith, ints) });
}

signs : (c d : ℤ) → c ≤ℤ d → IsSpan (int_signum c) (int_signum d)
signs c d h = record { least = sign_number c; order = int_signum-le c d h; most = sign_number d }
  where
    sign_number : (z : ℤ) → IsNumber (int_signum z)
    sign_number (pos n) = record { least = omega (arith, ints); most = omega (arith, ints) }
    sign_number (negsuc n) = record { least = omega (arith, ints); most = omega (arith, ints) }

pub sign : IsRow (λ a b c d. true) (λ a b c d. int_signum c) (λ a b c d. int_signum d) (λ x y. of_number mon.Sign y)
sign = record {
  span = λ a b c d h k t. signs c d k.order;
  sound = λ a b c d x y h k p q t. record { number = int_signum y; is = refl; holds = record { least = int_signum-le c y q.least; most = int_signum-le y d q.most } };
  smaller = λ a b c d p q r s h k l m i j t. (t, record { least = int_signum-le r c j.least; most = int_signum-le d s j.most });
}

units_out : (c d y : ℤ) → Holds c d y → IsTrue (are_units c d) → (y ≡ pos 1) ⊎ (y ≡ negsuc 0)
units_out c d y h t =
    elim (either (is_only (pos 1) c d) (is_only (negsuc 0) c d) t) as (λ _. (y ≡ pos 1) ⊎ (y ≡ negsuc 0)) [
      | inl l ↦ let e = only_test (pos 1) c d l in inl (omega (arith, ints, e.0, e.1))
      | inr l ↦ let e = only_test (negsuc 0) c d l in inr (omega (arith, ints, e.0, e.1))
    ]

recip_of : (y : ℤ) → (y ≡ pos 1) ⊎ (y ≡ negsuc 0) → of_number mon.Recip y ≡ Some y
recip_of y (inl e) = subst (λ (z : ℤ). of_number mon.Recip z ≡ Some z) (sym e) refl
recip_of y (inr e) = subst (λ (z : ℤ). of_number mon.Recip z ≡ Some z) (sym e) refl

units_inside : (c d r s : ℤ) → c ≤ℤ d → Inside c d r s → IsTrue (are_units r s) → IsTrue (are_units c d)
units_inside c d r s h i t =
    elim (either (is_only (pos 1) r s) (is_only (negsuc 0) r s) t) as (λ _. IsTrue (are_units c d)) [
      | inl l ↦ either_left (is_only (pos 1) c d) (is_only (negsuc 0) c d) (only_inside (pos 1) c d r s h i l)
      | inr l ↦ either_right (is_only (pos 1) c d) (is_only (negsuc 0) c d) (only_inside (negsuc 0) c d r s h i l)
    ]

pub recip : IsRow (λ a b c d. are_units c d) (λ a b c d. c) (λ a b c d. d) (λ x y. of_number mon.Recip y)
recip = record {
  span = λ a b c d h k t. k;
  sound = λ a b c d x y h k p q t. record { number = y; is = recip_of y (units_out c d y q t); holds = q };
  smaller = λ a b c d p q r s h k l m i j t. (units_inside c d r s k.order j t, j);
}

magnitudes : (c d : ℤ) → IsSpan c d → IsSpan (low_at (has_zero c d) c d) (most_of c d)
magnitudes c d k =
    let low = low-magnitude c d c (record { least = omega (arith, ints); most = k.order }) in
    let above : pos 0 ≤ℤ low_at (has_zero c d) c d = low_nonnegative (has_zero c d) c d in
    let most = magnitude-most c d c (record { least = omega (arith, ints); most = k.order }) in
    let bounded : most_of c d ≤ℤ M = omega (arith, ints, clamps, k.least.least, k.least.most, k.most.least, k.most.most) in
    record { least = record { least = omega (arith, ints); most = omega (arith, ints) }; order = omega (arith, ints); most = record { least = omega (arith, ints); most = bounded } }

pub abs : IsRow (λ a b c d. true) (λ a b c d. low_at (has_zero c d) c d) (λ a b c d. most_of c d) (λ x y. of_number mon.Abs y)
abs = record {
  span = λ a b c d h k t. magnitudes c d k;
  sound = λ a b c d x y h k p q t. record { number = magnitude y; is = refl; holds = record { least = low-magnitude c d y q; most = magnitude-most c d y q } };
  smaller = λ a b c d p q r s h k l m i j t. (t, record { least = low-inside c d r s k.order j; most = most-inside c d r s k.order j });
}

not_of : (y : ℤ) → (y ≡ pos 0) ⊎ (y ≡ pos 1) → of_number mon.Not y ≡ Some (pos 1 -ℤ y)
not_of y (inl e) = subst (λ (z : ℤ). of_number mon.Not z ≡ Some (pos 1 -ℤ z)) (sym e) refl
not_of y (inr e) = subst (λ (z : ℤ). of_number mon.Not z ≡ Some (pos 1 -ℤ z)) (sym e) refl

pub «not» : IsRow (λ a b c d. are_truths c d) (λ a b c d. pos 1 -ℤ d) (λ a b c d. pos 1 -ℤ c) (λ x y. of_number mon.Not y)
«not» = record {
  span = λ a b c d h k t. let u = truths_test c d t in record { least = record { least = omega (arith, ints); most = omega (arith, ints) }; order = omega (arith, ints); most = record { least = omega (arith, ints); most = omega (arith, ints) } };
  sound = λ a b c d x y h k p q t. let u = truths_test c d t in record { number = pos 1 -ℤ y; is = not_of y (truth_cases y (omega (arith, ints)) (omega (arith, ints))); holds = record { least = omega (arith, ints); most = omega (arith, ints) } };
  smaller = λ a b c d p q r s h k l m i j t. let u = truths_test r s t in (truths_tested c d (omega (arith, ints)) (omega (arith, ints)), record { least = omega (arith, ints); most = omega (arith, ints) });
}

-- 0 to 32
abbrev small : ℤ → ℤ → Bool
small c d = int_le (pos 0) c && int_le d (pos 32)

abbrev fact : ℤ → ℤ
fact z = pos (factorial (unsigned_abs z))

small_test : (c d : ℤ) → IsTrue (small c d) → (pos 0 ≤ℤ c) × (d ≤ℤ pos 32)
small_test c d e = let t = both (int_le (pos 0) c) (int_le d (pos 32)) e in (le_test (pos 0) c t.0, le_test d (pos 32) t.1)

small_tested : (c d : ℤ) → pos 0 ≤ℤ c → d ≤ℤ pos 32 → IsTrue (small c d)
small_tested c d h k = both_back (int_le (pos 0) c) (int_le d (pos 32)) (le_tested (pos 0) c h) (le_tested d (pos 32) k)

fact-le : (c d : ℤ) → pos 0 ≤ℤ c → c ≤ℤ d → fact c ≤ℤ fact d
fact-le (pos c) (pos d) h k = let l = factorial-le c d (omega (arith, ints)) in omega (arith, ints)
fact-le (pos c) (negsuc d) h k = absurd (omega (arith, ints))
fact-le (negsuc c) d h k = absurd (omega (arith, ints))

facts : (c d : ℤ) → pos 0 ≤ℤ c → c ≤ℤ d → d ≤ℤ pos 32 → IsSpan (fact c) (fact d)
facts c d h k l =
    let low = fact-le c d h k in
    let high = fact-le d (pos 32) (omega (arith, ints)) l in
    let top : fact (pos 32) ≤ℤ M = record { le = tt } in
    record { least = record { least = omega (arith, ints); most = omega (arith, ints) }; order = low; most = record { least = omega (arith, ints); most = omega (arith, ints) } }

fact_of : (c d y : ℤ) → pos 0 ≤ℤ c → Holds c d y → d ≤ℤ pos 32 → Valued (fact c) (fact d) (of_number mon.Fact y)
fact_of c d (pos n) h q k =
    let e : IsTrue (nat_le n 32) = le_tested (pos n) (pos 32) (omega (arith, ints)) in
    record {
      number = pos (factorial n);
      is = ap (λ (t : Bool). if t then Some (pos (factorial n)) else None) e;
      holds = record { least = fact-le c (pos n) h q.least; most = fact-le (pos n) d (omega (arith, ints)) q.most };
    }
fact_of c d (negsuc n) h q k = absurd (omega (arith, ints))

pub factorials : IsRow (λ a b c d. small c d) (λ a b c d. fact c) (λ a b c d. fact d) (λ x y. of_number mon.Fact y)
factorials = record {
  span = λ a b c d h k t. let u = small_test c d t in facts c d u.0 k.order u.1;
  sound = λ a b c d x y h k p q t. let u = small_test c d t in fact_of c d y u.0 q u.1;
  smaller = λ a b c d p q r s h k l m i j t. let u = small_test r s t in (small_tested c d (omega (arith, ints)) (omega (arith, ints)), record { least = fact-le r c u.0 j.least; most = fact-le d s (omega (arith, ints)) j.most });
}
