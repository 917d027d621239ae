-- The rows of two arguments.
use Rattle.std.proofs.Common.{◌≡◌, ℕ, zero, suc, ◌/◌, ◌%◌, ◌^◌, ◌<◌, ◌==◌, int_div, Bool, true, false, not, IsTrue, ◌&&◌, ◌||◌, ◌⊎◌, inl, inr, ℤ, pos, negsuc, neg_ℤ, ◌+ℤ◌, ◌-ℤ◌, ◌*ℤ◌, ◌≤ℤ◌, int_le, unsigned_abs, if◌then◌else◌, Some, None, refl, ap, ◌∙◌, arith}
use Rattle.std.specs.Int.{int_max, int_min, int_div_euclid}
use Rattle.std.proofs.lemmas.Int.{ints, clamps, int_max_is}
use Rattle.std.proofs.lemmas.Nat.{div-add-mod'}
use Rattle.apl_base.specs.declared.cells.TheConstants.{M}
use Rattle.apl_base.specs.declared.rows.Dya.TheVariants as dya
use Rattle.apl_base.specs.Number.{IsNumber, is_number}
use Rattle.apl_base.specs.Scalar.{of_numbers, in_range, quotient, residue, logical, truth, magnitude}
use Rattle.apl_base.specs.Interval.{IsSpan}
use Rattle.value_range.specs.Interval.{is_only, are_units, are_numbers, are_truths, has_zero, most_of, least_of, greatest_of, low_power, high_power, to_the}
use Rattle.value_range.specs.Laws.Tests.{both, both_back, either_left, either_right, le_test, le_tested, number_test, number_tested, in_range-number, only_test, only_inside, truths_test, truths_tested, truth_cases}
use Rattle.value_range.specs.Laws.Shown.{IsRow, Holds, Inside, Valued}
use Rattle.value_range.specs.Laws.Products.{over_box, four_held, four_inside}
use Rattle.value_range.specs.Laws.Powers.{high_power-holds, high_power-inside, low_power-holds, low_power-inside, low_power-nonnegative, power-pos}
use Rattle.value_range.specs.Laws.Magnitudes.{le_trans, magnitude-most, most-inside, zero_inside, zero_within}

pair_test : (p q : ℤ) → IsTrue (is_number p && is_number q) → IsNumber p × IsNumber q
pair_test p q e = let t = both (is_number p) (is_number q) e in (number_test p t.0, number_test q t.1)

pair_tested : (p q : ℤ) → IsNumber p → IsNumber q → IsTrue (is_number p && is_number q)
pair_tested p q h k = both_back (is_number p) (is_number q) (number_tested p h) (number_tested q k)

-- a number between two numbers
between : (lo hi z : ℤ) → IsNumber lo → IsNumber hi → Holds lo hi z → IsNumber z
between lo hi z l m h = record { least = omega (arith, ints, l.least); most = omega (arith, ints, m.most) }

pub add : IsRow (λ a b c d. is_number (a +ℤ c) && is_number (b +ℤ d)) (λ a b c d. a +ℤ c) (λ a b c d. b +ℤ d) (of_numbers dya.Add)
add = record {
  span = λ a b c d h k t. let u = pair_test (a +ℤ c) (b +ℤ d) t in record { least = u.0; order = omega (arith, ints); most = u.1 };
  sound = λ a b c d x y h k p q t.
      let u = pair_test (a +ℤ c) (b +ℤ d) t in
      let v : Holds (a +ℤ c) (b +ℤ d) (x +ℤ y) = record { least = omega (arith, ints); most = omega (arith, ints) } in
      record { number = x +ℤ y; is = in_range-number (x +ℤ y) (between (a +ℤ c) (b +ℤ d) (x +ℤ y) u.0 u.1 v); holds = v };
  smaller = λ a b c d p q r s h k l m i j t.
      let u = pair_test (p +ℤ r) (q +ℤ s) t in
      let v : Holds (p +ℤ r) (q +ℤ s) (a +ℤ c) = record { least = omega (arith, ints); most = omega (arith, ints) } in
      let w : Holds (p +ℤ r) (q +ℤ s) (b +ℤ d) = record { least = omega (arith, ints); most = omega (arith, ints) } in
      (pair_tested (a +ℤ c) (b +ℤ d) (between (p +ℤ r) (q +ℤ s) (a +ℤ c) u.0 u.1 v) (between (p +ℤ r) (q +ℤ s) (b +ℤ d) u.0 u.1 w), record { least = v.least; most = w.most });
}

pub sub : IsRow (λ a b c d. is_number (a -ℤ d) && is_number (b -ℤ c)) (λ a b c d. a -ℤ d) (λ a b c d. b -ℤ c) (of_numbers dya.Sub)
sub = record {
  span = λ a b c d h k t. let u = pair_test (a -ℤ d) (b -ℤ c) t in record { least = u.0; order = omega (arith, ints); most = u.1 };
  sound = λ a b c d x y h k p q t.
      let u = pair_test (a -ℤ d) (b -ℤ c) t in
      let v : Holds (a -ℤ d) (b -ℤ c) (x -ℤ y) = record { least = omega (arith, ints); most = omega (arith, ints) } in
      record { number = x -ℤ y; is = in_range-number (x -ℤ y) (between (a -ℤ d) (b -ℤ c) (x -ℤ y) u.0 u.1 v); holds = v };
  smaller = λ a b c d p q r s h k l m i j t.
      let u = pair_test (p -ℤ s) (q -ℤ r) t in
      let v : Holds (p -ℤ s) (q -ℤ r) (a -ℤ d) = record { least = omega (arith, ints); most = omega (arith, ints) } in
      let w : Holds (p -ℤ s) (q -ℤ r) (b -ℤ c) = record { least = omega (arith, ints); most = omega (arith, ints) } in
      (pair_tested (a -ℤ d) (b -ℤ c) (between (p -ℤ s) (q -ℤ r) (a -ℤ d) u.0 u.1 v) (between (p -ℤ s) (q -ℤ r) (b -ℤ c) u.0 u.1 w), record { least = v.least; most = w.most });
}

four_test : (p q r s : ℤ) → IsTrue (are_numbers p q r s) → IsNumber p × IsNumber q × IsNumber r × IsNumber s
four_test p q r s e =
    let t = both (is_number p && is_number q) (is_number r && is_number s) e in
    let u = pair_test p q t.0 in
    let v = pair_test r s t.1 in
    (u.0, u.1, v.0, v.1)

four_tested : (p q r s : ℤ) → IsNumber p → IsNumber q → IsNumber r → IsNumber s → IsTrue (are_numbers p q r s)
four_tested p q r s h k l m = both_back (is_number p && is_number q) (is_number r && is_number s) (pair_tested p q h k) (pair_tested r s l m)

four_span : (p q r s : ℤ) → IsTrue (are_numbers p q r s) → IsSpan (least_of p q r s) (greatest_of p q r s)
four_span p q r s e =
    let n = four_test p q r s e in
    let h = four_held p q r s in
    let i = four_inside (neg_ℤ M) M p q r s (record { first = record { least = n.0.least; most = n.0.most }; second = record { least = n.1.least; most = n.1.most }; third = record { least = n.2.least; most = n.2.most }; fourth = record { least = n.3.least; most = n.3.most } }) in
    let o : least_of p q r s ≤ℤ greatest_of p q r s = let f = h.first in let P : ℤ → Type 0 = λ z. z ≤ℤ greatest_of p q r s in omega (arith, ints, f.least, f.most) in
    record { least = record { least = i.least; most = omega (arith, ints, o, i.most) }; order = o; most = record { least = omega (arith, ints, o, i.least); most = i.most } }

-- a product in a box lies between the are_numbers products of its ends
box_held : (a b c d x y : ℤ) → Holds a b x → Holds c d y → Holds (least_of (a *ℤ c) (a *ℤ d) (b *ℤ c) (b *ℤ d)) (greatest_of (a *ℤ c) (a *ℤ d) (b *ℤ c) (b *ℤ d)) (x *ℤ y)
box_held a b c d x y h k =
    let f = four_held (a *ℤ c) (a *ℤ d) (b *ℤ c) (b *ℤ d) in
    over_box (least_of (a *ℤ c) (a *ℤ d) (b *ℤ c) (b *ℤ d)) (greatest_of (a *ℤ c) (a *ℤ d) (b *ℤ c) (b *ℤ d)) a b c d x y h k f.first f.second f.third f.fourth

pub mul : IsRow (λ a b c d. are_numbers (a *ℤ c) (a *ℤ d) (b *ℤ c) (b *ℤ d)) (λ a b c d. least_of (a *ℤ c) (a *ℤ d) (b *ℤ c) (b *ℤ d)) (λ a b c d. greatest_of (a *ℤ c) (a *ℤ d) (b *ℤ c) (b *ℤ d)) (of_numbers dya.Mul)
mul = record {
  span = λ a b c d h k t. four_span (a *ℤ c) (a *ℤ d) (b *ℤ c) (b *ℤ d) t;
  sound = λ a b c d x y h k p q t.
      let u = four_span (a *ℤ c) (a *ℤ d) (b *ℤ c) (b *ℤ d) t in
      let v = box_held a b c d x y p q in
      record { number = x *ℤ y; is = in_range-number (x *ℤ y) (between _ _ (x *ℤ y) u.least u.most v); holds = v };
  smaller = λ a b c d p q r s h k l m i j t.
      let u = four_span (p *ℤ r) (p *ℤ s) (q *ℤ r) (q *ℤ s) t in
      let ha : Holds p q a = record { least = i.least; most = le_trans a b q h.order i.most } in
      let hb : Holds p q b = record { least = le_trans p a b i.least h.order; most = i.most } in
      let hc : Holds r s c = record { least = j.least; most = le_trans c d s k.order j.most } in
      let hd : Holds r s d = record { least = le_trans r c d j.least k.order; most = j.most } in
      let ac = box_held p q r s a c ha hc in
      let ad = box_held p q r s a d ha hd in
      let bc = box_held p q r s b c hb hc in
      let bd = box_held p q r s b d hb hd in (
        four_tested (a *ℤ c) (a *ℤ d) (b *ℤ c) (b *ℤ d) (between _ _ (a *ℤ c) u.least u.most ac) (between _ _ (a *ℤ d) u.least u.most ad) (between _ _ (b *ℤ c) u.least u.most bc) (between _ _ (b *ℤ d) u.least u.most bd),
        four_inside _ _ (a *ℤ c) (a *ℤ d) (b *ℤ c) (b *ℤ d) (record { first = ac; second = ad; third = bc; fourth = bd }),
      );
}

pub «max» : IsRow (λ a b c d. true) (λ a b c d. int_max a c) (λ a b c d. int_max b d) (of_numbers dya.Max)
«max» = record {
  span = λ a b c d h k t. record { least = record { least = omega (arith, ints, clamps); most = omega (arith, ints, clamps) }; order = omega (arith, ints, clamps); most = record { least = omega (arith, ints, clamps); most = omega (arith, ints, clamps) } };
  sound = λ a b c d x y h k p q t. record { number = int_max x y; is = refl; holds = record { least = omega (arith, ints, clamps); most = omega (arith, ints, clamps) } };
  smaller = λ a b c d p q r s h k l m i j t. (t, record { least = omega (arith, ints, clamps); most = omega (arith, ints, clamps) });
}

pub «min» : IsRow (λ a b c d. true) (λ a b c d. int_min a c) (λ a b c d. int_min b d) (of_numbers dya.Min)
«min» = record {
  span = λ a b c d h k t. record { least = record { least = omega (arith, ints, clamps); most = omega (arith, ints, clamps) }; order = omega (arith, ints, clamps); most = record { least = omega (arith, ints, clamps); most = omega (arith, ints, clamps) } };
  sound = λ a b c d x y h k p q t. record { number = int_min x y; is = refl; holds = record { least = omega (arith, ints, clamps); most = omega (arith, ints, clamps) } };
  smaller = λ a b c d p q r s h k l m i j t. (t, record { least = omega (arith, ints, clamps); most = omega (arith, ints, clamps) });
}

quotient-one : (x : ℤ) → quotient x (pos 1) ≡ Some x
quotient-one x =
    let r : unsigned_abs x % 1 ≡ 0 = omega arith in
    let q : int_div x (pos 1) ≡ x = omega (arith, ints) in
    ap (λ (n : ℕ). if n == 0 then Some (int_div x (pos 1)) else None) r ∙ ap Some q

quotient-minus_one : (x : ℤ) → IsNumber x → quotient x (negsuc 0) ≡ Some (neg_ℤ x)
quotient-minus_one x h =
    let r : unsigned_abs x % 1 ≡ 0 = omega arith in
    let n : IsNumber (neg_ℤ x) = record { least = omega (arith, ints); most = omega (arith, ints) } in
    ap (λ (n : ℕ). if n == 0 then in_range (int_div x (negsuc 0)) else None) r ∙ ap in_range (minus x) ∙ in_range-number (neg_ℤ x) n
  where
    minus : (x : ℤ) → int_div x (negsuc 0) ≡ neg_ℤ x
    minus (pos a) = ap (λ (n : ℕ). neg_ℤ (pos n)) (let e : a / 1 ≡ a = omega arith in e)
    minus (negsuc a) = ap pos (let e : suc a / 1 ≡ suc a = omega arith in e)

abbrev chosen : Bool → ℤ → ℤ → ℤ
chosen t p q = if t then p else q

div_span : (t : Bool) (a b : ℤ) → IsSpan a b → IsSpan (chosen t a (neg_ℤ b)) (chosen t b (neg_ℤ a))
div_span true a b h = h
div_span false a b h = let l = h.least in let m = h.most in record { least = record { least = omega (arith, ints); most = omega (arith, ints) }; order = omega (arith, ints); most = record { least = omega (arith, ints); most = omega (arith, ints) } }

other : (p q : Bool) → p ≡ false → IsTrue (p || q) → IsTrue q
other true q e t = cc
other false q e t = t

div_sound : (t : Bool) (a b c d x y : ℤ) → IsSpan a b → Holds a b x → Holds c d y → is_only (pos 1) c d ≡ t → IsTrue (are_units c d) → Valued (chosen t a (neg_ℤ b)) (chosen t b (neg_ℤ a)) (quotient x y)
div_sound true a b c d x y h p q e u =
    let o = only_test (pos 1) c d e in
    let f : y ≡ pos 1 = omega (arith, ints, o.0, o.1) in
    record { number = x; is = ap (quotient x) f ∙ quotient-one x; holds = p }
div_sound false a b c d x y h p q e u =
    let o = only_test (negsuc 0) c d (other (is_only (pos 1) c d) (is_only (negsuc 0) c d) e u) in
    let f : y ≡ negsuc 0 = omega (arith, ints, o.0, o.1) in
    record { number = neg_ℤ x; is = ap (quotient x) f ∙ quotient-minus_one x (between a b x h.least h.most p); holds = record { least = omega (arith, ints); most = omega (arith, ints) } }

not_both : (c d : ℤ) → IsTrue (is_only (negsuc 0) c d) → is_only (pos 1) c d ≡ false
not_both c d t = by (is_only (pos 1) c d) refl
  where
    by : (u : Bool) → is_only (pos 1) c d ≡ u → u ≡ false
    by true e =
        let p = only_test (negsuc 0) c d t in
        let q = only_test (pos 1) c d e in
        absurd (omega (arith, ints, p.0, q.0))
    by false e = refl

-- the same of the two is 1 over less of the divisors
same_units : (c d r s : ℤ) → c ≤ℤ d → Inside c d r s → IsTrue (are_units r s) → IsTrue (are_units c d) × (is_only (pos 1) c d ≡ is_only (pos 1) r s)
same_units c d r s h i u = by (is_only (pos 1) r s) refl
  where
    by : (t : Bool) → is_only (pos 1) r s ≡ t → IsTrue (are_units c d) × (is_only (pos 1) c d ≡ t)
    by true e =
        let o = only_inside (pos 1) c d r s h i e in
        (either_left (is_only (pos 1) c d) (is_only (negsuc 0) c d) o, o)
    by false e =
        let o = only_inside (negsuc 0) c d r s h i (other (is_only (pos 1) r s) (is_only (negsuc 0) r s) e u) in
        (either_right (is_only (pos 1) c d) (is_only (negsuc 0) c d) o, not_both c d o)

div_inside : (t u : Bool) (a b p q : ℤ) → t ≡ u → Inside a b p q → Inside (chosen t a (neg_ℤ b)) (chosen t b (neg_ℤ a)) (chosen u p (neg_ℤ q)) (chosen u q (neg_ℤ p))
div_inside true true a b p q e i = i
div_inside true false a b p q e i = cc
div_inside false true a b p q e i = cc
div_inside false false a b p q e i = record { least = omega (arith, ints); most = omega (arith, ints) }

pub div : IsRow (λ a b c d. are_units c d) (λ a b c d. chosen (is_only (pos 1) c d) a (neg_ℤ b)) (λ a b c d. chosen (is_only (pos 1) c d) b (neg_ℤ a)) (of_numbers dya.Div)
div = record {
  span = λ a b c d h k t. div_span (is_only (pos 1) c d) a b h;
  sound = λ a b c d x y h k p q t. div_sound (is_only (pos 1) c d) a b c d x y h p q refl t;
  smaller = λ a b c d p q r s h k l m i j t.
      let u = same_units c d r s k.order j t in
      (u.0, div_inside (is_only (pos 1) c d) (is_only (pos 1) r s) a b p q u.1 i);
}

abbrev pub powers : ℤ → ℤ → ℤ → ℤ → Bool
powers a b c d = (int_le (pos 0) a && int_le (pos 0) c) && is_number (high_power b d)

powers_test : (a b c d : ℤ) → IsTrue (powers a b c d) → (pos 0 ≤ℤ a) × (pos 0 ≤ℤ c) × IsNumber (high_power b d)
powers_test a b c d e =
    let t = both (int_le (pos 0) a && int_le (pos 0) c) (is_number (high_power b d)) e in
    let u = both (int_le (pos 0) a) (int_le (pos 0) c) t.0 in
    (le_test (pos 0) a u.0, le_test (pos 0) c u.1, number_test (high_power b d) t.1)

pub powers_tested : (a b c d : ℤ) → pos 0 ≤ℤ a → pos 0 ≤ℤ c → IsNumber (high_power b d) → IsTrue (powers a b c d)
powers_tested a b c d h k l = both_back (int_le (pos 0) a && int_le (pos 0) c) (is_number (high_power b d)) (both_back (int_le (pos 0) a) (int_le (pos 0) c) (le_tested (pos 0) a h) (le_tested (pos 0) c k)) (number_tested (high_power b d) l)

pow_held : (a b c d x y : ℤ) → pos 0 ≤ℤ a → pos 0 ≤ℤ c → Holds a b x → Holds c d y → Holds (low_power a c) (high_power b d) (pos (unsigned_abs x ^ unsigned_abs y))
pow_held a b c d x y h k p q = record {
  least = low_power-holds a c x y h p.least k q.least;
  most = high_power-holds b d x y (omega (arith, ints)) p.most (omega (arith, ints)) q.most;
}

pub pow_span : (a b c d : ℤ) → pos 0 ≤ℤ a → pos 0 ≤ℤ c → a ≤ℤ b → c ≤ℤ d → IsNumber (high_power b d) → IsSpan (low_power a c) (high_power b d)
pow_span a b c d h k l m n =
    let v = pow_held a b c d a c h k (record { least = omega (arith, ints); most = l }) (record { least = omega (arith, ints); most = m }) in
    let o = le_trans (low_power a c) (pos (unsigned_abs a ^ unsigned_abs c)) (high_power b d) v.least v.most in
    let z = low_power-nonnegative a c in
    record { least = record { least = le_trans (neg_ℤ M) (pos 0) (low_power a c) (omega (arith, ints)) z; most = le_trans (low_power a c) (high_power b d) M o n.most }; order = o; most = n }

one_up : (b d : ℤ) → neg_ℤ M ≤ℤ high_power b d
one_up b d = let z = to_the b d in omega (arith, ints, int_max_is (pos 1) z)

pub pow : IsRow (λ a b c d. powers a b c d) (λ a b c d. low_power a c) (λ a b c d. high_power b d) (of_numbers dya.Pow)
pow = record {
  span = λ a b c d h k t. let u = powers_test a b c d t in pow_span a b c d u.0 u.1 h.order k.order u.2;
  sound = λ a b c d x y h k p q t.
      let u = powers_test a b c d t in
      let v = pow_held a b c d x y u.0 u.1 p q in
      let s = pow_span a b c d u.0 u.1 h.order k.order u.2 in
      let z = pos (unsigned_abs x ^ unsigned_abs y) in
      record { number = z; is = power-pos x y (le_trans (pos 0) a x u.0 p.least) (le_trans (pos 0) c y u.1 q.least) ∙ in_range-number z (between (low_power a c) (high_power b d) z s.least s.most v); holds = v };
  smaller = λ a b c d p q r s h k l m i j t.
      let u = powers_test p q r s t in
      let oa = le_trans (pos 0) p a u.0 i.least in
      let oc = le_trans (pos 0) r c u.1 j.least in
      let high = high_power-inside b d q s (le_trans (pos 0) a b oa h.order) i.most (le_trans (pos 0) c d oc k.order) j.most in
      let low = low_power-inside a c p r u.0 i.least u.1 j.least in
      let v = pow_span a b c d oa oc h.order k.order in
      (powers_tested a b c d oa oc (record { least = one_up b d; most = le_trans (high_power b d) (high_power q s) M high u.2.most }), record { least = low; most = high });
}

some_magnitude : (x : ℤ) → (x ≡ pos 0 → ⊥) → pos 1 ≤ℤ magnitude x
some_magnitude (pos zero) h = absurd (h refl)
some_magnitude (pos (suc n)) h = omega (arith, ints)
some_magnitude (negsuc n) h = omega (arith, ints)

-- what is left of y at the divisor n + 1
rest_held : (n : ℕ) (y : ℤ) → Holds (pos 0) (pos n) (y -ℤ (pos (suc n) *ℤ int_div_euclid y (pos (suc n))))
rest_held n (pos m) =
    let e = div-add-mod' m (suc n) in
    let l : m % suc n < suc n = omega arith in
    record { least = omega (arith, ints); most = omega (arith, ints) }
rest_held n (negsuc m) =
    let e = div-add-mod' m (suc n) in
    let l : m % suc n < suc n = omega arith in
    record { least = omega (arith, ints); most = omega (arith, ints) }

rest_most : (n : ℕ) (most z : ℤ) → Holds (pos 0) (pos n) z → pos (suc n) ≤ℤ most → Holds (pos 0) (most -ℤ pos 1) z
rest_most n most z h k = record { least = h.least; most = omega (arith, ints) }

residue_sound : (x y most : ℤ) → (x ≡ pos 0 → ⊥) → magnitude x ≤ℤ most → Valued (pos 0) (most -ℤ pos 1) (residue x y)
residue_sound (pos zero) y most h k = absurd (h refl)
residue_sound (pos (suc n)) y most h k =
    record { number = y -ℤ (pos (suc n) *ℤ int_div_euclid y (pos (suc n))); is = refl; holds = rest_most n most _ (rest_held n y) k }
residue_sound (negsuc n) y most h k =
    record { number = y -ℤ (pos (suc n) *ℤ int_div_euclid y (pos (suc n))); is = refl; holds = rest_most n most _ (rest_held n y) k }

not_true : (t : Bool) → IsTrue (not t) → IsTrue t → ⊥
not_true true e f = let g : false ≡ true = e in cc
not_true false e f = cc

not_truly : (t u : Bool) → (IsTrue t → IsTrue u) → IsTrue (not u) → IsTrue (not t)
not_truly true true h e = e
not_truly true false h e = let g : false ≡ true = h refl in cc
not_truly false u h e = refl

pub rest : IsRow (λ a b c d. not (has_zero a b)) (λ a b c d. pos 0) (λ a b c d. most_of a b -ℤ pos 1) (of_numbers dya.Residue)
rest = record {
  span = λ a b c d h k t.
      let most = magnitude-most a b a (record { least = omega (arith, ints); most = h.order }) in
      let l = h.least in
      let m = h.most in
      let some : pos 1 ≤ℤ magnitude a = some_magnitude a (λ e. not_true (has_zero a b) t (zero_within a b a (record { least = omega (arith, ints); most = h.order }) e)) in
      record { least = record { least = omega (arith, ints); most = omega (arith, ints) }; order = omega (arith, ints); most = record { least = omega (arith, ints); most = omega (arith, ints, clamps) } };
  sound = λ a b c d x y h k p q t. residue_sound x y (most_of a b) (λ e. not_true (has_zero a b) t (zero_within a b x p e)) (magnitude-most a b x p);
  smaller = λ a b c d p q r s h k l m i j t.
      let u = most-inside a b p q h.order i in
      (not_truly (has_zero a b) (has_zero p q) (zero_inside a b p q i) t, record { least = omega (arith, ints); most = omega (arith, ints) });
}

pub truth_held : (t : Bool) → Holds (pos 0) (pos 1) (truth t)
truth_held true = record { least = omega (arith, ints); most = omega (arith, ints) }
truth_held false = record { least = omega (arith, ints); most = omega (arith, ints) }

truth_span : IsSpan (pos 0) (pos 1)
truth_span = record { least = record { least = omega (arith, ints); most = omega (arith, ints) }; order = omega (arith, ints); most = record { least = omega (arith, ints); most = omega (arith, ints) } }

-- a test of any two numbers
pub comparison : (t : ℤ → ℤ → Bool) → IsRow (λ a b c d. true) (λ a b c d. pos 0) (λ a b c d. pos 1) (λ x y. Some (truth (t x y)))
comparison f = record {
  span = λ a b c d h k t. truth_span;
  sound = λ a b c d x y h k p q t. record { number = truth (f x y); is = refl; holds = truth_held (f x y) };
  smaller = λ a b c d p q r s h k l m i j t. (t, record { least = omega (arith, ints); most = omega (arith, ints) });
}

abbrev logicals : ℤ → ℤ → ℤ → ℤ → Bool
logicals a b c d = are_truths a b && are_truths c d

logical_sound : (f : Bool → Bool → Bool) (x y : ℤ) → (x ≡ pos 0) ⊎ (x ≡ pos 1) → (y ≡ pos 0) ⊎ (y ≡ pos 1) → Valued (pos 0) (pos 1) (logical f x y)
logical_sound f x y (inl p) (inl q) = record { number = truth (f false false); is = ap (λ (z : ℤ). logical f z y) p ∙ ap (logical f (pos 0)) q; holds = truth_held (f false false) }
logical_sound f x y (inl p) (inr q) = record { number = truth (f false true); is = ap (λ (z : ℤ). logical f z y) p ∙ ap (logical f (pos 0)) q; holds = truth_held (f false true) }
logical_sound f x y (inr p) (inl q) = record { number = truth (f true false); is = ap (λ (z : ℤ). logical f z y) p ∙ ap (logical f (pos 1)) q; holds = truth_held (f true false) }
logical_sound f x y (inr p) (inr q) = record { number = truth (f true true); is = ap (λ (z : ℤ). logical f z y) p ∙ ap (logical f (pos 1)) q; holds = truth_held (f true true) }

truth_of : (a b x : ℤ) → IsTrue (are_truths a b) → Holds a b x → (x ≡ pos 0) ⊎ (x ≡ pos 1)
truth_of a b x t h = let u = truths_test a b t in truth_cases x (le_trans (pos 0) a x u.0 h.least) (le_trans x b (pos 1) h.most u.1)

truths_inside : (a b p q : ℤ) → Inside a b p q → IsTrue (are_truths p q) → IsTrue (are_truths a b)
truths_inside a b p q i t = let u = truths_test p q t in truths_tested a b (le_trans (pos 0) p a u.0 i.least) (le_trans b q (pos 1) i.most u.1)

-- a function of truth values
pub connective : (f : Bool → Bool → Bool) → IsRow (λ a b c d. logicals a b c d) (λ a b c d. pos 0) (λ a b c d. pos 1) (logical f)
connective f = record {
  span = λ a b c d h k t. truth_span;
  sound = λ a b c d x y h k p q t.
      let u = both (are_truths a b) (are_truths c d) t in
      logical_sound f x y (truth_of a b x u.0 p) (truth_of c d y u.1 q);
  smaller = λ a b c d p q r s h k l m i j t.
      let u = both (are_truths p q) (are_truths r s) t in
      (both_back (are_truths a b) (are_truths c d) (truths_inside a b p q i u.0) (truths_inside c d r s j u.1), record { least = omega (arith, ints); most = omega (arith, ints) });
}
