-- The index of the least number and that of the greatest one.
use Rattle.std.proofs.Common.{◌≡◌, ℕ, zero, suc, ◌-◌, ◌<◌, ◌≤◌, Bool, true, false, ℤ, pos, negsuc, ◌+ℤ◌, ◌*ℤ◌, ◌≤ℤ◌, List, [], ◌∷◌, length, if◌then◌else◌, ap, sym, subst, ◌∙◌, arith}
use Rattle.std.specs.Prelude.{int_lt}
use Rattle.std.proofs.lemmas.Int.{ints}
use Rattle.std.proofs.lemmas.Bool.Decides.{nat_tests}
use Rattle.std.proofs.Math.Nat.{mul-le-mul_left}
use Rattle.apl_base.specs.Array.{IsIndex, size_of}
use Rattle.array_desc.specs.Desc.{DescView, IsDesc, Spans, dot, number}
use Rattle.array_desc.specs.Steps.{paired, end_index}
use Rattle.array_desc.proofs.Indices.{positive}

-- the index where the numbers are least, and where they are greatest
abbrev pub end_of : Bool → DescView → List ℕ
end_of upper d = paired (end_index upper) d.strides d.shape

pick_below : (t : Bool) (n : ℕ) → 0 < n → (if t then n - 1 else 0) < n
pick_below true n p = omega (arith, p)
pick_below false n p = p

end_below : (upper : Bool) (s : ℤ) (n : ℕ) → 0 < n → end_index upper s n < n
end_below true s n p = pick_below (int_lt (pos 0) s) n p
end_below false s n p = pick_below (int_lt s (pos 0)) n p

ends_are_index : (upper : Bool) (ss : List ℤ) (ns : List ℕ) → length ss ≡ length ns → 0 < size_of ns → IsIndex ns (paired (end_index upper) ss ns)
ends_are_index upper [] [] l p = tt
ends_are_index upper (s ∷ ss) (zero ∷ ns) l p = absurd (omega (arith, p))
ends_are_index upper (s ∷ ss) (suc n ∷ ns) l p =
    (end_below upper s (suc n) (omega arith), ends_are_index upper ss ns (omega (arith, l)) (positive n (size_of ns) p))
ends_are_index upper [] (n ∷ ns) l p = absurd (omega (arith, l))
ends_are_index upper (s ∷ ss) [] l p = absurd (omega (arith, l))

not_negative : (m : ℕ) → int_lt (pos m) (pos 0) ≡ false
not_negative m = grind (arith, nat_tests)

is_positive : (m : ℕ) → int_lt (pos 0) (pos (suc m)) ≡ true
is_positive m = grind (arith, nat_tests)

low_term : (s : ℤ) (n i : ℕ) → i < n → (s *ℤ pos (end_index false s n)) ≤ℤ (s *ℤ pos i)
low_term (pos m) n i p = rw (not_negative m) (omega (arith, ints))
low_term (negsuc m) n i p =
    let q : i ≤ n - 1 = omega (arith, p) in let h = mul-le-mul_left (suc m) q in omega (arith, ints, h)

high_term : (s : ℤ) (n i : ℕ) → i < n → (s *ℤ pos i) ≤ℤ (s *ℤ pos (end_index true s n))
high_term (pos zero) n i p = omega (arith, ints)
high_term (pos (suc m)) n i p =
    let q : i ≤ n - 1 = omega (arith, p) in let h = mul-le-mul_left (suc m) q in rw (is_positive m) (omega (arith, ints, h))
high_term (negsuc m) n i p = omega (arith, ints)

low_dot : (ss : List ℤ) (ns is : List ℕ) → length ss ≡ length ns → IsIndex ns is → dot ss (paired (end_index false) ss ns) ≤ℤ dot ss is
low_dot [] [] is l q = omega (arith, ints)
low_dot (s ∷ ss) (n ∷ ns) (i ∷ is) l q =
    let a = low_term s n i q.0 in let b = low_dot ss ns is (omega (arith, l)) q.1 in omega (arith, ints, a, b)
low_dot (s ∷ ss) (n ∷ ns) [] l q = absurd q
low_dot [] (n ∷ ns) is l q = absurd (omega (arith, l))
low_dot (s ∷ ss) [] is l q = absurd (omega (arith, l))

high_dot : (ss : List ℤ) (ns is : List ℕ) → length ss ≡ length ns → IsIndex ns is → dot ss is ≤ℤ dot ss (paired (end_index true) ss ns)
high_dot [] [] is l q = omega (arith, ints)
high_dot (s ∷ ss) (n ∷ ns) (i ∷ is) l q =
    let a = high_term s n i q.0 in let b = high_dot ss ns is (omega (arith, l)) q.1 in omega (arith, ints, a, b)
high_dot (s ∷ ss) (n ∷ ns) [] l q = absurd q
high_dot [] (n ∷ ns) is l q = absurd (omega (arith, l))
high_dot (s ∷ ss) [] is l q = absurd (omega (arith, l))

pub end_is_index : (upper : Bool) (d : DescView) (ends : List ℕ) → IsDesc d → 0 < size_of d.shape → ends ≡ end_of upper d → IsIndex d.shape ends
end_is_index upper d ends w p e =
    let P : List ℕ → Type 0 = IsIndex d.shape in
    subst P (sym e) (ends_are_index upper d.strides d.shape w.strides p)

above : (b x y : ℤ) → x ≤ℤ y → (b +ℤ x) ≤ℤ (b +ℤ y)
above b x y h = omega (arith, ints)

pub ends_span : (d : DescView) (lo hi : ℤ) (lows highs : List ℕ) → IsDesc d → 0 < size_of d.shape → lows ≡ end_of false d → highs ≡ end_of true d → lo ≡ number d lows → hi ≡ number d highs → Spans d lo hi
ends_span d lo hi lows highs w p e f g h =
    let l = g ∙ ap (number d) e in
    let m = h ∙ ap (number d) f in
    let P : ℤ → ℤ → Type 0 = λ x z. z ≤ℤ x in
    let Q : ℤ → ℤ → Type 0 = λ x z. x ≤ℤ z in
    record {
      least = (lows, end_is_index false d lows w p e, sym g);
      greatest = (highs, end_is_index true d highs w p f, sym h);
      from = λ i q. subst (P (number d i)) (sym l) (above d.base (dot d.strides (end_of false d)) (dot d.strides i) (low_dot d.strides d.shape i w.strides q));
      to = λ i q. subst (Q (number d i)) (sym m) (above d.base (dot d.strides i) (dot d.strides (end_of true d)) (high_dot d.strides d.shape i w.strides q));
    }
