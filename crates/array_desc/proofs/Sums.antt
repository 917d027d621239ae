-- Sums of stride times index, and what is left of them in 128 bits.
use Rattle.std.proofs.Common.{◌≡◌, ℕ, zero, suc, ◌<◌, ℤ, pos, ◌+ℤ◌, ◌*ℤ◌, List, [], ◌∷◌, length, map, refl, ap, sym, subst, ◌∙◌, arith, ◌⊎◌, inl, inr}
use Rattle.std.specs.Prelude.{slice_set}
use Rattle.std.specs.Int.{int_wrap}
use Rattle.std.specs.Int.RustNames.{FitsSigned}
use Rattle.std.proofs.lemmas.Int.{ints, int_wrap_fits}
use Rattle.std.proofs.Math.IntN.{*ℤ-zero}
use mir.Syntax.{w128}
use Rattle.apl_base.specs.Number.{IsNumber}
use Rattle.apl_base.specs.Array.{IsShape, IsIndex}
use Rattle.apl_base.specs.Selection.{only_index}
use Rattle.array_desc.specs.Desc.{DescView, IsDesc, Selects, dot, number}
use Rattle.array_desc.specs.Steps.{Makes}
use Rattle.array_desc.proofs.Indices.{first_index}

pub dot-zeros : (ss : List ℤ) (ns : List ℕ) → dot ss (only_index ns) ≡ pos 0
dot-zeros [] ns = refl
dot-zeros (s ∷ ss) [] = refl
dot-zeros (s ∷ ss) (n ∷ ns) = omega (arith, ints, dot-zeros ss ns, *ℤ-zero s)

-- every number of a base and strides over some lengths lies in -M..M
pub record Numbers (b : ℤ) (ss : List ℤ) (ns : List ℕ) : Type 0 where
  pub each : (i : List ℕ) → IsIndex ns i → IsNumber (b +ℤ dot ss i)

-- y is x, or what is left of x in 128 bits
abbrev pub Stands : ℤ → ℤ → Type 0
Stands x y = (y ≡ x) ⊎ (y ≡ int_wrap w128 x)

abbrev pub Near : List ℤ → List ℤ → Type 0
Near [] [] = Unit {0}
Near (x ∷ xs) (y ∷ ys) = Stands x y × Near xs ys
Near [] (y ∷ ys) = ⊥
Near (x ∷ xs) [] = ⊥

pub near-same : (ss : List ℤ) → Near ss ss
near-same [] = tt
near-same (s ∷ ss) = (inl refl, near-same ss)

pub near-wraps : (ss : List ℤ) → Near ss (map (int_wrap w128) ss)
near-wraps [] = tt
near-wraps (s ∷ ss) = (inr refl, near-wraps ss)

pub near-set : (ss : List ℤ) (k : ℕ) (x : ℤ) → Near (slice_set ss k x) (slice_set ss k (int_wrap w128 x))
near-set [] k x = tt
near-set (s ∷ ss) zero x = (inr refl, near-same ss)
near-set (s ∷ ss) (suc k) x = (inl refl, near-set ss k x)

-- a number is kept in 128 bits, and so is the difference of two
pub number_fits : (b : ℤ) → IsNumber b → int_wrap w128 b ≡ b
number_fits b h = let f : FitsSigned w128 b = omega (arith, ints, h.least, h.most) in int_wrap_fits w128 b f

pub difference_fits : (b s : ℤ) → IsNumber b → IsNumber (b +ℤ s) → int_wrap w128 s ≡ s
difference_fits b s h k =
    let f : FitsSigned w128 s = omega (arith, ints, h.least, h.most, k.least, k.most) in int_wrap_fits w128 s f

stands_base : (b b' : ℤ) → Stands b b' → IsNumber b → b' ≡ b
stands_base b b' h k = elim h [ inl e ↦ e | inr e ↦ e ∙ number_fits b k ]

stands_step : (b s s' : ℤ) → Stands s s' → IsNumber b → IsNumber (b +ℤ s) → s' ≡ s
stands_step b s s' h k l = elim h [ inl e ↦ e | inr e ↦ e ∙ difference_fits b s k l ]

at_zeros : (b : ℤ) (ss : List ℤ) (ns : List ℕ) → b +ℤ dot ss (only_index ns) ≡ b
at_zeros b ss ns = omega (arith, ints, dot-zeros ss ns)

at_unit : (b s : ℤ) (ss : List ℤ) (ns : List ℕ) → b +ℤ ((s *ℤ pos 1) +ℤ dot ss (only_index ns)) ≡ b +ℤ s
at_unit b s ss ns = omega (arith, ints, dot-zeros ss ns)

pub one_axis : (b s : ℤ) (j : ℕ) → b +ℤ ((s *ℤ pos j) +ℤ pos 0) ≡ b +ℤ (s *ℤ pos j)
one_axis b s j = omega (arith, ints)

behind : (b s z : ℤ) → b +ℤ ((s *ℤ pos 0) +ℤ z) ≡ b +ℤ z
behind b s z = omega (arith, ints)

numbers_behind : (b s : ℤ) (ss : List ℤ) (n : ℕ) (ns : List ℕ) → 0 < n → Numbers b (s ∷ ss) (n ∷ ns) → Numbers b ss ns
numbers_behind b s ss n ns p h = record { each = λ i q. subst IsNumber (behind b s (dot ss i)) (h.each (0 ∷ i) (p, q)) }

-- the base alone, at the first index
pub number_at_first : (b : ℤ) (ss : List ℤ) (ns is : List ℕ) → Numbers b ss ns → IsIndex ns is → IsNumber b
number_at_first b ss ns is h q = subst IsNumber (at_zeros b ss ns) (h.each (only_index ns) (first_index ns is q))

stride_is : (b s s' : ℤ) (ss : List ℤ) (n : ℕ) (ns is : List ℕ) → 1 < n → IsIndex ns is → Numbers b (s ∷ ss) (n ∷ ns) → Stands s s' → s' ≡ s
stride_is b s s' ss n ns is p q h k =
    stands_step b s s' k
    (number_at_first b (s ∷ ss) (n ∷ ns) (0 ∷ is) h (omega arith, q))
    (subst IsNumber (at_unit b s ss ns) (h.each (1 ∷ only_index ns) (p, first_index ns is q)))

-- where the numbers are in -M..M, strides that are kept in 128 bits give the same numbers
pub near-dot : (b : ℤ) (ss ss' : List ℤ) (ns is : List ℕ) → Numbers b ss ns → Near ss ss' → length ss ≡ length ns → IsIndex ns is → dot ss' is ≡ dot ss is
near-dot b [] [] ns is h k l q = refl
near-dot b (s ∷ ss) (s' ∷ ss') (n ∷ ns) (zero ∷ is) h k l q =
    let e = near-dot b ss ss' ns is (numbers_behind b s ss n ns (omega (arith, q.0)) h) k.1 (omega (arith, l)) q.1 in
    omega (arith, ints, e)
near-dot b (s ∷ ss) (s' ∷ ss') (n ∷ ns) (suc i ∷ is) h k l q =
    let e = near-dot b ss ss' ns is (numbers_behind b s ss n ns (omega (arith, q.0)) h) k.1 (omega (arith, l)) q.1 in
    let f = stride_is b s s' ss n ns is (omega (arith, q.0)) q.1 h k.0 in
    rw (f, e) refl
near-dot b [] (s' ∷ ss') ns is h k l q = absurd k
near-dot b (s ∷ ss) [] ns is h k l q = absurd k
near-dot b (s ∷ ss) (s' ∷ ss') [] is h k l q = absurd (omega (arith, l))
near-dot b (s ∷ ss) (s' ∷ ss') (n ∷ ns) [] h k l q = absurd q

-- a base and strides over some lengths give at each index the number that the old descriptor has at the index read
pub record Meets (b : ℤ) (ss : List ℤ) (ns : List ℕ) (old : DescView) (read : List ℕ → List ℕ) : Type 0 where
  pub axes : length ss ≡ length ns
  pub index : (i : List ℕ) → IsIndex ns i → IsIndex old.shape (read i)
  pub same : (i : List ℕ) → IsIndex ns i → b +ℤ dot ss i ≡ number old (read i)

pub meets-numbers : (b : ℤ) (ss : List ℤ) (ns : List ℕ) (old : DescView) (read : List ℕ → List ℕ) → IsDesc old → Meets b ss ns old read → Numbers b ss ns
meets-numbers b ss ns old read d m = record { each = λ i q. subst IsNumber (sym (m.same i q)) (d.numbers (read i) (m.index i q)) }

near-length : (ss ss' : List ℤ) → Near ss ss' → length ss' ≡ length ss
near-length [] [] k = refl
near-length (s ∷ ss) (s' ∷ ss') k = ap suc (near-length ss ss' k.1)
near-length [] (s' ∷ ss') k = absurd k
near-length (s ∷ ss) [] k = absurd k

-- the same for the base and the strides as 128 bits keep them
pub meets-near : (b b' : ℤ) (ss ss' : List ℤ) (ns : List ℕ) (old : DescView) (read : List ℕ → List ℕ) → IsDesc old → Meets b ss ns old read → Stands b b' → Near ss ss' → Meets b' ss' ns old read
meets-near b b' ss ss' ns old read d m p k = record {
  axes = near-length ss ss' k ∙ m.axes;
  index = m.index;
  same = λ i q.
      let h = meets-numbers b ss ns old read d m in
      let e = near-dot b ss ss' ns i h k m.axes q in
      let f = stands_base b b' p (number_at_first b ss ns i h q) in
      rw (f, e) (m.same i q);
}

-- lengths, base and strides that meet a selection make its descriptor
pub meets-makes : (b : ℤ) (ss : List ℤ) (ns : List ℕ) (old : DescView) (read : List ℕ → List ℕ) (lengths : List ℕ) → IsDesc old → IsShape lengths → ns ≡ lengths → Meets b ss ns old read → Makes b ss ns old lengths read
meets-makes b ss ns old read lengths d s e m =
    let P : List ℕ → Type 0 = IsShape in
    let Q : List ℕ → List ℕ → Type 0 = λ i l. IsIndex l i in
    let n = meets-numbers b ss ns old read d m in
    record {
      sound = record { shape = subst P (sym e) s; axes = m.axes; numbers = n.each };
      shape = e;
      index = λ i q. m.index i (subst (Q i) (sym e) q);
      same = λ i q. m.same i (subst (Q i) (sym e) q);
    }

-- the descriptor of such parts selects from the old one
pub makes-selects : (b : ℤ) (ss : List ℤ) (ns : List ℕ) (old new : DescView) (lengths : List ℕ) (read : List ℕ → List ℕ) → Makes b ss ns old lengths read → new.shape ≡ ns → ((i : List ℕ) → IsIndex ns i → number new i ≡ b +ℤ dot ss i) → Selects old new lengths read
makes-selects b ss ns old new lengths read m e n =
    let Q : List ℕ → List ℕ → Type 0 = λ i l. IsIndex l i in
    record {
      shape = e ∙ m.shape;
      index = m.index;
      number = λ i q. n i (subst (Q i) (sym m.shape) q) ∙ m.same i q;
    }

-- where the index read is the same, so is the selection
pub selects-read : (old new : DescView) (lengths wanted : List ℕ) (read other : List ℕ → List ℕ) → lengths ≡ wanted → ((i : List ℕ) → IsIndex wanted i → read i ≡ other i) → Selects old new lengths read → Selects old new wanted other
selects-read old new lengths wanted read other e f s =
    let Q : List ℕ → List ℕ → Type 0 = λ i l. IsIndex l i in
    let R : List ℕ → Type 0 = IsIndex old.shape in
    record {
      shape = s.shape ∙ e;
      index = λ i q. subst R (f i q) (s.index i (subst (Q i) (sym e) q));
      number = λ i q. s.number i (subst (Q i) (sym e) q) ∙ ap (number old) (f i q);
    }
