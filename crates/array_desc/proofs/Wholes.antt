-- The whole of a shape: its strides, axis by axis from the last one, and that they make it.
use Rattle.std.proofs.Common.{◌≡◌, ◌==◌, ℕ, zero, suc, ◌-◌, ◌*◌, ◌<◌, ◌≤◌, ℤ, pos, List, [], ◌∷◌, length, get_or, drop, drop-cons, true, false, refl, ap, sym, subst, ◌∙◌, arith}
use Rattle.std.proofs.lemmas.Int.{ints, to_z-of_z}
use Rattle.std.proofs.lemmas.Bool.Decides.{nat_tests}
use mir.Val.{SFits, to_z, of_z}
use mir.Syntax.{w128}
use Rattle.apl_base.specs.Array.{IsIndex, size_of, place_at}
use Rattle.array_desc.specs.Desc.{DescView, IsDesc, IsWhole, ShortAxesRest, dot}
use Rattle.array_desc.specs.Steps.{paired, stride_kept, row_strides, whole_strides}
use Rattle.array_desc.proofs.Canon.{SameNumbers, first_same, strides_same}
use Rattle.std.proofs.Math.ListN.{drop_of_length-le}
use Rattle.apl_base.proofs.Sizes.{IsIndex-positive}
use Rattle.array_desc.proofs.Indices.{positive}
use Rattle.array_desc.proofs.Kept.{dot-kept, short-kept, length-kept}
use Rattle.array_desc.proofs.Places.{dot-row_strides, length-row_strides}

whole_strides-paired : (ns : List ℕ) → whole_strides ns ≡ paired (stride_kept false) (row_strides ns) ns
whole_strides-paired [] = refl
whole_strides-paired (n ∷ ns) = ap (λ v. stride_kept false (pos (size_of ns)) n ∷ v) (whole_strides-paired ns)

dot-whole_strides : (ns is : List ℕ) → IsIndex ns is → dot (whole_strides ns) is ≡ pos (place_at ns is)
dot-whole_strides ns is q =
    ap (λ v. dot v is) (whole_strides-paired ns) ∙ dot-kept (row_strides ns) ns is q ∙ dot-row_strides ns is q

length-whole_strides : (ns : List ℕ) → length (whole_strides ns) ≡ length ns
length-whole_strides ns = ap length (whole_strides-paired ns) ∙ length-kept false (row_strides ns) ns (length-row_strides ns)

short-whole_strides : (ns : List ℕ) → ShortAxesRest (whole_strides ns) ns
short-whole_strides ns =
    let P : List ℤ → Type 0 = λ v. ShortAxesRest v ns in
    subst P (sym (whole_strides-paired ns)) (short-kept false (row_strides ns) ns)

places_same : (d : DescView) → IsWhole d.shape d → SameNumbers d.base (pos 0) d.strides (whole_strides d.shape) d.shape
places_same d w = record { each = λ i q. omega (arith, ints, w.places i q, dot-whole_strides d.shape i q) }

-- the whole of a shape with an element has base 0 and these strides
pub whole_base : (d : DescView) → 0 < size_of d.shape → IsWhole d.shape d → d.base ≡ pos 0
whole_base d p w = first_same d.base (pos 0) d.strides (whole_strides d.shape) d.shape p (places_same d w)

pub whole_has : (d : DescView) → 0 < size_of d.shape → IsWhole d.shape d → d.strides ≡ whole_strides d.shape
whole_has d p w =
    strides_same d.base (pos 0) d.strides (whole_strides d.shape) d.shape
    w.lawful.strides (length-whole_strides d.shape) w.lawful.short (short-whole_strides d.shape) p (places_same d w)

-- a descriptor with base 0 and these strides is the whole of its shape
pub is_whole_by : (d : DescView) → IsDesc d → d.base ≡ pos 0 → d.strides ≡ whole_strides d.shape → IsWhole d.shape d
is_whole_by d w b s = record {
  lawful = w;
  shape = refl;
  places = λ i q.
      let e = ap (λ v. dot v i) s ∙ dot-whole_strides d.shape i q in
      omega (arith, ints, b, e);
}

-- what the loop from the last axis on keeps: the axes from k on are as in the whole, and so many elements lie in them
pub record WholeFrom (ss : List ℤ) (ns : List ℕ) (k behind : ℕ) : Type 0 where
  pub size : behind ≡ size_of (drop k ns)
  pub strides : drop k ss ≡ whole_strides (drop k ns)

size-behind : (n s m : ℕ) → 0 < n * s → n * s ≤ m → s ≤ m
size-behind zero s m p h = absurd (omega (arith, p))
size-behind (suc n) s m p h = omega (arith, h)

-- the part of a shape from an axis on has no more elements than the whole of it
pub size_of-drop_below : (ns : List ℕ) (k m : ℕ) → 0 < size_of ns → size_of ns ≤ m → size_of (drop k ns) ≤ m
size_of-drop_below [] zero m p h = h
size_of-drop_below [] (suc k) m p h = h
size_of-drop_below (n ∷ ns) zero m p h = h
size_of-drop_below (zero ∷ ns) (suc k) m p h = absurd (omega (arith, p))
size_of-drop_below (suc n ∷ ns) (suc k) m p h =
    size_of-drop_below ns k m (positive n (size_of ns) p) (size-behind (suc n) (size_of ns) m p h)

pub whole_begins : (ss : List ℤ) (ns : List ℕ) → length ss ≡ length ns → WholeFrom ss ns (length ns) 1
whole_begins ss ns l =
    let e = drop_of_length-le ns (omega arith) in
    let f = drop_of_length-le ss (omega arith) in
    record { size = ap size_of (sym e); strides = f ∙ ap whole_strides (sym e) }

round_by : (ss : List ℤ) (ns : List ℕ) (k behind : ℕ) → suc k ≤ length ns → length ss ≡ length ns → WholeFrom ss ns (suc k) behind → get_or ss k (pos 0) ≡ stride_kept false (pos behind) (get_or ns k 0) → WholeFrom ss ns k (behind * get_or ns k 0)
round_by ss ns k behind p l h s =
    let e = drop-cons ns k 0 p in
    let f = drop-cons ss k (pos 0) (omega (arith, l)) in
    record {
      size = omega (arith, ap size_of e, ap (λ v. get_or ns k 0 * v) h.size);
      strides = f ∙ ap (λ v. v ∷ drop (suc k) ss) (s ∙ ap (λ v. stride_kept false (pos v) (get_or ns k 0)) h.size)
          ∙ ap (λ v. stride_kept false (pos (size_of (drop (suc k) ns))) (get_or ns k 0) ∷ v) h.strides
          ∙ ap whole_strides (sym e);
    }

pub whole_round : (ss : List ℤ) (ns : List ℕ) (k behind : ℕ) → 0 < k → k ≤ length ns → length ss ≡ length ns → WholeFrom ss ns k behind → get_or ss (k - 1) (pos 0) ≡ stride_kept false (pos behind) (get_or ns (k - 1) 0) → WholeFrom ss ns (k - 1) (behind * get_or ns (k - 1) 0)
whole_round ss ns zero behind z p l h s = absurd (omega (arith, z))
whole_round ss ns (suc k) behind z p l h s = let e : suc k - 1 ≡ k = omega arith in rw e (round_by ss ns k behind p l h (rw e at s))

get_or-whole : (ns : List ℕ) (k : ℕ) → k < length ns → get_or (whole_strides ns) k (pos 0) ≡ stride_kept false (pos (size_of (drop (suc k) ns))) (get_or ns k 0)
get_or-whole [] k p = absurd (omega (arith, p))
get_or-whole (n ∷ ns) zero p = refl
get_or-whole (n ∷ ns) (suc k) p = get_or-whole ns k (omega (arith, p))

-- a stride that is another one on some axis
pub whole_differs : (ss : List ℤ) (ns : List ℕ) (k behind : ℕ) → 0 < k → k ≤ length ns → WholeFrom ss ns k behind → (get_or ss (k - 1) (pos 0) ≡ stride_kept false (pos behind) (get_or ns (k - 1) 0) → ⊥) → ss ≡ whole_strides ns → ⊥
whole_differs ss ns zero behind z p h d q = absurd (omega (arith, z))
whole_differs ss ns (suc k) behind z p h d q =
    let e : suc k - 1 ≡ k = omega arith in
    let f = get_or-whole ns k p in
    d (rw e (ap (λ v. get_or v k (pos 0)) q ∙ f ∙ ap (λ v. stride_kept false (pos v) (get_or ns k 0)) (sym h.size)))

-- the elements from the axis before on are no more than the limit
pub whole_fits : (ss : List ℤ) (ns : List ℕ) (k behind m : ℕ) → 0 < k → k ≤ length ns → 0 < size_of ns → size_of ns ≤ m → WholeFrom ss ns k behind → behind * get_or ns (k - 1) 0 ≤ m
whole_fits ss ns zero behind m z p q r h = absurd (omega (arith, z))
whole_fits ss ns (suc k) behind m z p q r h =
    let e : suc k - 1 ≡ k = omega arith in
    let f = ap size_of (drop-cons ns k 0 p) in
    let g = size_of-drop_below ns k m q r in
    rw (e, h.size) (omega (arith, f, g))

-- cells with the same bits
pub same_bits : (x y : ℤ) → SFits w128 x → SFits w128 y → of_z w128 x ≡ of_z w128 y → x ≡ y
same_bits x y p q e = sym (to_z-of_z w128 x p) ∙ ap (to_z w128) e ∙ to_z-of_z w128 y q

-- where no index leads, every descriptor is the whole of its shape
pub empty_is_whole : (d : DescView) → IsDesc d → size_of d.shape ≡ 0 → IsWhole d.shape d
empty_is_whole d w z = record {
  lawful = w;
  shape = refl;
  places = λ i q. absurd (omega (arith, IsIndex-positive d.shape i q));
}

-- a test against 0 that is true
pub is_zero_by : (n : ℕ) → (n == 0) ≡ true → n ≡ 0
is_zero_by n e = grind (arith, nat_tests)
