-- For each call: the base and the strides that give the selection's map.
use Rattle.std.proofs.Common.{◌≡◌, ℕ, zero, suc, ◌+◌, ◌-◌, ◌*◌, ◌^◌, ◌<◌, ◌≤◌, Bool, true, false, ℤ, pos, negsuc, ◌+ℤ◌, ◌*ℤ◌, ◌≤ℤ◌, ◌<ℤ◌, List, [], ◌∷◌, ◌++◌, length, refl, ap, sym, subst, ◌∙◌, arith, inr}
use Rattle.std.specs.Prelude.{slice_set, slice_index_or, remove, unsigned_abs}
use Rattle.std.proofs.Math.ListN.{replicate}
use Rattle.std.proofs.Math.Nat.{mul-le-mul}
use Rattle.std.proofs.lemmas.List.{length-set, length-append, length-replicate}
use Rattle.std.proofs.lemmas.List.Edits.{length-remove}
use Rattle.std.specs.Int.{int_wrap}
use Rattle.std.proofs.lemmas.Int.{ints, int_wrap-add_right}
use mir.Syntax.{w128}
use Rattle.std.specs.List.{AllByRecursion}
use Rattle.apl_base.specs.Array.{IsShape, IsIndex, size_of}
use Rattle.apl_base.specs.Selection.{only_index, taken, take_index, take_shape, CountsFit, dropped, drop_index, drop_shape, run_place, run_index, run_shape, at_shape, at_index, reverse_index, outer_left_index, outer_right_index}
use Rattle.array_desc.specs.Desc.{DescView, IsDesc, RunFits, dot}
use Rattle.array_desc.specs.Steps.{paired, WindowFits, window_start, window_length}
use Rattle.apl_base.proofs.Integers.{mul_add, mul_assoc, magnitude-is}
use Rattle.apl_base.proofs.Sizes.{IsIndex-length, IsIndex-below}
use Rattle.array_desc.proofs.Indices.{index_with_size}
use Rattle.array_desc.proofs.Sums.{Meets, Near, Stands, near-same, near-set, meets-near, dot-zeros}

-- ---- a window: part of each axis from a start on

pub window_lengths : (ns starts lengths : List ℕ) → WindowFits ns starts lengths → (length starts ≡ length ns) × (length lengths ≡ length ns)
window_lengths [] [] [] h = (refl, refl)
window_lengths (n ∷ ns) (a ∷ starts) (m ∷ lengths) h =
    let e = window_lengths ns starts lengths h.1 in (ap suc e.0, ap suc e.1)
window_lengths [] [] (m ∷ lengths) h = absurd h
window_lengths [] (a ∷ starts) lengths h = absurd h
window_lengths (n ∷ ns) [] lengths h = absurd h
window_lengths (n ∷ ns) (a ∷ starts) [] h = absurd h

window_index : (ns starts lengths is : List ℕ) → WindowFits ns starts lengths → IsIndex lengths is → IsIndex ns (paired ◌+◌ starts is)
window_index [] [] [] [] h q = tt
window_index (n ∷ ns) (a ∷ starts) (m ∷ lengths) (i ∷ is) h q =
    (omega (arith, h.0, q.0), window_index ns starts lengths is h.1 q.1)
window_index [] [] [] (i ∷ is) h q = absurd q
window_index (n ∷ ns) (a ∷ starts) (m ∷ lengths) [] h q = absurd q
window_index [] [] (m ∷ lengths) is h q = absurd h
window_index [] (a ∷ starts) lengths is h q = absurd h
window_index (n ∷ ns) [] lengths is h q = absurd h
window_index (n ∷ ns) (a ∷ starts) [] is h q = absurd h

pub dot-paired : (ss : List ℤ) (starts is : List ℕ) → length starts ≡ length is → dot ss starts +ℤ dot ss is ≡ dot ss (paired ◌+◌ starts is)
dot-paired [] starts is l = refl
dot-paired (s ∷ ss) [] [] l = refl
dot-paired (s ∷ ss) (a ∷ starts) (i ∷ is) l =
    let e = dot-paired ss starts is (omega (arith, l)) in
    let f = mul_add s (pos a) (pos i) in
    omega (arith, ints, e, f)
dot-paired (s ∷ ss) [] (i ∷ is) l = absurd (omega (arith, l))
dot-paired (s ∷ ss) (a ∷ starts) [] l = absurd (omega (arith, l))

pub window-meets : (old : DescView) (starts lengths : List ℕ) → IsDesc old → WindowFits old.shape starts lengths → Meets (old.base +ℤ dot old.strides starts) old.strides lengths old (paired ◌+◌ starts)
window-meets old starts lengths d h = record {
  axes = d.strides ∙ sym (window_lengths old.shape starts lengths h).1;
  index = λ i q. window_index old.shape starts lengths i h q;
  same = λ i q.
      let e = window_lengths old.shape starts lengths h in
      let l = IsIndex-length lengths i q in
      let f = dot-paired old.strides starts i (e.0 ∙ sym e.1 ∙ sym l) in
      omega (arith, ints, f);
}

-- ---- a run on one axis: places from one on, a step apart

regroup_run : (b p z : ℤ) → (b +ℤ p) +ℤ z ≡ b +ℤ (p +ℤ z)
regroup_run b p z = omega (arith, ints)

run_term : (s step : ℤ) (from i : ℕ) → pos 0 ≤ℤ (pos from +ℤ (step *ℤ pos i)) → (s *ℤ pos from) +ℤ ((s *ℤ step) *ℤ pos i) ≡ s *ℤ pos (run_place from step i)
run_term s step from i h =
    rw (mul_assoc s step (pos i), ← mul_add s (pos from) (step *ℤ pos i), magnitude-is (pos from +ℤ (step *ℤ pos i)) h) refl

run_dot : (ss : List ℤ) (is : List ℕ) (k from : ℕ) (step : ℤ) → k < length ss → length is ≡ length ss → pos 0 ≤ℤ (pos from +ℤ (step *ℤ pos (slice_index_or is k 0))) → (slice_index_or ss k (pos 0) *ℤ pos from) +ℤ dot (slice_set ss k (slice_index_or ss k (pos 0) *ℤ step)) is ≡ dot ss (run_index k from step is)
run_dot [] is k from step p l h = absurd (omega (arith, p))
run_dot (s ∷ ss) [] k from step p l h = absurd (omega (arith, l))
run_dot (s ∷ ss) (i ∷ is) zero from step p l h =
    let e = run_term s step from i h in omega (arith, ints, e)
run_dot (s ∷ ss) (i ∷ is) (suc k) from step p l h =
    let e = run_dot ss is k from step (omega (arith, p)) (omega (arith, l)) h in omega (arith, ints, e)

slot_below : (ns is : List ℕ) (k count : ℕ) → k < length ns → IsIndex (slice_set ns k count) is → slice_index_or is k 0 < count
slot_below [] is k count p q = absurd (omega (arith, p))
slot_below (n ∷ ns) (i ∷ is) zero count p q = q.0
slot_below (n ∷ ns) (i ∷ is) (suc k) count p q = slot_below ns is k count (omega (arith, p)) q.1
slot_below (n ∷ ns) [] zero count p q = absurd q
slot_below (n ∷ ns) [] (suc k) count p q = absurd q

-- an index of the changed lengths, with its place on the axis exchanged for one of the old length
pub slot_index : (ns is : List ℕ) (k count place : ℕ) → k < length ns → place < slice_index_or ns k 0 → IsIndex (slice_set ns k count) is → IsIndex ns (slice_set is k place)
slot_index [] is k count place p b q = absurd (omega (arith, p))
slot_index (n ∷ ns) (i ∷ is) zero count place p b q = (b, q.1)
slot_index (n ∷ ns) (i ∷ is) (suc k) count place p b q = (q.0, slot_index ns is k count place (omega (arith, p)) b q.1)
slot_index (n ∷ ns) [] zero count place p b q = absurd q
slot_index (n ∷ ns) [] (suc k) count place p b q = absurd q

run_below : (n from : ℕ) (step : ℤ) (count j : ℕ) → RunFits n from step count → j < count → run_place from step j < n
run_below n from step count j r p =
    let a = r.low j p in
    let b = r.high j p in
    let e = magnitude-is (pos from +ℤ (step *ℤ pos j)) a in
    let c : pos (run_place from step j) <ℤ pos n = subst (λ z. z <ℤ pos n) (sym e) b in
    omega (arith, ints, c)

pub run-meets : (old : DescView) (k from : ℕ) (step : ℤ) (count : ℕ) → IsDesc old → k < length old.shape → RunFits (slice_index_or old.shape k 0) from step count → Meets (old.base +ℤ (slice_index_or old.strides k (pos 0) *ℤ pos from)) (slice_set old.strides k (slice_index_or old.strides k (pos 0) *ℤ step)) (run_shape k count old.shape) old (run_index k from step)
run-meets old k from step count d p r = record {
  axes = length-set old.strides k (slice_index_or old.strides k (pos 0) *ℤ step) ∙ d.strides ∙ sym (length-set old.shape k count);
  index = λ i q.
      slot_index old.shape i k count (run_place from step (slice_index_or i k 0)) p
      (run_below (slice_index_or old.shape k 0) from step count (slice_index_or i k 0) r (slot_below old.shape i k count p q)) q;
  same = λ i q.
      let l : length i ≡ length old.strides = IsIndex-length (run_shape k count old.shape) i q ∙ length-set old.shape k count ∙ sym d.strides in
      let a = r.low (slice_index_or i k 0) (slot_below old.shape i k count p q) in
      let e = run_dot old.strides i k from step (omega (arith, d.strides, p)) l a in
      regroup_run old.base (slice_index_or old.strides k (pos 0) *ℤ pos from) (dot (slice_set old.strides k (slice_index_or old.strides k (pos 0) *ℤ step)) i) ∙ ap (λ z. old.base +ℤ z) e;
}

-- ---- one place of one axis

at_index_fits : (ns is : List ℕ) (k place : ℕ) → k < length ns → place < slice_index_or ns k 0 → IsIndex (at_shape k ns) is → IsIndex ns (at_index k place is)
at_index_fits [] is k place p b q = absurd (omega (arith, p))
at_index_fits (n ∷ ns) is zero place p b q = (b, q)
at_index_fits (n ∷ ns) (i ∷ is) (suc k) place p b q = (q.0, at_index_fits ns is k place (omega (arith, p)) b q.1)
at_index_fits (n ∷ ns) [] (suc k) place p b q = absurd q

at_dot : (ss : List ℤ) (ns is : List ℕ) (k place : ℕ) → length ss ≡ length ns → k < length ns → IsIndex (at_shape k ns) is → (slice_index_or ss k (pos 0) *ℤ pos place) +ℤ dot (remove ss k) is ≡ dot ss (at_index k place is)
at_dot ss [] is k place l p q = absurd (omega (arith, p))
at_dot [] (n ∷ ns) is k place l p q = absurd (omega (arith, l))
at_dot (s ∷ ss) (n ∷ ns) is zero place l p q = refl
at_dot (s ∷ ss) (n ∷ ns) (i ∷ is) (suc k) place l p q =
    let e = at_dot ss ns is k place (omega (arith, l)) (omega (arith, p)) q.1 in omega (arith, ints, e)
at_dot (s ∷ ss) (n ∷ ns) [] (suc k) place l p q = absurd q

removed_axes : (ss : List ℤ) (ns : List ℕ) (k : ℕ) → length ss ≡ length ns → k < length ns → length (remove ss k) ≡ length (at_shape k ns)
removed_axes ss ns k l p =
    let p' : k < length ss = omega arith in
    let a = length-remove ss k p' in
    let b = length-remove ns k p in
    omega arith

pub at-meets : (old : DescView) (k place : ℕ) → IsDesc old → k < length old.shape → place < slice_index_or old.shape k 0 → Meets (old.base +ℤ (slice_index_or old.strides k (pos 0) *ℤ pos place)) (remove old.strides k) (at_shape k old.shape) old (at_index k place)
at-meets old k place d p b = record {
  axes = removed_axes old.strides old.shape k d.strides p;
  index = λ i q. at_index_fits old.shape i k place p b q;
  same = λ i q.
      regroup_run old.base (slice_index_or old.strides k (pos 0) *ℤ pos place) (dot (remove old.strides k) i)
      ∙ ap (λ z. old.base +ℤ z) (at_dot old.strides old.shape i k place d.strides p q);
}

-- ---- strides of 0

pub dot-rest : (m : ℕ) (is : List ℕ) → dot (replicate m (pos 0)) is ≡ pos 0
dot-rest zero is = refl
dot-rest (suc m) [] = refl
dot-rest (suc m) (i ∷ is) = omega (arith, ints, dot-rest m is)

pub extend-meets : (old : DescView) (to : List ℕ) → IsDesc old → size_of old.shape ≡ 1 → Meets old.base (replicate (length to) (pos 0)) to old (λ i. only_index old.shape)
extend-meets old to d e = record {
  axes = length-replicate (length to) (pos 0);
  index = λ i q. index_with_size old.shape (omega (arith, e));
  same = λ i q. omega (arith, ints, dot-rest (length to) i, dot-zeros old.strides old.shape);
}

left_index : (ns right is : List ℕ) → IsIndex (ns ++ right) is → IsIndex ns (outer_left_index ns is)
left_index [] right is q = tt
left_index (n ∷ ns) right (i ∷ is) q = (q.0, left_index ns right is q.1)
left_index (n ∷ ns) right [] q = absurd q

left_dot : (ss : List ℤ) (ns right is : List ℕ) (m : ℕ) → length ss ≡ length ns → IsIndex (ns ++ right) is → dot (ss ++ replicate m (pos 0)) is ≡ dot ss (outer_left_index ns is)
left_dot [] [] right is m l q = dot-rest m is
left_dot (s ∷ ss) (n ∷ ns) right (i ∷ is) m l q = ap (λ z. (s *ℤ pos i) +ℤ z) (left_dot ss ns right is m (omega (arith, l)) q.1)
left_dot (s ∷ ss) (n ∷ ns) right [] m l q = absurd q
left_dot [] (n ∷ ns) right is m l q = absurd (omega (arith, l))
left_dot (s ∷ ss) [] right is m l q = absurd (omega (arith, l))

pub left-meets : (old : DescView) (right : List ℕ) → IsDesc old → Meets old.base (old.strides ++ replicate (length right) (pos 0)) (old.shape ++ right) old (outer_left_index old.shape)
left-meets old right d = record {
  axes = omega (arith, length-append old.strides (replicate (length right) (pos 0)), length-replicate (length right) (pos 0), length-append old.shape right, d.strides);
  index = λ i q. left_index old.shape right i q;
  same = λ i q. ap (λ z. old.base +ℤ z) (left_dot old.strides old.shape right i (length right) d.strides q);
}

right_index : (left ns is : List ℕ) → IsIndex (left ++ ns) is → IsIndex ns (outer_right_index left is)
right_index [] ns is q = q
right_index (m ∷ left) ns (i ∷ is) q = right_index left ns is q.1
right_index (m ∷ left) ns [] q = absurd q

right_dot : (left : List ℕ) (ss : List ℤ) (ns is : List ℕ) → IsIndex (left ++ ns) is → dot (replicate (length left) (pos 0) ++ ss) is ≡ dot ss (outer_right_index left is)
right_dot [] ss ns is q = refl
right_dot (m ∷ left) ss ns (i ∷ is) q = let e = right_dot left ss ns is q.1 in omega (arith, ints, e)
right_dot (m ∷ left) ss ns [] q = absurd q

pub right-meets : (old : DescView) (left : List ℕ) → IsDesc old → Meets old.base (replicate (length left) (pos 0) ++ old.strides) (left ++ old.shape) old (outer_right_index left)
right-meets old left d = record {
  axes = omega (arith, length-append (replicate (length left) (pos 0)) old.strides, length-replicate (length left) (pos 0), length-append left old.shape, d.strides);
  index = λ i q. right_index left old.shape i q;
  same = λ i q. ap (λ z. old.base +ℤ z) (right_dot left old.strides old.shape i q);
}

-- ---- the same of what the calls compute

-- the base moved along one axis, as 128 bits keep it
moved : (b s p b' : ℤ) → p ≡ int_wrap w128 s → b' ≡ int_wrap w128 (b +ℤ p) → Stands (b +ℤ s) b'
moved b s p b' e f = inr (f ∙ ap (λ z. int_wrap w128 (b +ℤ z)) e ∙ int_wrap-add_right w128 b s)

pub run-made : (old : DescView) (k from : ℕ) (step : ℤ) (count : ℕ) (stride at product change b : ℤ) (ss : List ℤ) (ns : List ℕ) → IsDesc old → k < length old.shape → RunFits (slice_index_or old.shape k 0) from step count → stride ≡ slice_index_or old.strides k (pos 0) → at ≡ pos from → product ≡ int_wrap w128 (stride *ℤ at) → b ≡ int_wrap w128 (old.base +ℤ product) → change ≡ int_wrap w128 (stride *ℤ step) → ss ≡ slice_set old.strides k change → ns ≡ run_shape k count old.shape → Meets b ss ns old (run_index k from step)
run-made old k from step count stride at product change b ss ns d p r e1 e2 e3 e4 e5 e6 e7 =
    let s = slice_index_or old.strides k (pos 0) in
    let f = e3 ∙ ap (λ z. int_wrap w128 (z *ℤ at)) e1 ∙ ap (λ z. int_wrap w128 (s *ℤ z)) e2 in
    let g = e6 ∙ ap (slice_set old.strides k) (e5 ∙ ap (λ z. int_wrap w128 (z *ℤ step)) e1) in
    let n : Near (slice_set old.strides k (s *ℤ step)) (slice_set old.strides k (int_wrap w128 (s *ℤ step))) = near-set old.strides k (s *ℤ step) in
    let m = meets-near (old.base +ℤ (s *ℤ pos from)) b (slice_set old.strides k (s *ℤ step)) (slice_set old.strides k (int_wrap w128 (s *ℤ step))) (run_shape k count old.shape) old (run_index k from step) d (run-meets old k from step count d p r) (moved old.base (s *ℤ pos from) product b f e4) n in
    rw (g, e7) m

pub at-made : (old : DescView) (k place : ℕ) (stride at product b : ℤ) (ss : List ℤ) (ns : List ℕ) → IsDesc old → k < length old.shape → place < slice_index_or old.shape k 0 → stride ≡ slice_index_or old.strides k (pos 0) → at ≡ pos place → product ≡ int_wrap w128 (stride *ℤ at) → b ≡ int_wrap w128 (old.base +ℤ product) → ss ≡ remove old.strides k → ns ≡ at_shape k old.shape → Meets b ss ns old (at_index k place)
at-made old k place stride at product b ss ns d p q e1 e2 e3 e4 e5 e6 =
    let s = slice_index_or old.strides k (pos 0) in
    let f = e3 ∙ ap (λ z. int_wrap w128 (z *ℤ at)) e1 ∙ ap (λ z. int_wrap w128 (s *ℤ z)) e2 in
    let m = meets-near (old.base +ℤ (s *ℤ pos place)) b (remove old.strides k) (remove old.strides k) (at_shape k old.shape) old (at_index k place) d (at-meets old k place d p q) (moved old.base (s *ℤ pos place) product b f e4) (near-same (remove old.strides k)) in
    rw (e5, e6) m

pub window-made : (old : DescView) (starts lengths : List ℕ) (b : ℤ) (ss : List ℤ) (ns : List ℕ) → IsDesc old → WindowFits old.shape starts lengths → b ≡ int_wrap w128 (old.base +ℤ dot old.strides starts) → ss ≡ old.strides → ns ≡ lengths → Meets b ss ns old (paired ◌+◌ starts)
window-made old starts lengths b ss ns d h e f g =
    let m = meets-near (old.base +ℤ dot old.strides starts) b old.strides old.strides lengths old (paired ◌+◌ starts) d (window-meets old starts lengths d h) (inr e) (near-same old.strides) in
    rw (f, g) m

pub extend-made : (old : DescView) (to : List ℕ) (b : ℤ) (ss : List ℤ) (ns : List ℕ) → IsDesc old → size_of old.shape ≡ 1 → b ≡ old.base → ss ≡ replicate (length to) (pos 0) → ns ≡ to → Meets b ss ns old (λ i. only_index old.shape)
extend-made old to b ss ns d h e f g = rw (e, f, g) (extend-meets old to d h)

pub left-made : (old : DescView) (right : List ℕ) (b : ℤ) (ss : List ℤ) (ns : List ℕ) → IsDesc old → b ≡ old.base → ss ≡ old.strides ++ replicate (length right) (pos 0) → ns ≡ old.shape ++ right → Meets b ss ns old (outer_left_index old.shape)
left-made old right b ss ns d e f g = rw (e, f, g) (left-meets old right d)

pub right-made : (old : DescView) (left : List ℕ) (b : ℤ) (ss : List ℤ) (ns : List ℕ) → IsDesc old → b ≡ old.base → ss ≡ replicate (length left) (pos 0) ++ old.strides → ns ≡ left ++ old.shape → Meets b ss ns old (outer_right_index left)
right-made old left b ss ns d e f g = rw (e, f, g) (right-meets old left d)

-- ---- lengths that make a shape

-- the lengths without one axis that has elements
at_size : (ns : List ℕ) (k : ℕ) → k < length ns → size_of ns ≡ slice_index_or ns k 0 * size_of (at_shape k ns)
at_size [] k p = absurd (omega (arith, p))
at_size (n ∷ ns) zero p = refl
at_size (n ∷ ns) (suc k) p = let e = at_size ns k (omega (arith, p)) in let f = ap (λ z. n * z) e in omega (arith, f)

at_each : (b : ℕ) (ns : List ℕ) (k : ℕ) → AllByRecursion (λ n. n ≤ b) ns → AllByRecursion (λ n. n ≤ b) (at_shape k ns)
at_each b [] zero h = tt
at_each b [] (suc k) h = tt
at_each b (n ∷ ns) zero h = h.1
at_each b (n ∷ ns) (suc k) h = (h.0, at_each b ns k h.1)

grows : (n m : ℕ) → 0 < n → m ≤ n * m
grows zero m p = absurd (omega (arith, p))
grows (suc n) m p = omega arith

pub at_is_shape : (ns : List ℕ) (k place : ℕ) → IsShape ns → k < length ns → place < slice_index_or ns k 0 → IsShape (at_shape k ns)
at_is_shape ns k place s p q = record {
  rank = omega (arith, length-remove ns k p, s.rank);
  each = at_each (2 ^ 40) ns k s.each;
  product = omega (arith, at_size ns k p, grows (slice_index_or ns k 0) (size_of (at_shape k ns)) (omega (arith, q)), s.product);
}

-- ---- the counts of take and drop

pub counts_length : (ns : List ℕ) (counts : List ℤ) → CountsFit ns counts → length counts ≡ length ns
counts_length [] [] h = refl
counts_length (n ∷ ns) (a ∷ counts) h = ap suc (counts_length ns counts h.1)
counts_length [] (a ∷ counts) h = absurd h
counts_length (n ∷ ns) [] h = absurd h

pub count_fits : (ns : List ℕ) (counts : List ℤ) (k : ℕ) → CountsFit ns counts → k < length ns → unsigned_abs (slice_index_or counts k (pos 0)) ≤ slice_index_or ns k 0
count_fits [] counts k h p = absurd (omega (arith, p))
count_fits (n ∷ ns) (a ∷ counts) zero h p = h.0
count_fits (n ∷ ns) (a ∷ counts) (suc k) h p = count_fits ns counts k h.1 (omega (arith, p))
count_fits (n ∷ ns) [] k h p = absurd h

part_fits : (taking : Bool) (n : ℕ) (a : ℤ) → unsigned_abs a ≤ n → window_start taking n a + window_length taking n a ≤ n
part_fits true n (pos a) p = omega (arith, p)
part_fits true n (negsuc a) p = omega (arith, p)
part_fits false n (pos a) p = omega (arith, p)
part_fits false n (negsuc a) p = omega (arith, p)

pub window_fits : (taking : Bool) (ns : List ℕ) (counts : List ℤ) → CountsFit ns counts → WindowFits ns (paired (window_start taking) ns counts) (paired (window_length taking) ns counts)
window_fits taking [] [] h = tt
window_fits taking (n ∷ ns) (a ∷ counts) h = (part_fits taking n a h.0, window_fits taking ns counts h.1)
window_fits taking [] (a ∷ counts) h = absurd h
window_fits taking (n ∷ ns) [] h = absurd h

pub take_lengths : (ns : List ℕ) (counts : List ℤ) → CountsFit ns counts → paired (window_length true) ns counts ≡ take_shape counts
take_lengths [] [] h = refl
take_lengths (n ∷ ns) (a ∷ counts) h = ap (λ r. unsigned_abs a ∷ r) (take_lengths ns counts h.1)
take_lengths [] (a ∷ counts) h = absurd h
take_lengths (n ∷ ns) [] h = absurd h

pub drop_lengths : (ns : List ℕ) (counts : List ℤ) → paired (window_length false) ns counts ≡ drop_shape ns counts
drop_lengths [] counts = refl
drop_lengths (n ∷ ns) [] = refl
drop_lengths (n ∷ ns) (a ∷ counts) = ap (λ r. (n - unsigned_abs a) ∷ r) (drop_lengths ns counts)

taken_from : (n : ℕ) (a : ℤ) (i : ℕ) → taken n a 0 + i ≡ taken n a i
taken_from n (pos a) i = omega arith
taken_from n (negsuc a) i = omega arith

dropped_from : (n : ℕ) (a : ℤ) (i : ℕ) → dropped n a 0 + i ≡ dropped n a i
dropped_from n (pos a) i = omega arith
dropped_from n (negsuc a) i = omega arith

pub take_reads : (ns : List ℕ) (counts : List ℤ) (is : List ℕ) → paired ◌+◌ (paired (window_start true) ns counts) is ≡ take_index ns counts is
take_reads [] counts is = refl
take_reads (n ∷ ns) [] is = refl
take_reads (n ∷ ns) (a ∷ counts) [] = refl
take_reads (n ∷ ns) (a ∷ counts) (i ∷ is) = let e = taken_from n a i in let f = take_reads ns counts is in rw (e, f) refl

pub drop_reads : (ns : List ℕ) (counts : List ℤ) (is : List ℕ) → paired ◌+◌ (paired (window_start false) ns counts) is ≡ drop_index ns counts is
drop_reads [] counts is = refl
drop_reads (n ∷ ns) [] is = refl
drop_reads (n ∷ ns) (a ∷ counts) [] = refl
drop_reads (n ∷ ns) (a ∷ counts) (i ∷ is) = let e = dropped_from n a i in let f = drop_reads ns counts is in rw (e, f) refl

window_each : (b : ℕ) (ns starts lengths : List ℕ) → WindowFits ns starts lengths → AllByRecursion (λ n. n ≤ b) ns → AllByRecursion (λ n. n ≤ b) lengths
window_each b [] [] [] h s = tt
window_each b (n ∷ ns) (a ∷ starts) (m ∷ lengths) h s = (omega (arith, h.0, s.0), window_each b ns starts lengths h.1 s.1)
window_each b [] [] (m ∷ lengths) h s = absurd h
window_each b [] (a ∷ starts) lengths h s = absurd h
window_each b (n ∷ ns) [] lengths h s = absurd h
window_each b (n ∷ ns) (a ∷ starts) [] h s = absurd h

window_size : (ns starts lengths : List ℕ) → WindowFits ns starts lengths → size_of lengths ≤ size_of ns
window_size [] [] [] h = omega arith
window_size (n ∷ ns) (a ∷ starts) (m ∷ lengths) h =
    let p : m ≤ n = omega (arith, h.0) in mul-le-mul p (window_size ns starts lengths h.1)
window_size [] [] (m ∷ lengths) h = absurd h
window_size [] (a ∷ starts) lengths h = absurd h
window_size (n ∷ ns) [] lengths h = absurd h
window_size (n ∷ ns) (a ∷ starts) [] h = absurd h

-- lengths that are nowhere greater make a shape
pub window_is_shape : (ns starts lengths : List ℕ) → WindowFits ns starts lengths → IsShape ns → IsShape lengths
window_is_shape ns starts lengths h s = record {
  rank = omega (arith, (window_lengths ns starts lengths h).1, s.rank);
  each = window_each (2 ^ 40) ns starts lengths h s.each;
  product = omega (arith, window_size ns starts lengths h, s.product);
}

-- ---- reversal: the run from the last place on, one place back each time

back_low : (n last j : ℕ) → last ≡ n - 1 → j < n → pos 0 ≤ℤ (pos last +ℤ (negsuc 0 *ℤ pos j))
back_low n last j e p = omega (arith, ints)

back_high : (n last j : ℕ) → last ≡ n - 1 → j < n → (pos last +ℤ (negsuc 0 *ℤ pos j)) <ℤ pos n
back_high n last j e p = omega (arith, ints)

-- every place of the axis, from its last on
pub back_fits : (n last : ℕ) → last ≡ n - 1 → RunFits n last (negsuc 0) n
back_fits n last e = record {
  low = λ j p. back_low n last j e p;
  high = λ j p. back_high n last j e p;
}

-- a place, taken out and put back
same_slot : (ns : List ℕ) (k : ℕ) → slice_set ns k (slice_index_or ns k 0) ≡ ns
same_slot [] k = refl
same_slot (n ∷ ns) zero = refl
same_slot (n ∷ ns) (suc k) = ap (λ r. n ∷ r) (same_slot ns k)

pub back_lengths : (ns : List ℕ) (k n : ℕ) → n ≡ slice_index_or ns k 0 → run_shape k n ns ≡ ns
back_lengths ns k n e = rw e (same_slot ns k)

back_reads : (last i : ℕ) → i ≤ last → run_place last (negsuc 0) i ≡ last - i
back_reads last i p = let e = magnitude-is (pos last +ℤ (negsuc 0 *ℤ pos i)) (omega (arith, ints)) in omega (arith, ints, e)

pub reverse_reads : (ns : List ℕ) (k last : ℕ) → k < length ns → last ≡ slice_index_or ns k 0 - 1 → (is : List ℕ) → IsIndex ns is → run_index k last (negsuc 0) is ≡ reverse_index ns k is
reverse_reads ns k last p e is q =
    let b = IsIndex-below ns is k q p in
    rw (back_reads last (slice_index_or is k 0) (omega arith), e) refl
