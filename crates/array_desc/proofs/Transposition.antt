-- Transposition: axes that fall together add their strides and have the least of their lengths.
use Rattle.std.proofs.Common.{◌≡◌, ◌==◌, ℕ, zero, suc, ◌+◌, ◌-◌, ◌<◌, ◌≤◌, Bool, true, false, if◌then◌else◌, ℤ, pos, ◌+ℤ◌, ◌*ℤ◌, List, [], ◌∷◌, ◌++◌, Option, Some, None, length, map, get_or, drop, drop-cons, append_assoc, add-one, refl, ap, sym, subst, ◌∙◌, arith, inl, inr}
use Rattle.std.specs.Int.{int_wrap}
use Rattle.std.proofs.lemmas.Int.{int_wrap-add_left}
use mir.Syntax.{w128}
use Rattle.std.specs.Prelude.{slice_index}
use Rattle.std.specs.List.{AllByRecursion}
use Rattle.std.proofs.lemmas.Int.{ints}
use Rattle.std.proofs.lemmas.Bool.Decides.{nat_tests}
use Rattle.apl_base.specs.Array.{IsShape, IsIndex}
use Rattle.apl_base.specs.Selection.{AreAxes, axes_rank, least, lengths_at, upward, transpose_shape, transpose_index}
use Rattle.array_desc.specs.Desc.{DescView, IsDesc, dot}
use Rattle.array_desc.specs.Steps.{stride_at, lesser, least_with}
use Rattle.apl_base.proofs.Integers.{add_mul}
use Rattle.apl_base.proofs.Sizes.{IsIndex-length}
use Rattle.apl_base.proofs.Booleans.{eqb-same, eqb-other, eqb-passed}
use Rattle.apl_base.proofs.Transposes.{below_next, few_axes}
use Rattle.apl_base.proofs.Upward.{length-map-upward}
use Rattle.array_desc.proofs.Sums.{Meets, Near, meets-near}

-- ---- lists over the axes of the result

index_over : (f : ℕ → ℕ) (a k : ℕ) (is : List ℕ) (r : ℕ) → IsIndex (map f (upward a k)) is → r < k → slice_index is r < f (a + r)
index_over f a zero is r q p = absurd (omega (arith, p))
index_over f a (suc k) [] r q p = absurd q
index_over f a (suc k) (i ∷ is) zero q p =
    let e : a ≡ a + 0 = omega arith in subst (λ n. i < f n) e q.0
index_over f a (suc k) (i ∷ is) (suc r) q p =
    let e : suc a + r ≡ a + suc r = omega arith in
    subst (λ n. slice_index is r < f n) e (index_over f (suc a) k is r q.1 (omega (arith, p)))

-- ---- the sum over the axes of the result

-- an axis below adds nothing
dot_passed : (f : ℕ → ℤ) (x : ℕ) (s : ℤ) (a k : ℕ) (is : List ℕ) → x < a → dot (map (λ r. if x == r then s +ℤ f r else f r) (upward a k)) is ≡ dot (map f (upward a k)) is
dot_passed f x s a zero is p = refl
dot_passed f x s a (suc k) [] p = refl
dot_passed f x s a (suc k) (i ∷ is) p =
    let e = eqb-passed x a p in
    let h = dot_passed f x s (suc a) k is (below_next x a p) in
    rw (e, h) refl

-- one axis more adds its stride times the index
dot_more : (f : ℕ → ℤ) (x : ℕ) (s : ℤ) (a m k : ℕ) (is : List ℕ) → x ≡ a + m → m < k → length is ≡ k → dot (map (λ r. if x == r then s +ℤ f r else f r) (upward a k)) is ≡ (s *ℤ pos (slice_index is m)) +ℤ dot (map f (upward a k)) is
dot_more f x s a m zero is e p l = absurd (omega (arith, p))
dot_more f x s a m (suc k) [] e p l = absurd (omega (arith, l))
dot_more f x s a zero (suc k) (i ∷ is) e p l =
    let b = eqb-same x a (omega (arith, e)) in
    let h = dot_passed f x s (suc a) k is (omega (arith, e)) in
    let d = add_mul s (f a) (pos i) in
    rw (b, h) (omega (arith, ints, d))
dot_more f x s a (suc m) (suc k) (i ∷ is) e p l =
    let b = eqb-other x a m e in
    let h = dot_more f x s (suc a) m k is (omega (arith, e)) (omega (arith, p)) (omega (arith, l)) in
    rw b (omega (arith, ints, h))

dot_none : (a k : ℕ) (is : List ℕ) → dot (map (λ r. pos 0) (upward a k)) is ≡ pos 0
dot_none a zero is = refl
dot_none a (suc k) [] = refl
dot_none a (suc k) (i ∷ is) = omega (arith, ints, dot_none (suc a) k is)

-- the same sum, over the axes of the argument and over those of the result
pub dot-transposed : (k : ℕ) (axes : List ℕ) (ss : List ℤ) (is : List ℕ) → AllByRecursion (λ a. a < k) axes → length axes ≡ length ss → length is ≡ k → dot (map (λ r. stride_at r axes ss) (upward 0 k)) is ≡ dot ss (transpose_index axes is)
dot-transposed k [] [] is h l e = dot_none 0 k is
dot-transposed k (a ∷ axes) (s ∷ ss) is h l e =
    dot_more (λ r. stride_at r axes ss) a s 0 a k is (omega arith) h.0 e
    ∙ ap (λ z. (s *ℤ pos (slice_index is a)) +ℤ z) (dot-transposed k axes ss is h.1 (omega (arith, l)) e)
dot-transposed k [] (s ∷ ss) is h l e = absurd (omega (arith, l))
dot-transposed k (a ∷ axes) [] is h l e = absurd (omega (arith, l))

-- ---- the index read

below_least : (b : ℕ) (ns : List ℕ) → b < least ns → AllByRecursion (λ n. b < n) ns
below_least b [] p = tt
below_least b (n ∷ []) p = (p, tt)
below_least b (n ∷ m ∷ ms) p = (omega (arith, p), below_least b (m ∷ ms) (omega (arith, p)))

-- the place on axis r is below each length of an argument's axis that becomes r
record Inside (place : ℕ → ℕ) (k : ℕ) (axes ns : List ℕ) : Type 0 where
  each : (r : ℕ) → r < k → AllByRecursion (λ n. place r < n) (lengths_at r axes ns)

inside_head : (place : ℕ → ℕ) (k a n : ℕ) (axes ns : List ℕ) → a < k → Inside place k (a ∷ axes) (n ∷ ns) → place a < n
inside_head place k a n axes ns p h =
    let P : List ℕ → Type 0 = λ ms. AllByRecursion (λ m. place a < m) ms in
    let e = ap (λ b. if b then n ∷ lengths_at a axes ns else lengths_at a axes ns) (eqb-same a a refl) in
    (subst P e (h.each a p)).0

drop_head : (place n : ℕ) (t : Bool) (ms : List ℕ) → AllByRecursion (λ m. place < m) (if t then n ∷ ms else ms) → AllByRecursion (λ m. place < m) ms
drop_head place n true ms h = h.1
drop_head place n false ms h = h

inside_rest : (place : ℕ → ℕ) (k a n : ℕ) (axes ns : List ℕ) → Inside place k (a ∷ axes) (n ∷ ns) → Inside place k axes ns
inside_rest place k a n axes ns h = record { each = λ r p. drop_head (place r) n (a == r) (lengths_at r axes ns) (h.each r p) }

index_from_inside : (k : ℕ) (axes ns is : List ℕ) → AllByRecursion (λ a. a < k) axes → length axes ≡ length ns → Inside (slice_index is) k axes ns → IsIndex ns (transpose_index axes is)
index_from_inside k [] [] is h l q = tt
index_from_inside k (a ∷ axes) (n ∷ ns) is h l q =
    (inside_head (slice_index is) k a n axes ns h.0 q, index_from_inside k axes ns is h.1 (omega (arith, l)) (inside_rest (slice_index is) k a n axes ns q))
index_from_inside k [] (n ∷ ns) is h l q = absurd (omega (arith, l))
index_from_inside k (a ∷ axes) [] is h l q = absurd (omega (arith, l))

place_below : (axes ns is : List ℕ) (r : ℕ) → IsIndex (transpose_shape axes ns) is → r < axes_rank axes → slice_index is r < least (lengths_at r axes ns)
place_below axes ns is r q p =
    let f : ℕ → ℕ = λ m. least (lengths_at m axes ns) in
    let P : ℕ → Type 0 = λ m. slice_index is r < f m in
    let e : 0 + r ≡ r = omega arith in
    subst P e (index_over f 0 (axes_rank axes) is r q p)

pub transposed_index : (axes ns is : List ℕ) → AreAxes (axes_rank axes) axes → length axes ≡ length ns → IsIndex (transpose_shape axes ns) is → IsIndex ns (transpose_index axes is)
transposed_index axes ns is x l q =
    index_from_inside (axes_rank axes) axes ns is x.below l
    (record { each = λ r p. below_least (slice_index is r) (lengths_at r axes ns) (place_below axes ns is r q p) })

pub few_result_axes : (axes ns : List ℕ) → AreAxes (axes_rank axes) axes → length axes ≡ length ns → IsShape ns → axes_rank axes ≤ 8
few_result_axes axes ns x l s = omega (arith, few_axes axes ns x l, s.rank)

pub transpose-meets : (old : DescView) (axes : List ℕ) → IsDesc old → length axes ≡ length old.shape → AreAxes (axes_rank axes) axes → Meets old.base (map (λ r. stride_at r axes old.strides) (upward 0 (axes_rank axes))) (transpose_shape axes old.shape) old (transpose_index axes)
transpose-meets old axes d l x =
    let k = axes_rank axes in
    record {
      axes = length-map-upward (λ r. stride_at r axes old.strides) 0 k ∙ sym (length-map-upward (λ r. least (lengths_at r axes old.shape)) 0 k);
      index = λ i q. transposed_index axes old.shape i x l q;
      same = λ i q.
          let e : length i ≡ k = IsIndex-length (transpose_shape axes old.shape) i q ∙ length-map-upward (λ r. least (lengths_at r axes old.shape)) 0 k in
          ap (λ z. old.base +ℤ z) (dot-transposed k axes old.strides i x.below (l ∙ sym d.strides) e);
    }

-- ---- what the calls compute

near-over : (f : ℕ → ℤ) (a k : ℕ) → Near (map f (upward a k)) (map (λ r. int_wrap w128 (f r)) (upward a k))
near-over f a zero = tt
near-over f a (suc k) = (inr refl, near-over f (suc a) k)

pub transpose-made : (old : DescView) (axes : List ℕ) (b : ℤ) (ss : List ℤ) (ns : List ℕ) → IsDesc old → length axes ≡ length old.shape → AreAxes (axes_rank axes) axes → b ≡ old.base → ss ≡ map (λ r. int_wrap w128 (stride_at r axes old.strides)) (upward 0 (axes_rank axes)) → ns ≡ transpose_shape axes old.shape → Meets b ss ns old (transpose_index axes)
transpose-made old axes b ss ns d l x e f g =
    let k = axes_rank axes in
    let s : ℕ → ℤ = λ r. stride_at r axes old.strides in
    let m = meets-near old.base old.base (map s (upward 0 k)) (map (λ r. int_wrap w128 (s r)) (upward 0 k)) (transpose_shape axes old.shape) old (transpose_index axes) d (transpose-meets old axes d l x) (inl refl) (near-over s 0 k) in
    rw (e, f, g) m

-- one axis of the result more
pub over_turn : {A : Type 0} (f : ℕ → A) (rank k : ℕ) (before after all : List A) (x : A) → k < rank → after ≡ before ++ x ∷ [] → x ≡ f k → before ++ map f (upward k (rank - k)) ≡ all → after ++ map f (upward (k + 1) (rank - (k + 1))) ≡ all
over_turn f rank k before after all x p a b h =
    let e : rank - k ≡ suc (rank - suc k) = omega arith in
    rw (a, b, add-one k) (append_assoc before (f k ∷ []) (map f (upward (suc k) (rank - suc k))) ∙ (rw e at h))

other : (a r : ℕ) → (a ≡ r → ⊥) → (a == r) ≡ false
other a r p = grind (arith, nat_tests)

regroup_sum : (b s z : ℤ) → (b +ℤ s) +ℤ z ≡ b +ℤ (s +ℤ z)
regroup_sum b s z = omega (arith, ints)

-- an axis of the argument that becomes the axis r adds its stride, and another one nothing
pub stride_taken : (axes : List ℕ) (ss : List ℤ) (r j : ℕ) (before after stride all : ℤ) → j < length axes → j < length ss → get_or axes j 0 ≡ r → stride ≡ get_or ss j (pos 0) → after ≡ int_wrap w128 (before +ℤ stride) → int_wrap w128 (before +ℤ stride_at r (drop j axes) (drop j ss)) ≡ all → int_wrap w128 (after +ℤ stride_at r (drop (j + 1) axes) (drop (j + 1) ss)) ≡ all
stride_taken axes ss r j before after stride all p q e f g h =
    let a = drop-cons axes j 0 p in
    let b = drop-cons ss j (pos 0) q in
    let s = get_or ss j (pos 0) in
    let c = eqb-same (get_or axes j 0) r e in
    let rest = stride_at r (drop (suc j) axes) (drop (suc j) ss) in
    rw (g, f, add-one j)
    (int_wrap-add_left w128 (before +ℤ s) rest
    ∙ ap (int_wrap w128) (regroup_sum before s rest)
    ∙ (rw (a, b, c) at h))

pub stride_left : (axes : List ℕ) (ss : List ℤ) (r j : ℕ) (before after all : ℤ) → j < length axes → j < length ss → (get_or axes j 0 ≡ r → ⊥) → after ≡ before → int_wrap w128 (before +ℤ stride_at r (drop j axes) (drop j ss)) ≡ all → int_wrap w128 (after +ℤ stride_at r (drop (j + 1) axes) (drop (j + 1) ss)) ≡ all
stride_left axes ss r j before after all p q e g h =
    let a = drop-cons axes j 0 p in
    let b = drop-cons ss j (pos 0) q in
    let c = other (get_or axes j 0) r e in
    rw (g, add-one j) (rw (a, b, c) at h)

-- the same with the least length
least_push : (so_far : Option ℕ) (n : ℕ) (ns : List ℕ) → least_with (Some (lesser so_far n)) ns ≡ least_with so_far (n ∷ ns)
least_push None n ns = refl
least_push (Some m) n [] = refl
least_push (Some m) n (k ∷ ns) = omega arith

pub length_taken : (axes ns : List ℕ) (r j : ℕ) (before after : Option ℕ) (n all : ℕ) → j < length axes → j < length ns → get_or axes j 0 ≡ r → n ≡ get_or ns j 0 → after ≡ Some (lesser before n) → least_with before (lengths_at r (drop j axes) (drop j ns)) ≡ all → least_with after (lengths_at r (drop (j + 1) axes) (drop (j + 1) ns)) ≡ all
length_taken axes ns r j before after n all p q e f g h =
    let a = drop-cons axes j 0 p in
    let b = drop-cons ns j 0 q in
    let c = eqb-same (get_or axes j 0) r e in
    rw (g, f, add-one j)
    (least_push before (get_or ns j 0) (lengths_at r (drop (suc j) axes) (drop (suc j) ns))
    ∙ (rw (a, b, c) at h))

pub length_left : (axes ns : List ℕ) (r j : ℕ) (before after : Option ℕ) (all : ℕ) → j < length axes → j < length ns → (get_or axes j 0 ≡ r → ⊥) → after ≡ before → least_with before (lengths_at r (drop j axes) (drop j ns)) ≡ all → least_with after (lengths_at r (drop (j + 1) axes) (drop (j + 1) ns)) ≡ all
length_left axes ns r j before after all p q e g h =
    let a = drop-cons axes j 0 p in
    let b = drop-cons ns j 0 q in
    let c = other (get_or axes j 0) r e in
    rw (g, add-one j) (rw (a, b, c) at h)
