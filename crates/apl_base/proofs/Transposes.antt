-- The lengths of a transpose: grouped by the axes of the result, each length of the argument stands once.
use Rattle.std.proofs.Common.{◌≡◌, ◌==◌, ℕ, zero, suc, ◌+◌, ◌*◌, ◌^◌, ◌<◌, ◌≤◌, Bool, true, false, if◌then◌else◌, List, [], ◌∷◌, length, map, get_or, refl, ap, ◌∙◌, arith}
use Rattle.std.specs.List.{AllByRecursion, Contains}
use borrow.Author.Count.{below_more}
use Rattle.std.proofs.Math.Nat.{mul-le-mul}
use Rattle.apl_base.specs.Array.{IsShape, size_of}
use Rattle.apl_base.specs.Selection.{AreAxes, axes_rank, least, lengths_at, upward, transpose_shape}
use Rattle.apl_base.proofs.Booleans.{eqb-same, eqb-other, eqb-passed}
use Rattle.apl_base.proofs.Upward.{length-map-upward, all-map-upward}

-- a number below one is below the next
pub below_next : (x a : ℕ) → x < a → x < suc a
below_next x a p = omega arith

size_passed : (f : ℕ → List ℕ) (x n a k : ℕ) → x < a → size_of (map (λ r. size_of (if x == r then n ∷ f r else f r)) (upward a k)) ≡ size_of (map (λ r. size_of (f r)) (upward a k))
size_passed f x n a zero p = refl
size_passed f x n a (suc k) p =
    let e = eqb-passed x a p in
    let h = size_passed f x n (suc a) k (below_next x a p) in
    rw (e, h) refl

size_more : (f : ℕ → List ℕ) (x n a m k : ℕ) → x ≡ a + m → m < k → size_of (map (λ r. size_of (if x == r then n ∷ f r else f r)) (upward a k)) ≡ n * size_of (map (λ r. size_of (f r)) (upward a k))
size_more f x n a m zero e p = absurd (omega (arith, p))
size_more f x n a zero (suc k) e p =
    let b = eqb-same x a (omega (arith, e)) in
    let h = size_passed f x n (suc a) k (omega (arith, e)) in
    rw (b, h) (omega arith)
size_more f x n a (suc m) (suc k) e p =
    let b = eqb-other x a m e in
    let h = size_more f x n (suc a) m k (omega (arith, e)) (omega (arith, p)) in
    let g = ap (λ v. size_of (f a) * v) h in
    rw b (omega (arith, g))

size_none : (a k : ℕ) → size_of (map (λ r. 1) (upward a k)) ≡ 1
size_none a zero = refl
size_none a (suc k) = omega (arith, size_none (suc a) k)

-- the product of the lengths, axis by axis of the result
size_grouped : (k : ℕ) (axes ns : List ℕ) → AllByRecursion (λ a. a < k) axes → length axes ≡ length ns → size_of (map (λ r. size_of (lengths_at r axes ns)) (upward 0 k)) ≡ size_of ns
size_grouped k [] [] h l = size_none 0 k
size_grouped k (a ∷ axes) (n ∷ ns) h l =
    size_more (λ r. lengths_at r axes ns) a n 0 a k (omega arith) h.0
    ∙ ap (λ v. n * v) (size_grouped k axes ns h.1 (omega (arith, l)))
size_grouped k [] (n ∷ ns) h l = absurd (omega (arith, l))
size_grouped k (a ∷ axes) [] h l = absurd (omega (arith, l))

least_below_size : (ns : List ℕ) → least ns ≤ size_of ns
least_below_size [] = omega arith
least_below_size (n ∷ []) = omega arith
least_below_size (zero ∷ m ∷ ms) = omega arith
least_below_size (suc n ∷ m ∷ ms) = omega (arith, least_below_size (m ∷ ms))

size_over_le : (f g : ℕ → ℕ) (a k : ℕ) → ((r : ℕ) → f r ≤ g r) → size_of (map f (upward a k)) ≤ size_of (map g (upward a k))
size_over_le f g a zero h = omega arith
size_over_le f g a (suc k) h = mul-le-mul (h a) (size_over_le f g (suc a) k h)

-- how many axes of the argument become the axes of the result, all together
total : (ℕ → ℕ) → ℕ → ℕ → ℕ
total f a zero = 0
total f a (suc k) = f a + total f (suc a) k

total_passed : (f : ℕ → List ℕ) (x n a k : ℕ) → x < a → total (λ r. length (if x == r then n ∷ f r else f r)) a k ≡ total (λ r. length (f r)) a k
unfolding total
total_passed f x n a zero p = refl
total_passed f x n a (suc k) p =
    let e = eqb-passed x a p in
    let h = total_passed f x n (suc a) k (below_next x a p) in
    rw (e, h) refl

total_more : (f : ℕ → List ℕ) (x n a m k : ℕ) → x ≡ a + m → m < k → total (λ r. length (if x == r then n ∷ f r else f r)) a k ≡ suc (total (λ r. length (f r)) a k)
unfolding total
total_more f x n a m zero e p = absurd (omega (arith, p))
total_more f x n a zero (suc k) e p =
    let b = eqb-same x a (omega (arith, e)) in
    let h = total_passed f x n (suc a) k (omega (arith, e)) in
    rw (b, h) (omega arith)
total_more f x n a (suc m) (suc k) e p =
    let b = eqb-other x a m e in
    let h = total_more f x n (suc a) m k (omega (arith, e)) (omega (arith, p)) in
    rw b (omega (arith, h))

total_none : (a k : ℕ) → total (λ r. 0) a k ≡ 0
unfolding total
total_none a zero = refl
total_none a (suc k) = omega (arith, total_none (suc a) k)

total_is : (k : ℕ) (axes ns : List ℕ) → AllByRecursion (λ a. a < k) axes → length axes ≡ length ns → total (λ r. length (lengths_at r axes ns)) 0 k ≡ length ns
total_is k [] [] h l = total_none 0 k
total_is k (a ∷ axes) (n ∷ ns) h l =
    total_more (λ r. lengths_at r axes ns) a n 0 a k (omega arith) h.0
    ∙ ap suc (total_is k axes ns h.1 (omega (arith, l)))
total_is k [] (n ∷ ns) h l = absurd (omega (arith, l))
total_is k (a ∷ axes) [] h l = absurd (omega (arith, l))

total_at_least : (f : ℕ → ℕ) (a k : ℕ) → ((r : ℕ) → a ≤ r → r < a + k → 0 < f r) → k ≤ total f a k
unfolding total
total_at_least f a zero h = omega arith
total_at_least f a (suc k) h =
    let r = total_at_least f (suc a) k (λ r p q. h r (omega (arith, p)) (omega (arith, q))) in
    omega (arith, h a (omega arith) (omega arith), r)

-- an axis of the result that is among the numbers has a length
longer : (n : ℕ) (t : Bool) (ms : List ℕ) → 0 < length ms → 0 < length (if t then n ∷ ms else ms)
longer n true ms h = omega arith
longer n false ms h = h

has_length : (r : ℕ) (axes ns : List ℕ) (j : ℕ) → length axes ≡ length ns → j < length axes → get_or axes j r ≡ r → 0 < length (lengths_at r axes ns)
has_length r [] ns j l p e = absurd (omega (arith, p))
has_length r (a ∷ axes) [] j l p e = absurd (omega (arith, l))
has_length r (a ∷ axes) (n ∷ ns) zero l p e = let b = eqb-same a r e in rw b (omega arith)
has_length r (a ∷ axes) (n ∷ ns) (suc j) l p e =
    longer n (a == r) (lengths_at r axes ns) (has_length r axes ns j (omega (arith, l)) (omega (arith, p)) e)

-- a transpose has at most as many axes as the argument
pub few_axes : (axes ns : List ℕ) → AreAxes (axes_rank axes) axes → length axes ≡ length ns → axes_rank axes ≤ length ns
few_axes axes ns x l =
    let k = axes_rank axes in
    let t = total_at_least (λ r. length (lengths_at r axes ns)) 0 k (λ r p q. let m = x.each r (omega (arith, q)) in has_length r axes ns m.0 l m.1 m.2) in
    omega (arith, total_is k axes ns x.below l, t)

least_within : (b : ℕ) (ns : List ℕ) → AllByRecursion (λ n. n ≤ b) ns → least ns ≤ b
least_within b [] h = omega arith
least_within b (n ∷ []) h = h.0
least_within b (n ∷ m ∷ ms) h = omega (arith, h.0)

put_on : (b n : ℕ) (t : Bool) (ms : List ℕ) → n ≤ b → AllByRecursion (λ m. m ≤ b) ms → AllByRecursion (λ m. m ≤ b) (if t then n ∷ ms else ms)
put_on b n true ms p h = (p, h)
put_on b n false ms p h = h

lengths_within : (b r : ℕ) (axes ns : List ℕ) → AllByRecursion (λ n. n ≤ b) ns → AllByRecursion (λ n. n ≤ b) (lengths_at r axes ns)
lengths_within b r [] ns h = tt
lengths_within b r (a ∷ axes) [] h = tt
lengths_within b r (a ∷ axes) (n ∷ ns) h = put_on b n (a == r) (lengths_at r axes ns) h.0 (lengths_within b r axes ns h.1)

-- the lengths of a transpose make a shape
pub transposed_shape : (axes ns : List ℕ) → AreAxes (axes_rank axes) axes → length axes ≡ length ns → IsShape ns → IsShape (transpose_shape axes ns)
transposed_shape axes ns x l s =
    let k = axes_rank axes in
    let f : ℕ → ℕ = λ r. least (lengths_at r axes ns) in
    let g : ℕ → ℕ = λ r. size_of (lengths_at r axes ns) in
    let a = size_over_le f g 0 k (λ r. least_below_size (lengths_at r axes ns)) in
    let b = size_grouped k axes ns x.below l in
    record {
      rank = omega (arith, length-map-upward f 0 k, few_axes axes ns x l, s.rank);
      each = all-map-upward (λ n. n ≤ 2 ^ 40) f 0 k (λ r low high. least_within (2 ^ 40) (lengths_at r axes ns) (lengths_within (2 ^ 40) r axes ns s.each));
      product = omega (arith, a, b, s.product);
    }

-- ---- axes of worked examples, number by number

-- each number below k is in the list
abbrev pub HoldsBelow : ℕ → List ℕ → Type 0
HoldsBelow zero axes = Unit {0}
HoldsBelow (suc k) axes = Contains axes k × HoldsBelow k axes

-- then each is
pub each_held : (k : ℕ) (axes : List ℕ) → HoldsBelow k axes → (r : ℕ) → r < k → Contains axes r
each_held zero axes h r p = absurd (omega (arith, p))
each_held (suc k) axes h r p = below_more (λ n. Contains axes n) k (each_held k axes h.1) h.0 r (omega (arith, p))
