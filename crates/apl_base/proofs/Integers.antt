-- Laws of sums and products of the integers, and magnitudes.
use Rattle.std.proofs.Common.{◌≡◌, ℕ, ◌+◌, ◌*◌, ◌<◌, ◌≤◌, ℤ, pos, negsuc, ◌+ℤ◌, ◌*ℤ◌, ◌≤ℤ◌, ◌<ℤ◌, unsigned_abs, refl, ap, arith}
use Rattle.std.proofs.Math.Nat.{mul-le-mul_right}
use Rattle.std.proofs.lemmas.Int.{ints}
use borrow.Author.Differences.{up, down, sum_is_lem, product_is}

-- a product with a sum is the sum of the products
pub mul_add : (s x y : ℤ) → s *ℤ (x +ℤ y) ≡ (s *ℤ x) +ℤ (s *ℤ y)
mul_add s x y =
    let e = sum_is_lem x y in
    let p = ap (λ (n : ℕ). up s * n) e in
    let q = ap (λ (n : ℕ). down s * n) e in
    omega (arith, ints, p, q)

-- the same from the other side
pub add_mul : (x y s : ℤ) → (x +ℤ y) *ℤ s ≡ (x *ℤ s) +ℤ (y *ℤ s)
add_mul x y s =
    let e = sum_is_lem x y in
    let p = ap (λ (n : ℕ). up s * n) e in
    let q = ap (λ (n : ℕ). down s * n) e in
    omega (arith, ints, p, q)

-- of three factors either two are multiplied first
pub mul_assoc : (s t u : ℤ) → (s *ℤ t) *ℤ u ≡ s *ℤ (t *ℤ u)
mul_assoc s t u =
    let e = product_is s t in
    let f = product_is t u in
    let p = ap (λ (n : ℕ). n * up u) e.0 in
    let q = ap (λ (n : ℕ). n * down u) e.0 in
    let r = ap (λ (n : ℕ). n * up u) e.1 in
    let w = ap (λ (n : ℕ). n * down u) e.1 in
    let a = ap (λ (n : ℕ). up s * n) f.0 in
    let b = ap (λ (n : ℕ). down s * n) f.0 in
    let c = ap (λ (n : ℕ). up s * n) f.1 in
    let d = ap (λ (n : ℕ). down s * n) f.1 in
    omega (arith, ints, p, q, r, w, a, b, c, d)

-- a factor that is not negative keeps the order
pub times_positive : (a b : ℤ) (n : ℕ) → a ≤ℤ b → (a *ℤ pos n) ≤ℤ (b *ℤ pos n)
times_positive a b n h =
    let s : up a + down b ≤ up b + down a = omega (arith, ints) in
    let t : (up a + down b) * n ≤ (up b + down a) * n = mul-le-mul_right n s in
    omega (arith, ints)

-- a negative factor turns it round
pub times_negative : (a b : ℤ) (n : ℕ) → a ≤ℤ b → (b *ℤ negsuc n) ≤ℤ (a *ℤ negsuc n)
times_negative a b n h =
    let s : up a + down b ≤ up b + down a = omega (arith, ints) in
    let t : (up a + down b) * (n + 1) ≤ (up b + down a) * (n + 1) = mul-le-mul_right (n + 1) s in
    omega (arith, ints)

-- an integer from 0 up to below n has a magnitude below n
pub magnitude-below : (z : ℤ) (n : ℕ) → pos 0 ≤ℤ z → z <ℤ pos n → unsigned_abs z < n
magnitude-below (pos m) n h k = omega (arith, ints, k)
magnitude-below (negsuc m) n h k = absurd (omega (arith, ints, h))

-- an integer that is not negative is its magnitude
pub magnitude-is : (z : ℤ) → pos 0 ≤ℤ z → pos (unsigned_abs z) ≡ z
magnitude-is (pos n) h = refl
magnitude-is (negsuc n) h = absurd (omega (arith, ints, h))
