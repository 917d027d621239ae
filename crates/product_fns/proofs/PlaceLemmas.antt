-- Where the elements along an axis stand in row-major order.
use Rattle.std.proofs.Common.{◌≡◌, ℕ, zero, suc, ◌+◌, ◌*◌, ◌/◌, ◌%◌, ◌<◌, List, [], ◌∷◌, length, get_or, take, drop, sym, ap, ◌∙◌, arith}
use Rattle.std.specs.Prelude.{remove, insert}
use Rattle.std.proofs.lemmas.Nat.{div-mul-add}
use Rattle.apl_base.specs.Array.{size_of, place_at, IsIndex}
use Rattle.apl_base.proofs.Sizes.{size_of-append, place_at-below, IsIndex-positive}

-- the remainder of the place of row i and column j
pub mod-mul-add : (i q j : ℕ) → j < q → (i * q + j) % q ≡ j
mod-mul-add i q j h =
    let e : (i * q + j) / q ≡ i = div-mul-add i q j h in
    let whole : q * ((i * q + j) / q) + (i * q + j) % q ≡ i * q + j = omega arith in
    let same : q * ((i * q + j) / q) ≡ q * i = ap (λ (k : ℕ). q * k) e in
    omega arith

pub positive_right : (a b : ℕ) → 0 < a * b → 0 < b
positive_right a zero h = absurd (omega (arith, h))
positive_right a (suc b) h = omega arith

-- the lengths without an axis have as many elements as those before it and those behind it
pub size_of-remove : (ns : List ℕ) (axis : ℕ) → size_of (remove ns axis) ≡ size_of (take axis ns) * size_of (drop (suc axis) ns)
size_of-remove ns axis = size_of-append (take axis ns) (drop (suc axis) ns)

-- all elements, by those before an axis, along it and behind it
pub size_of-axis : (ns : List ℕ) (axis : ℕ) → axis < length ns → size_of ns ≡ size_of (take axis ns) * (get_or ns axis 0 * size_of (drop (suc axis) ns))
size_of-axis [] axis h = absurd (omega arith)
size_of-axis (n ∷ ns) zero h = omega arith
size_of-axis (n ∷ ns) (suc axis) h =
    ap (λ (k : ℕ). n * k) (size_of-axis ns axis (omega arith)) ∙ omega arith

small_place : (p q : ℕ) → p < q → (p / q ≡ 0) × (p % q ≡ p)
small_place p q h =
    let same : 0 * q + p ≡ p = omega arith in
    (ap (λ (k : ℕ). k / q) (sym same) ∙ div-mul-add 0 q p h, ap (λ (k : ℕ). k % q) (sym same) ∙ mod-mul-add 0 q p h)

-- one number more in front of an index
step_place : (i t n q p s all x k : ℕ) → s ≡ t * q → all ≡ t * (n * q) → 0 < q → x ≡ (p / q) * (n * q) + p % q + k * q →
    i * all + x ≡ ((i * s + p) / q) * (n * q) + (i * s + p) % q + k * q
step_place i t n q p s all x k left whole some is =
    let parts : q * (p / q) + p % q ≡ p = omega arith in
    let below : p % q < q = omega arith in
    let rows : i * s ≡ i * (t * q) = ap (λ (m : ℕ). i * m) left in
    let alls : i * all ≡ i * (t * (n * q)) = ap (λ (m : ℕ). i * m) whole in
    let same : i * s + p ≡ (i * t + p / q) * q + p % q = omega arith in
    let d : (i * s + p) / q ≡ i * t + p / q = ap (λ (m : ℕ). m / q) same ∙ div-mul-add (i * t + p / q) q (p % q) below in
    let m : (i * s + p) % q ≡ p % q = ap (λ (m : ℕ). m % q) same ∙ mod-mul-add (i * t + p / q) q (p % q) below in
    let front : ((i * s + p) / q) * (n * q) ≡ (i * t + p / q) * (n * q) = ap (λ (m : ℕ). m * (n * q)) d in
    omega arith

-- the place of an index into which number k of an axis is put
pub place-insert : (ns is : List ℕ) (axis k : ℕ) → axis < length ns → IsIndex (remove ns axis) is →
    place_at ns (insert is axis k)
    ≡ (place_at (remove ns axis) is / size_of (drop (suc axis) ns)) * (get_or ns axis 0 * size_of (drop (suc axis) ns))
    + place_at (remove ns axis) is % size_of (drop (suc axis) ns) + k * size_of (drop (suc axis) ns)
place-insert [] is axis k h index = absurd (omega arith)
place-insert (n ∷ ns) is zero k h index =
    let small = small_place (place_at ns is) (size_of ns) (place_at-below ns is index) in
    let none : (place_at ns is / size_of ns) * (n * size_of ns) ≡ 0 * (n * size_of ns) = ap (λ (m : ℕ). m * (n * size_of ns)) small.0 in
    omega (arith, none, small.1)
place-insert (n ∷ ns) [] (suc axis) k h index = absurd index
place-insert (n ∷ ns) (i ∷ is) (suc axis) k h index =
    let within : axis < length ns = omega arith in
    let size = size_of-remove ns axis in
    let some : 0 < size_of (take axis ns) * size_of (drop (suc axis) ns) = omega (arith, IsIndex-positive (remove ns axis) is index.1, size) in
    step_place i (size_of (take axis ns)) (get_or ns axis 0) (size_of (drop (suc axis) ns)) (place_at (remove ns axis) is)
    (size_of (remove ns axis)) (size_of ns) (place_at ns (insert is axis k)) k size (size_of-axis ns axis within)
    (positive_right (size_of (take axis ns)) (size_of (drop (suc axis) ns)) some) (place-insert ns is axis k within index.1)
