-- A place of the row-major order, and the number of its index on one axis.
use Rattle.std.proofs.Common.{◌≡◌, ℕ, zero, suc, ◌+◌, ◌-◌, ◌*◌, ◌/◌, ◌%◌, ◌<◌, ◌≤◌, List, [], ◌∷◌, length, take, drop, get_or, sym, ap, ◌∙◌, arith}
use Rattle.std.specs.Prelude.{remove, slice_index, slice_set}
use Rattle.std.proofs.Math.Nat.{div-add-mod, mod-lt, mod-eq_of_lt, div-eq_of_lt, div-lt_iff_lt-mul, mul-add-mod_self_right, mul-add-div_right, mul-pos}
use Rattle.apl_base.specs.Array.{size_of, place_at, index_at}
use Rattle.apl_base.proofs.Sizes.{size_of-rest, place_at-index_at, size_of-append}

-- the elements behind an axis, and its length
abbrev pub behind : List ℕ → ℕ → ℕ
behind ns k = size_of (drop (suc k) ns)

abbrev pub along : List ℕ → ℕ → ℕ
along ns k = get_or ns k 0

-- a shape's size by the axes before one, it, and those behind
pub size_by : (ns : List ℕ) (k : ℕ) → k < length ns → size_of ns ≡ size_of (take k ns) * (along ns k * behind ns k)
size_by [] k h = absurd (omega arith)
size_by (n ∷ ns) zero h = omega arith
size_by (n ∷ ns) (suc k) h = rw (size_by ns k (omega arith)) (omega arith)

pub size_without : (ns : List ℕ) (k : ℕ) → k < length ns → size_of (remove ns k) ≡ size_of (take k ns) * behind ns k
size_without ns k h = size_of-append (take k ns) (drop (suc k) ns)

-- what the index at a place has on an axis, and where the place lies if that number is another
pub record OnAxisOf (ns : List ℕ) (k p : ℕ) : Type 0 where
  pub number : slice_index (index_at ns p) k ≡ p / behind ns k % along ns k
  pub within : (p / behind ns k % along ns k) * behind ns k ≤ p
  pub moved : (v : ℕ) → place_at ns (slice_set (index_at ns p) k v) ≡ (p - (p / behind ns k % along ns k) * behind ns k) + v * behind ns k
  pub without : place_at (remove ns k) (remove (index_at ns p) k) ≡ p / (along ns k * behind ns k) * behind ns k + p % behind ns k

below_div : (p n s : ℕ) → 0 < s → p < n * s → p / s < n
below_div p n s some h = (div-lt_iff_lt-mul some).1 h

on_first : (n : ℕ) (ns : List ℕ) (p : ℕ) → p < n * size_of ns → OnAxisOf (n ∷ ns) 0 p
on_first n ns p h =
    let some : 0 < size_of ns = size_of-rest n (size_of ns) p h in
    let few : p / size_of ns < n = below_div p n (size_of ns) some h in
    let whole : size_of ns * (p / size_of ns) + p % size_of ns ≡ p = div-add-mod p (size_of ns) in
    let same : p / size_of ns % n ≡ p / size_of ns = mod-eq_of_lt few in
    let rest : place_at ns (index_at ns (p % size_of ns)) ≡ p % size_of ns = place_at-index_at ns (p % size_of ns) (mod-lt p some) in
    let none : p / (n * size_of ns) ≡ 0 = div-eq_of_lt h in
    record {
      number = sym same;
      within = rw same (omega (arith, whole));
      moved = λ v. rw (rest, same) (omega (arith, whole));
      without = rest ∙ rw none (omega arith);
    }

-- a factor of a product above a number is not 0
pub some_factors : (b m i s q : ℕ) → s ≡ b * (m * i) → q < s → (0 < i) × (0 < m)
some_factors b m zero s q e h = absurd (omega (arith, e, h))
some_factors b zero (suc i) s q e h = absurd (omega (arith, e, h))
some_factors b (suc m) (suc i) s q e h = (omega arith, omega arith)

-- a place behind so many whole stretches, by its runs and lines
pub record Stretches (o b m i q p : ℕ) : Type 0 where
  pub run : p / i ≡ (o * b) * m + q / i
  pub place : p / i % m ≡ q / i % m
  pub line : p / (m * i) ≡ o * b + q / (m * i)
  pub rest : p % i ≡ q % i

pub stretches : (o b m i q p s : ℕ) → s ≡ b * (m * i) → s * o + q ≡ p → q < s → Stretches o b m i q p
stretches o b m i q p s size whole less =
    let some = some_factors b m i s q size less in
    let out : s * o ≡ (b * (m * i)) * o = ap (λ (n : ℕ). n * o) size in
    let by_run : p ≡ ((o * b) * m) * i + q = omega (arith, whole, out) in
    let by_line : p ≡ (o * b) * (m * i) + q = omega (arith, whole, out) in
    let run : p / i ≡ (o * b) * m + q / i = ap (λ (n : ℕ). n / i) by_run ∙ mul-add-div_right some.0 ((o * b) * m) q in
    record {
      run = run;
      place = ap (λ (n : ℕ). n % m) run ∙ mul-add-mod_self_right (o * b) m (q / i);
      line = ap (λ (n : ℕ). n / (m * i)) by_line ∙ mul-add-div_right (mul-pos some.1 some.0) (o * b) q;
      rest = ap (λ (n : ℕ). n % i) by_run ∙ mul-add-mod_self_right ((o * b) * m) i q;
    }

-- one axis more before it
on_next : (n : ℕ) (ns : List ℕ) (k p : ℕ) → k < length ns → p < n * size_of ns → OnAxisOf ns k (p % size_of ns) → OnAxisOf (n ∷ ns) (suc k) p
on_next n ns k p h less on =
    let some : 0 < size_of ns = size_of-rest n (size_of ns) p less in
    let whole : size_of ns * (p / size_of ns) + p % size_of ns ≡ p = div-add-mod p (size_of ns) in
    let st = stretches (p / size_of ns) (size_of (take k ns)) (along ns k) (behind ns k) (p % size_of ns) p (size_of ns) (size_by ns k h) whole (mod-lt p some) in
    record {
      number = on.number ∙ sym st.place;
      within = rw st.place (omega (arith, on.within, whole));
      moved = λ v. ap (λ (x : ℕ). (p / size_of ns) * size_of ns + x) (on.moved v) ∙ rw st.place (omega (arith, on.within, whole));
      without = ap (λ (x : ℕ). (p / size_of ns) * size_of (remove ns k) + x) on.without
          ∙ ap (λ (x : ℕ). (p / size_of ns) * x + ((p % size_of ns) / (along ns k * behind ns k) * behind ns k + (p % size_of ns) % behind ns k)) (size_without ns k h)
          ∙ rw (st.line, st.rest) (omega arith);
    }

pub on_axis_of : (ns : List ℕ) (k p : ℕ) → k < length ns → p < size_of ns → OnAxisOf ns k p
on_axis_of [] k p h less = absurd (omega arith)
on_axis_of (n ∷ ns) zero p h less = on_first n ns p less
on_axis_of (n ∷ ns) (suc k) p h less =
    let some : 0 < size_of ns = size_of-rest n (size_of ns) p less in
    on_next n ns k p (omega arith) less (on_axis_of ns k (p % size_of ns) (omega arith) (mod-lt p some))
