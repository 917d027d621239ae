-- Facts on the product of a shape's lengths, on places and on indices.
use Rattle.std.proofs.Common.{◌≡◌, ℕ, zero, suc, ◌+◌, ◌-◌, ◌*◌, ◌/◌, ◌%◌, ◌^◌, ◌<◌, ◌≤◌, min, List, [], ◌∷◌, ◌++◌, length, get_or, set, take, drop, refl, sym, ap, ◌∙◌, ◌⊎◌, inl, inr, arith, add-one, append_assoc, length-append}
use Rattle.std.proofs.Math.Seq.{take-suc, drop-cons}
use Rattle.std.proofs.Math.Nat.{div-add-mod, mul-div_cancel_left, mul-pos, mul-le-mul_right, le-mul_of_pos_right, mod-lt, div-lt_iff_lt-mul}
use Rattle.std.proofs.Math.ListN.{drop_of_length-le}
use Rattle.std.proofs.lemmas.List.{append-nil}
use Rattle.std.proofs.lemmas.Bool.{cases_lt}
use Rattle.std.proofs.lemmas.Nat.{div-mul-add, mod-mul-add}
use Rattle.std.specs.List.{AllByRecursion, EachIndex}
use Rattle.apl_base.specs.Array.{size_of, IsShape, IsIndex, place_at, index_at}

-- the size of two lists of lengths together
pub size_of-append : (xs ys : List ℕ) → size_of (xs ++ ys) ≡ size_of xs * size_of ys
size_of-append [] ys = omega arith
size_of-append (x ∷ xs) ys = rw (size_of-append xs ys) (omega arith)

-- of one length more
pub size_of-take-suc : (ns : List ℕ) (i : ℕ) → i < length ns → size_of (take (suc i) ns) ≡ size_of (take i ns) * get_or ns i 0
size_of-take-suc ns i h =
    let e : size_of (take (suc i) ns) ≡ size_of (take i ns ++ (get_or ns i 0 ∷ [])) = ap size_of (take-suc ns i 0 h) in
    let f : size_of (take i ns ++ (get_or ns i 0 ∷ [])) ≡ size_of (take i ns) * size_of (get_or ns i 0 ∷ []) = size_of-append (take i ns) (get_or ns i 0 ∷ []) in
    omega arith

-- of the lengths from one on
pub size_of-drop : (ns : List ℕ) (i : ℕ) → i < length ns → size_of (drop i ns) ≡ get_or ns i 0 * size_of (drop (suc i) ns)
size_of-drop ns i h = ap size_of (drop-cons ns i 0 h)

-- a capped product times a further length, capped again
cap_below : (s n c : ℕ) → s < c → min (min s c * n) c ≡ min (s * n) c
cap_below s n c h = let e : min s c ≡ s = omega arith in rw e

cap_above : (s n c : ℕ) → c ≤ s → min (min s c * n) c ≡ min (s * n) c
cap_above s zero c h = omega arith
cap_above s (suc n) c h = let e : min s c ≡ c = omega arith in
    let p : c ≤ c * suc n = omega arith in
    let q : c ≤ s * suc n = omega arith in
    rw e (omega arith)

-- a product of which one factor was capped, capped again
pub cap_step : (s n c : ℕ) → min (min s c * n) c ≡ min (s * n) c
cap_step s n c = elim (cases_lt s c) [ inl h ↦ cap_below s n c h | inr h ↦ cap_above s n c h ]

-- one round of the loop that multiplies the lengths
pub size_round : (ns : List ℕ) (i old product new : ℕ) → i < length ns → old ≡ min (size_of (take i ns)) (2 ^ 40 + 1) → product ≡ min (old * get_or ns i 0) (2 ^ 64 - 1) → new ≡ min product (2 ^ 40 + 1) → new ≡ min (size_of (take (i + 1) ns)) (2 ^ 40 + 1)
size_round ns i old product new h is p n =
    let e : new ≡ min (old * get_or ns i 0) (2 ^ 40 + 1) = omega arith in
    let f : min (min (size_of (take i ns)) (2 ^ 40 + 1) * get_or ns i 0) (2 ^ 40 + 1) ≡ min (size_of (take i ns) * get_or ns i 0) (2 ^ 40 + 1) = cap_step (size_of (take i ns)) (get_or ns i 0) (2 ^ 40 + 1) in
    rw (add-one i, size_of-take-suc ns i h, ← f, ← is) e

-- each length within the limit, by index and by recursion
pub each_of_index : (ns : List ℕ) → EachIndex ns (λ k. get_or ns k 0 ≤ 2 ^ 40) → AllByRecursion (λ n. n ≤ 2 ^ 40) ns
each_of_index [] h = tt
each_of_index (n ∷ ns) h = (h 0 (omega arith), each_of_index ns (λ k b. h (suc k) (omega arith)))

-- and back
pub index_of_each : (ns : List ℕ) → AllByRecursion (λ n. n ≤ 2 ^ 40) ns → EachIndex ns (λ k. get_or ns k 0 ≤ 2 ^ 40)
index_of_each [] h k b = absurd (omega arith)
index_of_each (n ∷ ns) h zero b = h.0
index_of_each (n ∷ ns) h (suc k) b = index_of_each ns h.1 k (omega arith)

-- an index has a number for each axis
pub IsIndex-length : (ns is : List ℕ) → IsIndex ns is → length is ≡ length ns
IsIndex-length [] [] h = refl
IsIndex-length (n ∷ ns) (i ∷ is) h = ap suc (IsIndex-length ns is h.1)
IsIndex-length [] (i ∷ is) h = absurd h
IsIndex-length (n ∷ ns) [] h = absurd h

-- an index has a number below each length
pub IsIndex-below : (ns is : List ℕ) (k : ℕ) → IsIndex ns is → k < length ns → get_or is k 0 < get_or ns k 0
IsIndex-below [] [] k h b = absurd (omega arith)
IsIndex-below (n ∷ ns) (i ∷ is) zero h b = h.0
IsIndex-below (n ∷ ns) (i ∷ is) (suc k) h b = IsIndex-below ns is k h.1 (omega arith)
IsIndex-below [] (i ∷ is) k h b = absurd h
IsIndex-below (n ∷ ns) [] k h b = absurd h

-- with another number on one axis, below that axis's length, it is an index
pub IsIndex-set : (ns is : List ℕ) (k v : ℕ) → IsIndex ns is → (k < length ns → v < get_or ns k 0) → IsIndex ns (set is k v)
IsIndex-set [] [] k v h b = tt
IsIndex-set (n ∷ ns) (i ∷ is) zero v h b = (b (omega arith), h.1)
IsIndex-set (n ∷ ns) (i ∷ is) (suc k) v h b = (h.0, IsIndex-set ns is k v h.1 (λ l. b (omega arith)))
IsIndex-set [] (i ∷ is) k v h b = absurd h
IsIndex-set (n ∷ ns) [] k v h b = absurd h

-- where there is an index, no length is 0
pub IsIndex-positive : (ns is : List ℕ) → IsIndex ns is → 0 < size_of ns
IsIndex-positive [] [] h = omega arith
IsIndex-positive (n ∷ ns) (i ∷ is) h = mul-pos (omega (arith, h.0)) (IsIndex-positive ns is h.1)
IsIndex-positive [] (i ∷ is) h = absurd h
IsIndex-positive (n ∷ ns) [] h = absurd h

-- the place of an index is below the size
pub place_at-below : (ns is : List ℕ) → IsIndex ns is → place_at ns is < size_of ns
place_at-below [] [] h = omega arith
place_at-below (n ∷ ns) (i ∷ is) h =
    let below : place_at ns is < size_of ns = place_at-below ns is h.1 in
    let axis : suc i * size_of ns ≤ n * size_of ns = mul-le-mul_right (size_of ns) (h.0) in
    omega arith
place_at-below [] (i ∷ is) h = absurd h
place_at-below (n ∷ ns) [] h = absurd h

-- a product above a place has no factor 0
pub size_of-rest : (n s p : ℕ) → p < n * s → 0 < s
size_of-rest n zero p h = absurd (omega arith)
size_of-rest n (suc s) p h = omega arith

-- the index of a place is an index
pub IsIndex-index_at : (ns : List ℕ) (p : ℕ) → p < size_of ns → IsIndex ns (index_at ns p)
IsIndex-index_at [] p h = tt
IsIndex-index_at (n ∷ ns) p h =
    let positive : 0 < size_of ns = size_of-rest n (size_of ns) p h in
    ((div-lt_iff_lt-mul positive).1 h, IsIndex-index_at ns (p % size_of ns) (mod-lt p positive))

-- the index of a place has that place
pub place_at-index_at : (ns : List ℕ) (p : ℕ) → p < size_of ns → place_at ns (index_at ns p) ≡ p
place_at-index_at [] p h = omega arith
place_at-index_at (n ∷ ns) p h =
    let positive : 0 < size_of ns = size_of-rest n (size_of ns) p h in
    let rest : place_at ns (index_at ns (p % size_of ns)) ≡ p % size_of ns = place_at-index_at ns (p % size_of ns) (mod-lt p positive) in
    let whole : size_of ns * (p / size_of ns) + p % size_of ns ≡ p = div-add-mod p (size_of ns) in
    rw rest (omega arith)

-- the place of an index has that index
pub index_at-place_at : (ns is : List ℕ) → IsIndex ns is → index_at ns (place_at ns is) ≡ is
index_at-place_at [] [] h = refl
index_at-place_at (n ∷ ns) (i ∷ is) h =
    let below : place_at ns is < size_of ns = place_at-below ns is h.1 in
    rw (div-mul-add i (size_of ns) (place_at ns is) below, mod-mul-add i (size_of ns) (place_at ns is) below, index_at-place_at ns is h.1) refl
index_at-place_at [] (i ∷ is) h = absurd h
index_at-place_at (n ∷ ns) [] h = absurd h

-- what the loop over the axes of an index keeps: the lengths and numbers that are left are an index, and with
-- the place so far they make the whole place
pub record RowMajor (ns is : List ℕ) (place whole : ℕ) : Type 0 where
  pub index : IsIndex ns is
  pub rest : place * size_of ns + place_at ns is ≡ whole

-- before the first axis
pub RowMajor-start : (ns is : List ℕ) → 0 * size_of ns + place_at ns is ≡ place_at ns is
RowMajor-start ns is = omega arith

-- one axis more
pub RowMajor-round : (ns is ns' is' : List ℕ) (n i place whole : ℕ) → ns ≡ n ∷ ns' → is ≡ i ∷ is' → RowMajor ns is place whole → RowMajor ns' is' (place * n + i) whole
RowMajor-round ns is ns' is' n i place whole e f r =
    let q : IsIndex (n ∷ ns') (i ∷ is') = rw (e, f) at r.index in
    let p : place * size_of (n ∷ ns') + place_at (n ∷ ns') (i ∷ is') ≡ whole = rw (e, f) at r.rest in
    record { index = q.1; rest = omega arith }

-- the place so far is at most the whole one
pub RowMajor-bound : (ns is : List ℕ) (place whole : ℕ) → RowMajor ns is place whole → place ≤ whole
RowMajor-bound ns is place whole r =
    let h : place ≤ place * size_of ns = le-mul_of_pos_right place (IsIndex-positive ns is r.index) in
    let e : place * size_of ns + place_at ns is ≡ whole = r.rest in
    omega arith

-- with no axis left the place is the whole one
pub RowMajor-end : (ns is : List ℕ) (place whole : ℕ) → RowMajor ns is place whole → ((length ns ≡ 0) ⊎ (length is ≡ 0)) → place ≡ whole
RowMajor-end [] [] place whole r h = let e : place * 1 + 0 ≡ whole = r.rest in omega arith
RowMajor-end (n ∷ ns) (i ∷ is) place whole r h = elim h [ inl a ↦ absurd (omega arith) | inr b ↦ absurd (omega arith) ]
RowMajor-end [] (i ∷ is) place whole r h = absurd r.index
RowMajor-end (n ∷ ns) [] place whole r h = absurd r.index

-- the next place is within the limit
pub RowMajor-small : (all index ns is ns' is' : List ℕ) (n i place : ℕ) → IsShape all → IsIndex all index → ns ≡ n ∷ ns' → is ≡ i ∷ is' → RowMajor ns is place (place_at all index) → place * n + i < 2 ^ 40
RowMajor-small all index ns is ns' is' n i place shape lawful e f r =
    let next : place * n + i ≤ place_at all index = RowMajor-bound _ _ _ _ (RowMajor-round ns is ns' is' n i place (place_at all index) e f r) in
    let below : place_at all index < size_of all = place_at-below all index lawful in
    let most : size_of all ≤ 2 ^ 40 = shape.product in
    omega arith

-- what the loop over the axes keeps that makes the index of a place: the numbers so far, and then the index of
-- what is left in the lengths that are left
pub record Digits (ns : List ℕ) (whole k : ℕ) (made : List ℕ) (rest size : ℕ) : Type 0 where
  pub left : size ≡ size_of (drop k ns)
  pub below : rest < size
  pub joined : made ++ index_at (drop k ns) rest ≡ index_at ns whole
  pub count : length made ≡ k

-- before the first axis
pub Digits-start : (ns : List ℕ) (whole size : ℕ) → size ≡ size_of ns → whole < size_of ns → Digits ns whole 0 [] whole size
Digits-start ns whole size e h = record { left = e; below = rw e h; joined = refl; count = refl }

-- the size of what is left is the next length times the size behind it
pub Digits-size : (ns : List ℕ) (whole k : ℕ) (made : List ℕ) (rest size : ℕ) → k < length ns → Digits ns whole k made rest size → size ≡ get_or ns k 0 * size_of (drop (suc k) ns)
Digits-size ns whole k made rest size h d = d.left ∙ size_of-drop ns k h

factor_positive : (n s size rest : ℕ) → size ≡ n * s → rest < size → 0 < n
factor_positive zero s size rest e h = absurd (omega arith)
factor_positive (suc n) s size rest e h = omega arith

-- the next length is not 0
pub Digits-length : (ns : List ℕ) (whole k : ℕ) (made : List ℕ) (rest size : ℕ) → k < length ns → Digits ns whole k made rest size → 0 < get_or ns k 0
Digits-length ns whole k made rest size h d = factor_positive _ _ size rest (Digits-size ns whole k made rest size h d) d.below

-- the size divided by the next length is the size behind it
pub Digits-behind : (ns : List ℕ) (whole k : ℕ) (made : List ℕ) (rest size : ℕ) → k < length ns → Digits ns whole k made rest size → size / get_or ns k 0 ≡ size_of (drop (suc k) ns)
Digits-behind ns whole k made rest size h d =
    rw (Digits-size ns whole k made rest size h d) (mul-div_cancel_left (size_of (drop (suc k) ns)) (Digits-length ns whole k made rest size h d))

-- nor is the size behind it
pub Digits-stride : (ns : List ℕ) (whole k : ℕ) (made : List ℕ) (rest size : ℕ) → k < length ns → Digits ns whole k made rest size → 0 < size / get_or ns k 0
Digits-stride ns whole k made rest size h d =
    let below : rest < get_or ns k 0 * size_of (drop (suc k) ns) = rw (← Digits-size ns whole k made rest size h d) d.below in
    rw (Digits-behind ns whole k made rest size h d) (size_of-rest (get_or ns k 0) (size_of (drop (suc k) ns)) rest below)

-- one axis more
pub Digits-round : (ns : List ℕ) (whole k : ℕ) (made : List ℕ) (rest size : ℕ) → k < length ns → Digits ns whole k made rest size → Digits ns whole (k + 1) (made ++ (rest / (size / get_or ns k 0) ∷ [])) (rest % (size / get_or ns k 0)) (size / get_or ns k 0)
Digits-round ns whole k made rest size h d =
    let behind : size / get_or ns k 0 ≡ size_of (drop (suc k) ns) = Digits-behind ns whole k made rest size h d in
    let split : drop k ns ≡ get_or ns k 0 ∷ drop (suc k) ns = drop-cons ns k 0 h in
    let m : made ++ index_at (get_or ns k 0 ∷ drop (suc k) ns) rest ≡ index_at ns whole = rw split at d.joined in
    record {
      left = rw (add-one k) behind;
      below = mod-lt rest (Digits-stride ns whole k made rest size h d);
      joined = rw (add-one k, behind, append_assoc) m;
      count = omega (arith, length-append made (rest / (size / get_or ns k 0) ∷ []), d.count);
    }

-- with no axis left the numbers are the index
pub Digits-end : (ns : List ℕ) (whole k : ℕ) (made : List ℕ) (rest size : ℕ) → length ns ≤ k → Digits ns whole k made rest size → made ≡ index_at ns whole
Digits-end ns whole k made rest size h d =
    let none : drop k ns ≡ [] = drop_of_length-le ns h in
    let m : made ++ [] ≡ index_at ns whole = rw none at d.joined in
    sym (append-nil made) ∙ m
