-- The table of factorials, entry by entry.
use Rattle.std.proofs.Common.{◌≡◌, ℕ, zero, suc, ◌+◌, ◌^◌, ◌<◌, ◌≤◌, Bool, true, ◌&&◌, cond, ℤ, pos, negsuc, ◌≤ℤ◌, List, [], ◌∷◌, length, slice_index_or, unsigned_abs, to_z, of_z, Some, None, refl, ap, ◌∙◌, sym, arith}
use Rattle.std.specs.Int.{w128}
use Rattle.std.specs.Ordering.{int_eq}
use Rattle.std.proofs.lemmas.Int.{ints, to_z_pos}
use Rattle.std.proofs.lemmas.Bool.{le-leb}
use Rattle.std.proofs.lemmas.Bool.Decides.{Decides-int_eq}
use Rattle.apl_base.proofs.Booleans.{both_parts}
use Rattle.apl_base.specs.Scalar.{factorial, factorial_of}
use Rattle.scalar_table.specs.LawfulNumbers.{factorial-le}
use Rattle.scalar_table.specs.declared.numbers.TheConstants.{FACTORIALS}

-- the entries are the factorials from that of k on
abbrev are_factorials : ℕ → List ℤ → Bool
are_factorials k [] = true
are_factorials k (x ∷ xs) = int_eq x (pos (factorial k)) && are_factorials (suc k) xs

entry_of : (k : ℕ) (xs : List ℤ) (n : ℕ) → are_factorials k xs ≡ true → n < length xs → slice_index_or xs n (pos 0) ≡ pos (factorial (k + n))
entry_of k [] n t h = absurd (omega arith)
entry_of k (x ∷ xs) zero t h =
    let e : k ≡ k + 0 = omega arith in
    (Decides-int_eq x (pos (factorial k))).0 (both_parts _ _ t).0 ∙ ap (λ m. pos (factorial m)) e
entry_of k (x ∷ xs) (suc n) t h =
    let e : suc k + n ≡ k + suc n = omega arith in
    entry_of (suc k) xs n (both_parts _ _ t).1 (omega arith) ∙ ap (λ m. pos (factorial m)) e

entry : (n : ℕ) → n ≤ 32 → slice_index_or FACTORIALS n (pos 0) ≡ pos (factorial n)
entry n h =
    let e : 0 + n ≡ n = omega arith in
    entry_of 0 FACTORIALS n refl (omega arith) ∙ ap (λ m. pos (factorial m)) e

pub factorial_of-pos : (n : ℕ) → n ≤ 32 → factorial_of (pos n) ≡ Some (pos (factorial n))
factorial_of-pos n h = ap (λ b. cond b (Some (pos (factorial n))) None) (le-leb n 32 h)

-- what the code reads at z
pub entry-at : (z : ℤ) → pos 0 ≤ℤ z → z ≤ℤ pos 32 →
    Some (to_z w128 (of_z w128 (slice_index_or FACTORIALS (unsigned_abs (to_z w128 (of_z w128 z))) (pos 0)))) ≡ factorial_of z
entry-at (pos n) low high =
    let h : n ≤ 32 = omega (arith, ints) in
    let small : n < 2 ^ 127 = omega arith in
    let fits : factorial n < 2 ^ 127 = omega (arith, factorial-le n h) in
    ap (λ z. Some (to_z w128 (of_z w128 (slice_index_or FACTORIALS (unsigned_abs z) (pos 0))))) (to_z_pos w128 n small) ∙
    ap (λ z. Some (to_z w128 (of_z w128 z))) (entry n h) ∙
    ap (λ z. Some z) (to_z_pos w128 (factorial n) fits) ∙
    sym (factorial_of-pos n h)
entry-at (negsuc n) low high = absurd (omega (arith, ints))
