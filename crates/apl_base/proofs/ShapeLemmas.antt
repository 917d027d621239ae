-- Shapes without axes or with axes of length 1, and the two parts of an index.
use Rattle.std.proofs.Common.{◌≡◌, ℕ, zero, suc, ◌≤◌, ◌^◌, List, [], ◌∷◌, ◌++◌, length, take, drop, replicate, refl, arith}
use Rattle.std.proofs.lemmas.List.{length-replicate}
use Rattle.apl_base.specs.Array.{IsShape, IsIndex, size_of}
use Rattle.apl_base.proofs.Lists.{all_replicate}

-- without axes there is one element
pub no_axes : (ns : List ℕ) → length ns ≡ 0 → size_of ns ≡ 1
no_axes [] h = refl
no_axes (n ∷ ns) h = absurd (omega (arith, h))

-- ---- axes of length 1

pub size_of-ones : (n : ℕ) → size_of (replicate n 1) ≡ 1
size_of-ones zero = refl
size_of-ones (suc n) = omega (arith, size_of-ones n)

-- they make a shape
pub ones_shape : (n : ℕ) → n ≤ 8 → IsShape (replicate n 1)
ones_shape n h = record {
  rank = omega (arith, h, length-replicate {A = ℕ} n 1);
  each = all_replicate (λ (k : ℕ). k ≤ 2 ^ 40) n 1 (omega arith);
  product = omega (arith, size_of-ones n);
}

-- ---- parts of an index

-- an index of joined lengths, in two parts
pub index_parts : (ms ns is : List ℕ) → IsIndex (ms ++ ns) is → IsIndex ms (take (length ms) is) × IsIndex ns (drop (length ms) is)
index_parts [] ns is h = (tt, h)
index_parts (m ∷ ms) ns (i ∷ is) h = let r = index_parts ms ns is h.1 in ((h.0, r.0), r.1)
index_parts (m ∷ ms) ns [] h = absurd h
