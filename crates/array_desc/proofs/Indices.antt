-- The first index of a shape.
use Rattle.std.proofs.Common.{ℕ, zero, suc, ◌*◌, ◌<◌, List, [], ◌∷◌, arith}
use Rattle.apl_base.specs.Array.{IsIndex, size_of}
use Rattle.apl_base.specs.Selection.{only_index}

-- where there is an index, the first one is all zeros
pub first_index : (ns is : List ℕ) → IsIndex ns is → IsIndex ns (only_index ns)
first_index [] [] h = tt
first_index (n ∷ ns) (i ∷ is) h = (omega (arith, h.0), first_index ns is h.1)
first_index [] (i ∷ is) h = absurd h
first_index (n ∷ ns) [] h = absurd h

pub positive : (n m : ℕ) → 0 < suc n * m → 0 < m
positive n zero h = absurd (omega (arith, h))
positive n (suc m) h = omega arith

-- a shape with an element has an index
pub index_with_size : (ns : List ℕ) → 0 < size_of ns → IsIndex ns (only_index ns)
index_with_size [] h = tt
index_with_size (zero ∷ ns) h = absurd (omega (arith, h))
index_with_size (suc n ∷ ns) h = (omega arith, index_with_size ns (positive n (size_of ns) h))
