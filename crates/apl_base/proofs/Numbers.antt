-- Which integers are numbers of the language.
use Rattle.std.proofs.Common.{◌≡◌, ℕ, ◌^◌, ◌≤◌, true, ℤ, pos, negsuc, neg_ℤ, int_le, unsigned_abs, arith}
use Rattle.std.specs.Int.{int_min, int_max}
use Rattle.std.proofs.lemmas.Int.{ints, clamps}
use Rattle.apl_base.specs.declared.cells.TheConstants.{M}
use Rattle.apl_base.specs.Number.{IsNumber, is_number}
use Rattle.apl_base.proofs.Booleans.{both_parts}

-- what the test says
pub is_number-true : (z : ℤ) → is_number z ≡ true → IsNumber z
is_number-true z t =
    let p = both_parts (int_le (neg_ℤ M) z) (int_le z M) t in
    let low : int_le (neg_ℤ M) z ≡ true = p.0 in
    let high : int_le z M ≡ true = p.1 in
    record { least = omega (arith, ints); most = omega (arith, ints) }

-- lengths, places and 0
pub IsNumber-small : (n : ℕ) → n ≤ 2 ^ 64 → IsNumber (pos n)
IsNumber-small n h = record { least = omega (arith, ints); most = omega (arith, ints) }

-- by its magnitude
pub IsNumber-magnitude : (z : ℤ) → unsigned_abs z ≤ 10 ^ 36 → IsNumber z
IsNumber-magnitude (pos n) h = record { least = omega (arith, ints); most = omega (arith, ints) }
IsNumber-magnitude (negsuc n) h = record { least = omega (arith, ints); most = omega (arith, ints) }

-- and back
pub magnitude-IsNumber : (z : ℤ) → IsNumber z → unsigned_abs z ≤ 10 ^ 36
magnitude-IsNumber (pos n) h = omega (arith, ints, h.most)
magnitude-IsNumber (negsuc n) h = omega (arith, ints, h.least)

-- of two numbers the lesser one
pub IsNumber-int_min : (a b : ℤ) → IsNumber a → IsNumber b → IsNumber (int_min a b)
IsNumber-int_min a b p q = record { least = omega (arith, ints, clamps); most = omega (arith, ints, clamps) }

-- of two numbers the greater one
pub IsNumber-int_max : (a b : ℤ) → IsNumber a → IsNumber b → IsNumber (int_max a b)
IsNumber-int_max a b p q = record { least = omega (arith, ints, clamps); most = omega (arith, ints, clamps) }
