-- What tests that are put together say.
use Rattle.std.proofs.Common.{◌≡◌, ◌==◌, ℕ, suc, ◌+◌, ◌<◌, Bool, true, false, not, ◌&&◌, ◌||◌, List, [], ◌∷◌, refl, arith}
use Rattle.std.proofs.lemmas.Bool.Decides.{nat_tests}
use Rattle.std.specs.List.{AllByRecursion, list_all}

-- where both hold, each holds
pub both_parts : (p q : Bool) → p && q ≡ true → (p ≡ true) × (q ≡ true)
both_parts true q h = (refl, h)
both_parts false q h = absurd cc

-- where none of two holds, each one fails
pub neither_part : (p q : Bool) → p || q ≡ false → (p ≡ false) × (q ≡ false)
neither_part true q h = absurd cc
neither_part false q h = (refl, h)

-- what is not refused holds
pub not-false : (b : Bool) → not b ≡ false → b ≡ true
not-false true h = refl
not-false false h = absurd cc

-- a test of what does not hold is false
pub by_false : (b : Bool) (P : Type 0) → (b ≡ true → P) → (P → ⊥) → b ≡ false
by_false true P f g = absurd (g (f refl))
by_false false P f g = refl

-- a test of each element
pub list_all-each : {X : Type 0} (p : X → Bool) (xs : List X) → list_all p xs ≡ true → AllByRecursion (λ x. p x ≡ true) xs
list_all-each p [] h = tt
list_all-each p (x ∷ xs) h = let s = both_parts (p x) (list_all p xs) h in (s.0, list_all-each p xs s.1)

-- and back
pub each-list_all : {X : Type 0} (p : X → Bool) (xs : List X) → AllByRecursion (λ x. p x ≡ true) xs → list_all p xs ≡ true
each-list_all p [] h = refl
each-list_all p (x ∷ xs) h = rw h.0 (each-list_all p xs h.1)

-- whether two numbers are equal: the same number
pub eqb-same : (x y : ℕ) → x ≡ y → (x == y) ≡ true
eqb-same x y e = grind (arith, nat_tests)

-- a number that is further on
pub eqb-other : (x a m : ℕ) → x ≡ a + suc m → (x == a) ≡ false
eqb-other x a m e = grind (arith, nat_tests)

-- a number that is below
pub eqb-passed : (x a : ℕ) → x < a → (x == a) ≡ false
eqb-passed x a p = grind (arith, nat_tests)
