-- What numbers a progression has, and that there is one at most.
use Rattle.std.proofs.Common.{◌≡◌, ℕ, zero, suc, ◌<◌, ℤ, pos, negsuc, ◌+ℤ◌, ◌*ℤ◌, List, [], ◌∷◌, length, get_or, refl, sym, ◌∙◌, arith}
use Rattle.std.proofs.lemmas.Int.{ints}
use Rattle.beating.specs.declared.runs.Run.{Run}
use Rattle.beating.specs.Runs.{IsRunOf}

same_run : (r s : Run) → r.from ≡ s.from → r.step ≡ s.step → r.n ≡ s.n → r ≡ s
same_run r s p q e = λ i. record { from = p i; step = q i; n = e i }

first_of : (numbers : List ℤ) (r : Run) → IsRunOf numbers r → 0 < length numbers → get_or numbers 0 (pos 0) ≡ r.from
first_of numbers r h p = let e = h.each 0 p in omega (arith, ints, e)

second_of : (numbers : List ℤ) (r : Run) → IsRunOf numbers r → 1 < length numbers → get_or numbers 1 (pos 0) ≡ r.from +ℤ r.step
second_of numbers r h p = let e = h.each 1 p in omega (arith, ints, e)

by_count : (numbers : List ℤ) (r s : Run) (n : ℕ) → n ≡ length numbers → IsRunOf numbers r → IsRunOf numbers s → r ≡ s
by_count numbers r s zero e h k =
    let few : length numbers < 2 = omega (arith, e) in
    same_run r s (h.from (sym e) ∙ sym (k.from (sym e))) (h.step few ∙ sym (k.step few)) (h.count ∙ sym k.count)
by_count numbers r s (suc zero) e h k =
    let few : length numbers < 2 = omega (arith, e) in
    let some : 0 < length numbers = omega (arith, e) in
    same_run r s (sym (first_of numbers r h some) ∙ first_of numbers s k some) (h.step few ∙ sym (k.step few)) (h.count ∙ sym k.count)
by_count numbers r s (suc (suc n)) e h k =
    let some : 0 < length numbers = omega (arith, e) in
    let more : 1 < length numbers = omega (arith, e) in
    let first : r.from ≡ s.from = sym (first_of numbers r h some) ∙ first_of numbers s k some in
    let second : r.from +ℤ r.step ≡ s.from +ℤ s.step = sym (second_of numbers r h more) ∙ second_of numbers s k more in
    same_run r s first (omega (arith, ints, first, second)) (h.count ∙ sym k.count)

pub one_run : (numbers : List ℤ) (r s : Run) → IsRunOf numbers r → IsRunOf numbers s → r ≡ s
one_run numbers r s h k = by_count numbers r s (length numbers) refl h k

-- ---- the worked ones

abbrev Fits : List ℤ → ℤ → ℤ → Type 0
Fits numbers from step = (j : ℕ) → j < length numbers → get_or numbers j (pos 0) ≡ from +ℤ (step *ℤ pos j)

rising : Fits (pos 3 ∷ pos 5 ∷ pos 7 ∷ []) (pos 3) (pos 2)
rising zero h = refl
rising (suc zero) h = refl
rising (suc (suc zero)) h = refl
rising (suc (suc (suc j))) h = absurd (omega (arith, h))

falling : Fits (pos 1 ∷ negsuc 3 ∷ []) (pos 1) (negsuc 4)
falling zero h = refl
falling (suc zero) h = refl
falling (suc (suc j)) h = absurd (omega (arith, h))

one : Fits (pos 7 ∷ []) (pos 7) (pos 0)
one zero h = refl
one (suc j) h = absurd (omega (arith, h))

pub rising_run : IsRunOf (pos 3 ∷ pos 5 ∷ pos 7 ∷ []) (record { from = pos 3; step = pos 2; n = 3 })
rising_run = record { count = refl; each = rising; step = λ few. absurd (omega (arith, few)); from = λ none. absurd (omega (arith, none)) }

pub falling_run : IsRunOf (pos 1 ∷ negsuc 3 ∷ []) (record { from = pos 1; step = negsuc 4; n = 2 })
falling_run = record { count = refl; each = falling; step = λ few. absurd (omega (arith, few)); from = λ none. absurd (omega (arith, none)) }

pub run_of_one : IsRunOf (pos 7 ∷ []) (record { from = pos 7; step = pos 0; n = 1 })
run_of_one = record { count = refl; each = one; step = λ few. refl; from = λ none. absurd (omega (arith, none)) }

pub run_of_none : IsRunOf [] (record { from = pos 0; step = pos 0; n = 0 })
run_of_none = record { count = refl; each = λ j h. absurd (omega (arith, h)); step = λ few. refl; from = λ none. refl }

pub broken_run : (r : Run) → ¬ (IsRunOf (pos 1 ∷ pos 2 ∷ pos 4 ∷ []) r)
broken_run r h =
    let a = h.each 0 (omega arith) in
    let b = h.each 1 (omega arith) in
    let c = h.each 2 (omega arith) in
    omega (arith, ints, a, b, c)

pub no_step : ¬ (IsRunOf (pos 7 ∷ []) (record { from = pos 7; step = pos 1; n = 1 }))
no_step h = let e : pos 1 ≡ pos 0 = h.step (omega arith) in omega (arith, ints, e)
