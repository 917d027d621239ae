-- The numbers from one on upwards, and what a function gives at them.
use Rattle.std.proofs.Common.{◌≡◌, ℕ, zero, suc, ◌+◌, ◌<◌, ◌≤◌, List, ◌∷◌, ◌++◌, length, map, get_or, refl, sym, ap, ◌∙◌, arith}
use Rattle.std.proofs.lemmas.List.{ext_get_or}
use Rattle.std.specs.List.{AllByRecursion}
use Rattle.apl_base.specs.Selection.{upward}

-- n numbers
pub length-upward : (a n : ℕ) → length (upward a n) ≡ n
length-upward a zero = refl
length-upward a (suc n) = ap suc (length-upward (suc a) n)

-- the number at a place
pub get_or-upward : (a n k d : ℕ) → k < n → get_or (upward a n) k d ≡ a + k
get_or-upward a zero k d h = absurd (omega arith)
get_or-upward a (suc n) zero d h = omega arith
get_or-upward a (suc n) (suc k) d h =
    let less : k < n = omega arith in
    let e : get_or (upward (suc a) n) k d ≡ suc a + k = get_or-upward (suc a) n k d less in
    e ∙ omega arith

-- one stretch of numbers, and then the next
pub upward-append : (a m n : ℕ) → upward a (m + n) ≡ upward a m ++ upward (a + m) n
upward-append a zero n =
    let e : a + 0 ≡ a = omega arith in
    let f : 0 + n ≡ n = omega arith in
    rw (e, f) refl
upward-append a (suc m) n =
    let e : suc m + n ≡ suc (m + n) = omega arith in
    let f : a + suc m ≡ suc a + m = omega arith in
    rw (e, f) (ap (λ xs. a ∷ xs) (upward-append (suc a) m n))

-- what is so of each number from `a` up to a bound is so of all of them
pub all-upward : (P : ℕ → Type 0) (a n : ℕ) → ((p : ℕ) → a ≤ p → p < a + n → P p) → AllByRecursion P (upward a n)
all-upward P a zero h = tt
all-upward P a (suc n) h = (h a (omega arith) (omega arith), all-upward P (suc a) n (λ p low high. h p (omega arith) (omega arith)))

-- ---- a function at them

-- as many results as numbers
pub length-map-upward : {X : Type 0} (f : ℕ → X) (a n : ℕ) → length (map f (upward a n)) ≡ n
length-map-upward f a zero = refl
length-map-upward f a (suc n) = ap suc (length-map-upward f (suc a) n)

-- the result at a place is that of the number there
pub get_or-map-upward : {X : Type 0} (f : ℕ → X) (a n k : ℕ) (d : X) → k < n → get_or (map f (upward a n)) k d ≡ f (a + k)
get_or-map-upward f a zero k d h = absurd (omega arith)
get_or-map-upward f a (suc n) zero d h = let e : a ≡ a + 0 = omega arith in ap f e
get_or-map-upward f a (suc n) (suc k) d h =
    let e : suc a + k ≡ a + suc k = omega arith in
    get_or-map-upward f (suc a) n k d (omega arith) ∙ ap f e

-- counted from 0, the result at a place is that of the place
pub get_or-map-places : {X : Type 0} (f : ℕ → X) (n k : ℕ) (d : X) → k < n → get_or (map f (upward 0 n)) k d ≡ f k
get_or-map-places f n k d h = let e : 0 + k ≡ k = omega arith in get_or-map-upward f 0 n k d h ∙ ap f e

-- what is so of each result is so of all of them
pub all-map-upward : {X : Type 0} (P : X → Type 0) (f : ℕ → X) (a n : ℕ) → ((p : ℕ) → a ≤ p → p < a + n → P (f p)) → AllByRecursion P (map f (upward a n))
all-map-upward P f a zero h = tt
all-map-upward P f a (suc n) h = (h a (omega arith) (omega arith), all-map-upward P f (suc a) n (λ p low high. h p (omega arith) (omega arith)))

-- functions that give the same at each number give the same list
pub map-upward-same : {X : Type 0} (f g : ℕ → X) (a n : ℕ) → ((p : ℕ) → a ≤ p → p < a + n → f p ≡ g p) → map f (upward a n) ≡ map g (upward a n)
map-upward-same f g a zero h = refl
map-upward-same f g a (suc n) h =
    let here : f a ≡ g a = h a (omega arith) (omega arith) in
    let rest : map f (upward (suc a) n) ≡ map g (upward (suc a) n) = map-upward-same f g (suc a) n (λ p low high. h p (omega arith) (omega arith)) in
    cc

-- a list is what it has at each place
pub list_by_places : {X : Type 0} (f : ℕ → X) (xs : List X) (n : ℕ) (d : X) → length xs ≡ n → ((p : ℕ) → p < n → f p ≡ get_or xs p d) → map f (upward 0 n) ≡ xs
list_by_places f xs n d count each =
    ext_get_or d (map f (upward 0 n)) xs (length-map-upward f 0 n ∙ sym count) (λ p below.
    let within : p < n = omega (arith, below, length-map-upward f 0 n) in
    get_or-map-places f n p d within ∙ each p within)
