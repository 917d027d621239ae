-- What is so of each element of a list, as lists are made.
use Rattle.std.proofs.Common.{◌≡◌, ℕ, zero, suc, ◌<◌, List, [], ◌∷◌, ◌++◌, length, map, get_or, set, replicate, arith}
use Rattle.std.proofs.lemmas.Slice.Zip.{length-zip}
use Rattle.std.specs.Prelude.{slice_index_or}
use Rattle.std.specs.List.{AllByRecursion, zip}

-- what is so of everything is so of each element
pub all_each : {X : Type 0} (P : X → Type 0) (xs : List X) → ((x : X) → P x) → AllByRecursion P xs
all_each P [] h = tt
all_each P (x ∷ xs) h = (h x, all_each P xs h)

-- what follows of each element
pub all_imp : {X : Type 0} (P Q : X → Type 0) (xs : List X) → ((x : X) → P x → Q x) → AllByRecursion P xs → AllByRecursion Q xs
all_imp P Q [] h a = tt
all_imp P Q (x ∷ xs) h a = (h x a.0, all_imp P Q xs h a.1)

-- of the values of a function
pub all_map : {X Y : Type 0} (P : Y → Type 0) (f : X → Y) (xs : List X) → AllByRecursion (λ x. P (f x)) xs → AllByRecursion P (map f xs)
all_map P f [] h = tt
all_map P f (x ∷ xs) h = (h.0, all_map P f xs h.1)

-- each of the values of a function is so, wherever it is taken
pub all_mapped : {X Y : Type 0} (P : Y → Type 0) (f : X → Y) (xs : List X) → ((x : X) → P (f x)) → AllByRecursion P (map f xs)
all_mapped P f [] h = tt
all_mapped P f (x ∷ xs) h = (h x, all_mapped P f xs h)

-- of two lists together
pub all_append : {X : Type 0} (P : X → Type 0) (xs ys : List X) → AllByRecursion P xs → AllByRecursion P ys → AllByRecursion P (xs ++ ys)
all_append P [] ys a b = b
all_append P (x ∷ xs) ys a b = (a.0, all_append P xs ys a.1 b)

-- of one value again and again
pub all_replicate : {X : Type 0} (P : X → Type 0) (n : ℕ) (x : X) → P x → AllByRecursion P (replicate n x)
all_replicate P zero x h = tt
all_replicate P (suc n) x h = (h, all_replicate P n x h)

-- at any place, where the default is so too
pub all_at : {X : Type 0} (P : X → Type 0) (xs : List X) (i : ℕ) (d : X) → AllByRecursion P xs → P d → P (slice_index_or xs i d)
all_at P [] i d h e = e
all_at P (x ∷ xs) zero d h e = h.0
all_at P (x ∷ xs) (suc i) d h e = all_at P xs i d h.1 e

-- at a place of the list
pub all_place : {X : Type 0} (P : X → Type 0) (xs : List X) (i : ℕ) (d : X) → AllByRecursion P xs → i < length xs → P (get_or xs i d)
all_place P [] i d h below = absurd (omega arith)
all_place P (x ∷ xs) zero d h below = h.0
all_place P (x ∷ xs) (suc i) d h below = all_place P xs i d h.1 (omega arith)

-- with one element exchanged
pub all_set : {X : Type 0} (P : X → Type 0) (xs : List X) (i : ℕ) (x : X) → AllByRecursion P xs → P x → AllByRecursion P (set xs i x)
all_set P [] i x h e = tt
all_set P (y ∷ xs) zero x h e = (e, h.1)
all_set P (y ∷ xs) (suc i) x h e = (h.0, all_set P xs i x h.1 e)

-- ---- pairs

-- lists of one length make as many pairs
pub length-pairs : {X Y : Type 0} (xs : List X) (ys : List Y) (n : ℕ) → length xs ≡ n → length ys ≡ n → length (zip xs ys) ≡ n
length-pairs xs ys n a b = omega (arith, length-zip xs ys, a, b)

-- of pairs, by their halves
pub zip-all : {X Y : Type 0} (P : X → Type 0) (Q : Y → Type 0) (xs : List X) (ys : List Y) → AllByRecursion P xs → AllByRecursion Q ys → AllByRecursion (λ (p : X × Y). P p.0 × Q p.1) (zip xs ys)
zip-all P Q [] ys a b = tt
zip-all P Q (x ∷ xs) [] a b = tt
zip-all P Q (x ∷ xs) (y ∷ ys) a b = ((a.0, b.0), zip-all P Q xs ys a.1 b.1)
