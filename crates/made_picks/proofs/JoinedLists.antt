-- Lists that are joined, and the indices of a shape row by row.
use Rattle.std.proofs.Common.{◌≡◌, ℕ, zero, suc, ◌+◌, ◌<◌, List, [], ◌∷◌, ◌++◌, length, map, replicate, refl, sym, ap, ◌∙◌, append-nil, arith}
use Rattle.std.specs.List.{AllByRecursion, flat_map}
use Rattle.std.proofs.lemmas.List.{map-append}
use Rattle.std.proofs.lemmas.List.Concat.{flat_map-append}
use Rattle.std.proofs.lemmas.List.Folds.{flat_map-map}
use Rattle.std.proofs.lemmas.Simd.{map-map}
use Rattle.apl_base.specs.Elements.{indices}
use Rattle.apl_base.specs.Selection.{upward}
use Rattle.apl_base.proofs.Elements.{indices-rows}
use Rattle.apl_base.proofs.Upward.{upward-append, all-upward}

-- ---- functions that give the same

pub flat_map-same : {X A : Type 0} (P : X → Type 0) (f g : X → List A) (xs : List X) → AllByRecursion P xs → ((x : X) → P x → f x ≡ g x) → flat_map f xs ≡ flat_map g xs
flat_map-same P f g [] h e = refl
flat_map-same P f g (x ∷ xs) h e =
    let here : f x ≡ g x = e x h.0 in
    let rest : flat_map f xs ≡ flat_map g xs = flat_map-same P f g xs h.1 e in
    cc

pub flat_map-each : {X A : Type 0} (f g : X → List A) (xs : List X) → ((x : X) → f x ≡ g x) → flat_map f xs ≡ flat_map g xs
flat_map-each f g [] e = refl
flat_map-each f g (x ∷ xs) e =
    let here : f x ≡ g x = e x in
    let rest : flat_map f xs ≡ flat_map g xs = flat_map-each f g xs e in
    cc

pub flat_map-upward : {A : Type 0} (f g : ℕ → List A) (n : ℕ) → ((i : ℕ) → i < n → f i ≡ g i) → flat_map f (upward 0 n) ≡ flat_map g (upward 0 n)
flat_map-upward f g n e = flat_map-same (λ i. i < n) f g (upward 0 n) (all-upward (λ i. i < n) 0 n (λ p low high. omega (arith, high))) e

pub map-each : {X Y : Type 0} (f g : X → Y) (xs : List X) → ((x : X) → f x ≡ g x) → map f xs ≡ map g xs
map-each f g [] e = refl
map-each f g (x ∷ xs) e =
    let here : f x ≡ g x = e x in
    let rest : map f xs ≡ map g xs = map-each f g xs e in
    cc

-- ---- lists of lists

pub map-flat_map : {X A B : Type 0} (g : A → B) (f : X → List A) (xs : List X) → map g (flat_map f xs) ≡ flat_map (λ x. map g (f x)) xs
map-flat_map g f [] = refl
map-flat_map g f (x ∷ xs) =
    map-append g (f x) (flat_map f xs) ∙ ap (λ ys. map g (f x) ++ ys) (map-flat_map g f xs)

pub flat_map-flat_map : {X A B : Type 0} (h : A → List B) (f : X → List A) (xs : List X) → flat_map h (flat_map f xs) ≡ flat_map (λ x. flat_map h (f x)) xs
flat_map-flat_map h f [] = refl
flat_map-flat_map h f (x ∷ xs) =
    flat_map-append h (f x) (flat_map f xs) ∙ ap (λ ys. flat_map h (f x) ++ ys) (flat_map-flat_map h f xs)

pub map-constant : {X Y : Type 0} (y : Y) (xs : List X) → map (λ x. y) xs ≡ replicate (length xs) y
map-constant y [] = refl
map-constant y (x ∷ xs) = ap (λ ys. y ∷ ys) (map-constant y xs)

pub replicate-append : {X : Type 0} (x : X) (m n : ℕ) → replicate (m + n) x ≡ replicate m x ++ replicate n x
replicate-append x zero n = let e : 0 + n ≡ n = omega arith in rw e refl
replicate-append x (suc m) n = let e : suc m + n ≡ suc (m + n) = omega arith in rw e (ap (λ ys. x ∷ ys) (replicate-append x m n))

-- ---- the indices of a shape

-- what a function gives at them, row by row
pub map-rows : {X : Type 0} (n : ℕ) (ns : List ℕ) (g : List ℕ → X) → map g (indices (n ∷ ns)) ≡ flat_map (λ i. map (λ is. g (i ∷ is)) (indices ns)) (upward 0 n)
map-rows n ns g =
    ap (map g) (indices-rows n ns)
    ∙ map-flat_map g (λ i. map (λ is. i ∷ is) (indices ns)) (upward 0 n)
    ∙ flat_map-each (λ i. map g (map (λ is. i ∷ is) (indices ns))) (λ i. map (λ is. g (i ∷ is)) (indices ns)) (upward 0 n) (λ i. map-map g (λ is. i ∷ is) (indices ns))

-- and where the lengths are joined, for each index of the first ones
pub map-joined : {X : Type 0} (ms ns : List ℕ) (g : List ℕ → X) → map g (indices (ms ++ ns)) ≡ flat_map (λ is. map (λ js. g (is ++ js)) (indices ns)) (indices ms)
map-joined [] ns g = sym (append-nil (map g (indices ns)))
map-joined (m ∷ ms) ns g =
    let row : List ℕ → List _ = λ is. map (λ js. g (is ++ js)) (indices ns) in
    map-rows m (ms ++ ns) g
    ∙ flat_map-each (λ i. map (λ is. g (i ∷ is)) (indices (ms ++ ns))) (λ i. flat_map (λ is. row (i ∷ is)) (indices ms)) (upward 0 m) (λ i. map-joined ms ns (λ is. g (i ∷ is)))
    ∙ sym (flat_map-each (λ i. flat_map row (map (λ is. i ∷ is) (indices ms))) (λ i. flat_map (λ is. row (i ∷ is)) (indices ms)) (upward 0 m) (λ i. flat_map-map row (λ is. i ∷ is) (indices ms)))
    ∙ sym (flat_map-flat_map row (λ i. map (λ is. i ∷ is) (indices ms)) (upward 0 m))
    ∙ sym (ap (flat_map row) (indices-rows m ms))

-- ---- stretches of numbers

pub map-upward-from : {X : Type 0} (f : ℕ → X) (a n : ℕ) → map f (upward a n) ≡ map (λ j. f (a + j)) (upward 0 n)
map-upward-from f a n = shifted a 0 n (omega arith)
  where
    shifted : (b k n : ℕ) → b ≡ a + k → map f (upward b n) ≡ map (λ j. f (a + j)) (upward k n)
    shifted b k zero e = refl
    shifted b k (suc n) e =
        let here : f b ≡ f (a + k) = ap f e in
        let rest : map f (upward (suc b) n) ≡ map (λ j. f (a + j)) (upward (suc k) n) = shifted (suc b) (suc k) n (omega (arith, e)) in
        cc

-- three stretches one behind the other
pub map-three : {X : Type 0} (f : ℕ → X) (m b k a : ℕ) → m ≡ b + k + a → map f (upward 0 m) ≡ map f (upward 0 b) ++ map (λ j. f (b + j)) (upward 0 k) ++ map (λ j. f (b + k + j)) (upward 0 a)
map-three f m b k a e =
    let zero_b : 0 + b ≡ b = omega arith in
    let zero_bk : 0 + (b + k) ≡ b + k = omega arith in
    ap (λ (n : ℕ). map f (upward 0 n)) e
    ∙ ap (map f) (upward-append 0 (b + k) a)
    ∙ map-append f (upward 0 (b + k)) (upward (0 + (b + k)) a)
    ∙ ap (λ xs. xs ++ map f (upward (0 + (b + k)) a)) (ap (map f) (upward-append 0 b k) ∙ map-append f (upward 0 b) (upward (0 + b) k)
    ∙ ap (λ (n : ℕ). map f (upward 0 b) ++ map f (upward n k)) zero_b ∙ ap (λ xs. map f (upward 0 b) ++ xs) (map-upward-from f b k))
    ∙ ap (λ (n : ℕ). map f (upward 0 b) ++ map (λ j. f (b + j)) (upward 0 k) ++ map f (upward n a)) zero_bk
    ∙ ap (λ xs. map f (upward 0 b) ++ map (λ j. f (b + j)) (upward 0 k) ++ xs) (map-upward-from f (b + k) a)
