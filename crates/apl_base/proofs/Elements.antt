-- Facts on whole arrays: values that are all defined, the indices of a shape, and arrays made index by index.
use Rattle.std.proofs.Common.{◌≡◌, ℕ, zero, suc, ◌+◌, ◌*◌, ◌<◌, ◌≤◌, ℤ, pos, List, [], ◌∷◌, length, map, get_or, Option, Some, None, IfSome, refl, sym, ap, subst, ◌∙◌, arith}
use Rattle.std.proofs.lemmas.List.{map-append, length-map}
use Rattle.std.proofs.lemmas.Simd.{map-map}
use Rattle.std.proofs.lemmas.Nat.{div-mul-add, mod-mul-add}
use Rattle.std.specs.List.{AllByRecursion, flat_map}
use Rattle.std.specs.Option.{option_map, option_and_then}
use Rattle.apl_base.specs.declared.cells.Kind.{Kind}
use Rattle.apl_base.specs.Array.{Array, size_of, IsIndex, place_at, index_at, cell_at}
use Rattle.apl_base.specs.Elements.{element, elements, all_defined, indices, tabulated, gathered}
use Rattle.apl_base.specs.Selection.{upward}
use Rattle.apl_base.proofs.Sizes.{place_at-below, IsIndex-index_at, place_at-index_at, index_at-place_at}
use Rattle.apl_base.proofs.Upward.{upward-append, length-map-upward, get_or-map-places, all-map-upward, map-upward-same, list_by_places}

-- as many elements as cells
pub length-elements : (a : Array) → length (elements a) ≡ length a.cells
length-elements a = length-map a.cells (element a.kind)

-- ---- values that are all defined

-- a value, and then values
pub all_defined-cons : {X : Type 0} (o : Option X) (os : List (Option X)) (x : X) (xs : List X) → o ≡ Some x → all_defined os ≡ Some xs → all_defined (o ∷ os) ≡ Some (x ∷ xs)
all_defined-cons o os x xs e f =
    ap (λ p. option_and_then (λ v. option_map (λ vs. v ∷ vs) (all_defined os)) p) e ∙ ap (λ r. option_map (λ vs. x ∷ vs) r) f

-- values as they are
pub all_defined-some : {X : Type 0} (xs : List X) → all_defined (map Some xs) ≡ Some xs
all_defined-some [] = refl
all_defined-some (x ∷ xs) = ap (option_map (λ vs. x ∷ vs)) (all_defined-some xs)

-- functions of which one gives what the other is defined at
pub all_defined-map : {X Y : Type 0} (f : X → Option Y) (g : X → Y) (xs : List X) → AllByRecursion (λ x. f x ≡ Some (g x)) xs → all_defined (map f xs) ≡ Some (map g xs)
all_defined-map f g [] h = refl
all_defined-map f g (x ∷ xs) h = all_defined-cons (f x) (map f xs) (g x) (map g xs) h.0 (all_defined-map f g xs h.1)

-- an option that is made of a first value and of the others
tail_of : {X P : Type 0} (o : Option X) (r : Option (List X)) (xs : List X) → option_and_then (λ v. option_map (λ vs. v ∷ vs) r) o ≡ Some xs →
    ((v : X) (vs : List X) → o ≡ Some v → r ≡ Some vs → v ∷ vs ≡ xs → P) → P
tail_of None r xs e then = absurd cc
tail_of (Some v) None xs e then = absurd cc
tail_of (Some v) (Some vs) xs e then = then v vs refl refl cc

-- they are as many, and each has what is so of all values
pub all_defined-each : {X : Type 0} (P : X → Type 0) (os : List (Option X)) (xs : List X) → AllByRecursion (λ o. IfSome o P) os → all_defined os ≡ Some xs →
    (length xs ≡ length os) × AllByRecursion P xs
all_defined-each P [] xs h e = let f : [] ≡ xs = cc in (ap length (sym f), subst (AllByRecursion P) f tt)
all_defined-each {X = X} P (o ∷ os) xs h e = tail_of o (all_defined os) xs e (λ v vs p q f. made v vs p f (all_defined-each P os vs h.1 q))
  where
    made : (v : X) (vs : List X) → o ≡ Some v → v ∷ vs ≡ xs → (length vs ≡ length os) × AllByRecursion P vs → (length xs ≡ suc (length os)) × AllByRecursion P xs
    made v vs p f r =
        let here : P v = subst (λ o. IfSome o P) p h.0 in
        (ap length (sym f) ∙ ap suc r.0, subst (AllByRecursion P) f (here, r.1))

-- as many values
pub all_defined-length : {X : Type 0} (os : List (Option X)) (xs : List X) → all_defined os ≡ Some xs → length xs ≡ length os
all_defined-length [] xs e = let f : [] ≡ xs = cc in ap length (sym f)
all_defined-length (o ∷ os) xs e = tail_of o (all_defined os) xs e (λ v vs p q f. ap length (sym f) ∙ ap suc (all_defined-length os vs q))

-- the value at a place
pub all_defined-at : {X : Type 0} (os : List (Option X)) (xs : List X) (k : ℕ) (d : X) → all_defined os ≡ Some xs → k < length os → get_or os k None ≡ Some (get_or xs k d)
all_defined-at [] xs k d e h = absurd (omega arith)
all_defined-at {X = X} (o ∷ os) xs zero d e h =
    tail_of o (all_defined os) xs e (λ v vs p q f. subst (λ (ys : List X). o ≡ Some (get_or ys 0 d)) f p)
all_defined-at {X = X} (o ∷ os) xs (suc k) d e h =
    tail_of o (all_defined os) xs e (λ v vs p q f. subst (λ (ys : List X). get_or os k None ≡ Some (get_or ys (suc k) d)) f (all_defined-at os vs k d q (omega arith)))

-- where a value is undefined, a place of one
pub all_defined-none : {X : Type 0} (os : List (Option X)) → all_defined os ≡ None → (k : ℕ) × (k < length os) × (get_or os k None ≡ None)
all_defined-none [] e = absurd cc
all_defined-none (None ∷ os) e = (0, omega arith, refl)
all_defined-none {X = X} (Some v ∷ os) e = by (all_defined os) (λ p. all_defined-none os p) e
  where
    by : (r : Option (List X)) → (r ≡ None → (k : ℕ) × (k < length os) × (get_or os k None ≡ None)) → option_map (λ vs. v ∷ vs) r ≡ None →
        (k : ℕ) × (k < suc (length os)) × (get_or (Some v ∷ os) k None ≡ None)
    by None n q = let m = n refl in (suc m.0, omega (arith, m.1), m.2)
    by (Some vs) n q = absurd cc

-- ---- the indices of a shape

-- as many indices as elements
pub length-indices : (ns : List ℕ) → length (indices ns) ≡ size_of ns
length-indices ns = length-map-upward (index_at ns) 0 (size_of ns)

-- the index at a place of the list is that of the place
pub indices-at : (ns : List ℕ) (p : ℕ) (d : List ℕ) → p < size_of ns → get_or (indices ns) p d ≡ index_at ns p
indices-at ns p d h = get_or-map-places (index_at ns) (size_of ns) p d h

-- each is an index of the shape
pub indices-each : (ns : List ℕ) → AllByRecursion (IsIndex ns) (indices ns)
indices-each ns = all-map-upward (IsIndex ns) (index_at ns) 0 (size_of ns) (λ p low high. IsIndex-index_at ns p (omega arith))

-- the indices at k places of the row a, from its number j on
row : (m : ℕ) (ns : List ℕ) (a j k : ℕ) → j + k ≤ size_of ns → map (index_at (m ∷ ns)) (upward (a * size_of ns + j) k) ≡ map (λ is. a ∷ is) (map (index_at ns) (upward j k))
row m ns a j zero h = refl
row m ns a j (suc k) h =
    let less : j < size_of ns = omega arith in
    let next : suc (a * size_of ns + j) ≡ a * size_of ns + suc j = omega arith in
    let more : suc j + k ≤ size_of ns = omega arith in
    rw (next, div-mul-add a (size_of ns) j less, mod-mul-add a (size_of ns) j less, row m ns a (suc j) k more) refl

-- the indices of n rows from the row a on
rows : (m : ℕ) (ns : List ℕ) (a n : ℕ) → map (index_at (m ∷ ns)) (upward (a * size_of ns) (n * size_of ns)) ≡ flat_map (λ i. map (λ is. i ∷ is) (indices ns)) (upward a n)
rows m ns a zero = let e : 0 * size_of ns ≡ 0 = omega arith in rw e refl
rows m ns a (suc n) =
    let e : suc n * size_of ns ≡ size_of ns + n * size_of ns = omega arith in
    let f : a * size_of ns + size_of ns ≡ suc a * size_of ns = omega arith in
    let g : a * size_of ns ≡ a * size_of ns + 0 = omega arith in
    let first : map (index_at (m ∷ ns)) (upward (a * size_of ns) (size_of ns)) ≡ map (λ is. a ∷ is) (indices ns) =
    ap (λ x. map (index_at (m ∷ ns)) (upward x (size_of ns))) g ∙ row m ns a 0 (size_of ns) (omega arith)
    in
    rw (e, upward-append (a * size_of ns) (size_of ns) (n * size_of ns), map-append, f, first, rows m ns (suc a) n) refl

-- for each number of the first axis, all indices of the axes behind it
pub indices-rows : (n : ℕ) (ns : List ℕ) → indices (n ∷ ns) ≡ flat_map (λ i. map (λ is. i ∷ is) (indices ns)) (upward 0 n)
indices-rows n ns = let e : 0 * size_of ns ≡ 0 = omega arith in rw e at (rows n ns 0 n)

-- ---- arrays made index by index

-- a function at each place's index, and at each index
pub map-indices : {X : Type 0} (f : List ℕ → X) (ns : List ℕ) → map (λ p. f (index_at ns p)) (upward 0 (size_of ns)) ≡ map f (indices ns)
map-indices f ns = sym (map-map f (index_at ns) (upward 0 (size_of ns)))

-- the cells are those at the indices in order
pub tabulated-cells : (kind : Kind) (ns : List ℕ) (cell : List ℕ → ℤ) → (tabulated kind ns cell).cells ≡ map cell (indices ns)
tabulated-cells kind ns cell = map-indices cell ns

-- as many cells as the shape has elements
pub tabulated-count : (kind : Kind) (ns : List ℕ) (cell : List ℕ → ℤ) → length (tabulated kind ns cell).cells ≡ size_of ns
tabulated-count kind ns cell = length-map-upward (λ p. cell (index_at ns p)) 0 (size_of ns)

-- the cell at a place
pub tabulated-place : (kind : Kind) (ns : List ℕ) (cell : List ℕ → ℤ) (p : ℕ) (d : ℤ) → p < size_of ns → get_or (tabulated kind ns cell).cells p d ≡ cell (index_at ns p)
tabulated-place kind ns cell p d h = get_or-map-places (λ p. cell (index_at ns p)) (size_of ns) p d h

-- the cell at an index
pub tabulated-at : (kind : Kind) (ns : List ℕ) (cell : List ℕ → ℤ) (is : List ℕ) → IsIndex ns is → cell_at (tabulated kind ns cell) is ≡ cell is
tabulated-at kind ns cell is h = tabulated-place kind ns cell (place_at ns is) (pos 0) (place_at-below ns is h) ∙ ap cell (index_at-place_at ns is h)

-- what is so of the cell at each index is so of all cells
pub tabulated-each : (P : ℤ → Type 0) (kind : Kind) (ns : List ℕ) (cell : List ℕ → ℤ) → ((is : List ℕ) → IsIndex ns is → P (cell is)) → AllByRecursion P (tabulated kind ns cell).cells
tabulated-each P kind ns cell h =
    all-map-upward P (λ p. cell (index_at ns p)) 0 (size_of ns) (λ p low high. h (index_at ns p) (IsIndex-index_at ns p (omega arith)))

-- the same cell at each index makes the same array
pub tabulated-same : (kind : Kind) (ns : List ℕ) (f g : List ℕ → ℤ) → ((is : List ℕ) → IsIndex ns is → f is ≡ g is) → tabulated kind ns f ≡ tabulated kind ns g
tabulated-same kind ns f g h =
    ap (λ (cells : List ℤ). let a : Array = record { kind = kind; shape = ns; cells = cells } in a)
    (map-upward-same (λ p. f (index_at ns p)) (λ p. g (index_at ns p)) 0 (size_of ns) (λ p low high. h (index_at ns p) (IsIndex-index_at ns p (omega arith))))

-- an array is that of its own cells
pub tabulated-back : (a : Array) → length a.cells ≡ size_of a.shape → tabulated a.kind a.shape (cell_at a) ≡ a
tabulated-back a h =
    ap (λ (cells : List ℤ). let b : Array = record { kind = a.kind; shape = a.shape; cells = cells } in b)
    (list_by_places (λ p. cell_at a (index_at a.shape p)) a.cells (size_of a.shape) (pos 0) h
    (λ p below. ap (λ k. get_or a.cells k (pos 0)) (place_at-index_at a.shape p below)))

-- at each index the element at the index that is read
pub gathered-at : (ns : List ℕ) (read : List ℕ → List ℕ) (a : Array) (is : List ℕ) → IsIndex ns is → cell_at (gathered ns read a) is ≡ cell_at a (read is)
gathered-at ns read a is h = tabulated-at a.kind ns (λ js. cell_at a (read js)) is h
