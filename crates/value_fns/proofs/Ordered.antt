-- Two lists of placed cells that rise and have, for each cell, the same places in the same order are one list.
use Rattle.std.proofs.Common.{◌≡◌, ℕ, zero, suc, ◌+◌, ◌<◌, Bool, true, false, cond, not, ◌&&◌, ℤ, pos, ◌≤ℤ◌, ◌<ℤ◌, neg_ℤ, int_lt, List, [], ◌∷◌, ◌++◌, length, map, get_or, take, length-take, refl, sym, ap, ◌∙◌, subst, arith}
use Rattle.std.specs.List.{AllByRecursion, filter}
use Rattle.std.specs.List.Sorted.{IsSortedBy, IsStableBy, IsSortedByKey, IsStableByKey}
use Rattle.std.specs.declared.cmp.Ordering.TheVariants.{Less, Equal, Greater}
use Rattle.std.proofs.lemmas.List.{length-map, take_more}
use Rattle.std.proofs.lemmas.Int.{ints, by_lt_z}
use Rattle.apl_base.specs.Selection.{upward}
use Rattle.apl_base.proofs.Lists.{all_imp}
use Rattle.apl_base.proofs.Upward.{list_by_places}
use Rattle.apl_model.specs.Made.{comes_first, counted_from, place_in, in_order}
use Rattle.std.specs.Prelude.{slice_index_or, if◌then◌else◌}
use Rattle.std.specs.Ordering.{int_cmp, is_lt}
use Rattle.value_fns.specs.Placed.{Placed, placed_from, cell_of, IsIndex}

-- ---- tests of a cell

-- which of two cells is less, wherever they stand
abbrev is_below : Placed → Placed → Bool
is_below x y = int_lt x.0 y.0

-- so says their order
below_test : (x y : Placed) → is_lt (int_cmp (cell_of x) (cell_of y)) ≡ is_below x y
below_test x y = by (int_lt x.0 y.0) (int_lt y.0 x.0)
  where
    by : (s t : Bool) → is_lt (cond s Less (cond t Greater Equal)) ≡ s
    by true t = refl
    by false true = refl
    by false false = refl

-- whether a placed cell is this cell
abbrev pub is_cell : ℤ → Placed → Bool
is_cell z x = not (int_lt z x.0) && not (int_lt x.0 z)

pub less-test : (x y : ℤ) → x <ℤ y → int_lt x y ≡ true
less-test x y h = by (int_lt x y) refl
  where
    by : (t : Bool) → int_lt x y ≡ t → t ≡ true
    by true e = refl
    by false e = absurd (omega (arith, ints))

pub less-false : (x y : ℤ) → y ≤ℤ x → int_lt x y ≡ false
less-false x y h = by (int_lt x y) refl
  where
    by : (t : Bool) → int_lt x y ≡ t → t ≡ false
    by false e = refl
    by true e = absurd (omega (arith, ints))

pub is_cell-same : (z : ℤ) (x : Placed) → z ≡ x.0 → is_cell z x ≡ true
is_cell-same z x e = let low : z ≤ℤ x.0 = omega (arith, ints) in let high : x.0 ≤ℤ z = omega (arith, ints) in
    rw (less-false z x.0 high, less-false x.0 z low) refl

pub is_cell-above : (z : ℤ) (x : Placed) → z <ℤ x.0 → is_cell z x ≡ false
is_cell-above z x h = rw (less-test z x.0 h) refl

pub is_cell-below : (z : ℤ) (x : Placed) → x.0 <ℤ z → is_cell z x ≡ false
is_cell-below z x h = let low : x.0 ≤ℤ z = omega (arith, ints) in rw (less-false z x.0 low, less-test x.0 z h) refl

pub is_cell-tells : (z : ℤ) (x : Placed) → is_cell z x ≡ true → z ≡ x.0
is_cell-tells z x h = by (int_lt z x.0) (int_lt x.0 z) refl refl h
  where
    by : (s t : Bool) → int_lt z x.0 ≡ s → int_lt x.0 z ≡ t → not s && not t ≡ true → z ≡ x.0
    by false false a b h = omega (arith, ints)
    by true t a b h = absurd cc
    by false true a b h = absurd cc

-- ---- rising

-- each cell is at most all that stand behind it
abbrev pub Rises : List Placed → Type 0
Rises [] = Unit {0}
Rises (x ∷ xs) = AllByRecursion (λ y. x.0 ≤ℤ y.0) xs × Rises xs

-- no placed cell above z is z
pub none-above : (z : ℤ) (xs : List Placed) → AllByRecursion (λ y. z <ℤ y.0) xs → filter (is_cell z) xs ≡ []
none-above z [] h = refl
none-above z (x ∷ xs) h = rw (is_cell-above z x h.0) (none-above z xs h.1)

above-all : (z c : ℤ) (xs : List Placed) → z <ℤ c → AllByRecursion (λ y. c ≤ℤ y.0) xs → AllByRecursion (λ y. z <ℤ y.0) xs
above-all z c xs h all = all_imp (λ y. c ≤ℤ y.0) (λ y. z <ℤ y.0) xs (λ y k. omega (arith, ints)) all

-- the first of them is kept where it is the cell
pub kept : (z : ℤ) (x : Placed) (xs : List Placed) → z ≡ x.0 → filter (is_cell z) (x ∷ xs) ≡ x ∷ filter (is_cell z) xs
kept z x xs e = rw (is_cell-same z x e) refl

-- behind one first element the same is kept
tail_same : (z : ℤ) (x : Placed) (xs ys : List Placed) → filter (is_cell z) (x ∷ xs) ≡ filter (is_cell z) (x ∷ ys) → filter (is_cell z) xs ≡ filter (is_cell z) ys
tail_same z x xs ys h = by (is_cell z x) h
  where
    by : (t : Bool) → cond t (x ∷ filter (is_cell z) xs) (filter (is_cell z) xs) ≡ cond t (x ∷ filter (is_cell z) ys) (filter (is_cell z) ys) → filter (is_cell z) xs ≡ filter (is_cell z) ys
    by true e = cc
    by false e = e

pub one_order : (xs ys : List Placed) → Rises xs → Rises ys → ((z : ℤ) → filter (is_cell z) xs ≡ filter (is_cell z) ys) → xs ≡ ys
one_order [] [] p q same = refl
one_order [] (y ∷ ys) p q same = absurd (let e = kept y.0 y ys refl in let f = same y.0 in cc)
one_order (x ∷ xs) [] p q same = absurd (let e = kept x.0 x xs refl in let f = same x.0 in cc)
one_order (x ∷ xs) (y ∷ ys) p q same = by_lt_z x.0 y.0 less (λ high. by_lt_z y.0 x.0 more (λ low. equal high low (one_order xs ys p.1 q.1)))
  where
    less : x.0 <ℤ y.0 → x ∷ xs ≡ y ∷ ys
    less h =
        let none : filter (is_cell x.0) (y ∷ ys) ≡ [] = none-above x.0 (y ∷ ys) (h, above-all x.0 y.0 ys h q.0) in
        let e = kept x.0 x xs refl in
        let f = same x.0 in
        absurd cc

    more : y.0 <ℤ x.0 → x ∷ xs ≡ y ∷ ys
    more h =
        let none : filter (is_cell y.0) (x ∷ xs) ≡ [] = none-above y.0 (x ∷ xs) (h, above-all y.0 x.0 xs h p.0) in
        let e = kept y.0 y ys refl in
        let f = same y.0 in
        absurd cc

    equal : y.0 ≤ℤ x.0 → x.0 ≤ℤ y.0 → (((z : ℤ) → filter (is_cell z) xs ≡ filter (is_cell z) ys) → xs ≡ ys) → x ∷ xs ≡ y ∷ ys
    equal high low one =
        let cells : x.0 ≡ y.0 = omega (arith, ints) in
        let e = kept x.0 x xs refl in
        let f = kept x.0 y ys cells in
        let g = same x.0 in
        let heads : x ≡ y = cc in
        let rest : xs ≡ ys = one (λ z. tail_same z x xs ys (same z ∙ ap (λ (w : Placed). filter (is_cell z) (w ∷ ys)) (sym heads))) in
        cc

-- ---- from what a sort says

-- without the first one they are sorted too
rest_sorted : (x : Placed) (xs : List Placed) → IsSortedBy is_below (x ∷ xs) → IsSortedBy is_below xs
rest_sorted x xs h k d low high =
    let e : suc k + 1 ≡ suc (k + 1) = omega arith in
    subst (λ m. int_lt (get_or (x ∷ xs) m d).0 (get_or xs k d).0 ≡ false) e (h (suc k) d (omega arith) (omega arith))

-- the first one is the least
first_least : (x : Placed) (xs : List Placed) → IsSortedBy is_below (x ∷ xs) → AllByRecursion (λ y. x.0 ≤ℤ y.0) xs
first_least x [] h = tt
first_least x (y ∷ ys) h =
    let here : int_lt y.0 x.0 ≡ false = h 0 x (omega arith) (omega arith) in
    let first : x.0 ≤ℤ y.0 = omega (arith, ints) in
    let rest : AllByRecursion (λ z. y.0 ≤ℤ z.0) ys = first_least y ys (rest_sorted x (y ∷ ys) h) in
    (first, all_imp (λ z. y.0 ≤ℤ z.0) (λ z. x.0 ≤ℤ z.0) ys (λ z k. omega (arith, ints)) rest)

pub Rises-from_sorted : (xs : List Placed) → IsSortedBy is_below xs → Rises xs
Rises-from_sorted [] h = tt
Rises-from_sorted (x ∷ xs) h = (first_least x xs h, Rises-from_sorted xs (rest_sorted x xs h))

pub sorted_below : (xs : List Placed) → IsSortedByKey cell_of int_cmp xs → IsSortedBy is_below xs
sorted_below xs h = subst (λ (lt : Placed → Placed → Bool). IsSortedBy lt xs) (λ i x y. below_test x y i) h

stable_below : (xs ys : List Placed) → IsStableByKey cell_of int_cmp xs ys → IsStableBy is_below xs ys
stable_below xs ys h = subst (λ (lt : Placed → Placed → Bool). IsStableBy lt xs ys) (λ i x y. below_test x y i) h

-- ---- the definition's order, as placed cells

-- the cell that stands at a place, with the place
abbrev pub at_place : List ℤ → ℕ → Placed
at_place cells p = (slice_index_or cells p (pos 0), p)

-- what is so of a place and of those it is put among is so of all of them
put-all : (P : Placed → Type 0) (cells : List ℤ) (p : ℕ) (qs : List ℕ) → P (at_place cells p) → AllByRecursion P (map (at_place cells) qs) → AllByRecursion P (map (at_place cells) (place_in false cells p qs))
put-all P cells p [] h all = (h, tt)
put-all P cells p (q ∷ qs) h all = by (int_lt (slice_index_or cells q (pos 0)) (slice_index_or cells p (pos 0))) (put-all P cells p qs h all.1)
  where
    by : (t : Bool) → AllByRecursion P (map (at_place cells) (place_in false cells p qs)) → AllByRecursion P (map (at_place cells) (if t then q ∷ place_in false cells p qs else p ∷ q ∷ qs))
    by true rest = (all.0, rest)
    by false rest = (h, (all.0, all.1))

-- a place that is put among places in order leaves them in order
put-rises : (cells : List ℤ) (p : ℕ) (qs : List ℕ) → Rises (map (at_place cells) qs) → Rises (map (at_place cells) (place_in false cells p qs))
put-rises cells p [] h = (tt, tt)
put-rises cells p (q ∷ qs) h = by (int_lt cq cp) refl (put-rises cells p qs h.1)
  where
    cq : ℤ
    cq = slice_index_or cells q (pos 0)

    cp : ℤ
    cp = slice_index_or cells p (pos 0)

    by : (t : Bool) → int_lt cq cp ≡ t → Rises (map (at_place cells) (place_in false cells p qs)) → Rises (map (at_place cells) (if t then q ∷ place_in false cells p qs else p ∷ q ∷ qs))
    by true e rest =
        let below : cq ≤ℤ cp = omega (arith, ints) in
        (put-all (λ y. cq ≤ℤ y.0) cells p qs below h.0, rest)
    by false e rest =
        let below : cp ≤ℤ cq = omega (arith, ints) in
        ((below, all_imp (λ y. cq ≤ℤ y.0) (λ y. cp ≤ℤ y.0) (map (at_place cells) qs) (λ y k. omega (arith, ints)) h.0), h)

-- and the places of each cell stay in their order, behind the one that is put
put-keeps : (z : ℤ) (cells : List ℤ) (p : ℕ) (qs : List ℕ) → filter (is_cell z) (map (at_place cells) (place_in false cells p qs)) ≡ filter (is_cell z) (at_place cells p ∷ map (at_place cells) qs)
put-keeps z cells p [] = refl
put-keeps z cells p (q ∷ qs) = by (int_lt (slice_index_or cells q (pos 0)) (slice_index_or cells p (pos 0))) refl (put-keeps z cells p qs)
  where
    zp : Placed
    zp = at_place cells p

    zq : Placed
    zq = at_place cells q

    left : List Placed
    left = filter (is_cell z) (map (at_place cells) qs)

    one : (s t : Bool) → int_lt zq.0 zp.0 ≡ true → is_cell z zq ≡ s → is_cell z zp ≡ t → cond s (zq ∷ cond t (zp ∷ left) left) (cond t (zp ∷ left) left) ≡ cond t (zp ∷ cond s (zq ∷ left) left) (cond s (zq ∷ left) left)
    one true true less a b = let e = is_cell-tells z zq a in let f = is_cell-tells z zp b in absurd (omega (arith, ints))
    one true false less a b = refl
    one false true less a b = refl
    one false false less a b = refl

    by : (t : Bool) → int_lt zq.0 zp.0 ≡ t → filter (is_cell z) (map (at_place cells) (place_in false cells p qs)) ≡ filter (is_cell z) (zp ∷ map (at_place cells) qs) → filter (is_cell z) (map (at_place cells) (if t then q ∷ place_in false cells p qs else p ∷ q ∷ qs)) ≡ filter (is_cell z) (zp ∷ zq ∷ map (at_place cells) qs)
    by true less same = ap (λ (xs : List Placed). cond (is_cell z zq) (zq ∷ xs) xs) same ∙ one (is_cell z zq) (is_cell z zp) less refl refl
    by false more same = refl

pub order-rises : (cells : List ℤ) (ps : List ℕ) → Rises (map (at_place cells) (in_order false cells ps))
order-rises cells [] = tt
order-rises cells (p ∷ ps) = put-rises cells p (in_order false cells ps) (order-rises cells ps)

pub order-keeps : (z : ℤ) (cells : List ℤ) (ps : List ℕ) → filter (is_cell z) (map (at_place cells) (in_order false cells ps)) ≡ filter (is_cell z) (map (at_place cells) ps)
order-keeps z cells [] = refl
order-keeps z cells (p ∷ ps) =
    put-keeps z cells p (in_order false cells ps)
    ∙ ap (λ (xs : List Placed). cond (is_cell z (at_place cells p)) (at_place cells p ∷ xs) xs) (order-keeps z cells ps)

-- ---- cells with their places

pub length-placed_from : (p : ℕ) (cells : List ℤ) → length (placed_from p cells) ≡ length cells
length-placed_from p [] = refl
length-placed_from p (c ∷ cells) = ap suc (length-placed_from (suc p) cells)

pub get_or-placed_from : (p : ℕ) (cells : List ℤ) (k : ℕ) (d : Placed) → k < length cells → (slice_index_or cells k (pos 0), p + k) ≡ get_or (placed_from p cells) k d
get_or-placed_from p [] k d h = absurd (omega arith)
get_or-placed_from p (c ∷ cells) zero d h = let e : p + 0 ≡ p = omega arith in ap (λ (n : ℕ). let x : Placed = (c, n) in x) e
get_or-placed_from p (c ∷ cells) (suc k) d h =
    let e : p + suc k ≡ suc p + k = omega arith in
    ap (λ (n : ℕ). let x : Placed = (slice_index_or cells k (pos 0), n) in x) e ∙ get_or-placed_from (suc p) cells k d (omega arith)

pub placed-at : (cells : List ℤ) → map (at_place cells) (upward 0 (length cells)) ≡ placed_from 0 cells
placed-at cells =
    list_by_places (at_place cells) (placed_from 0 cells) (length cells) (pos 0, 0) (length-placed_from 0 cells)
    (λ p below. let e : 0 + p ≡ p = omega arith in ap (λ (n : ℕ). let x : Placed = (slice_index_or cells p (pos 0), n) in x) (sym e) ∙ get_or-placed_from 0 cells p (pos 0, 0) below)

-- an index rises
pub Rises-of_index : (cells : List ℤ) (placed : List Placed) → IsIndex cells placed → Rises placed
Rises-of_index cells placed h = Rises-from_sorted placed (sorted_below placed h.rises)

-- and has for each cell its places in order
pub index-keeps : (cells : List ℤ) (placed : List Placed) → IsIndex cells placed → (z : ℤ) → filter (is_cell z) placed ≡ filter (is_cell z) (placed_from 0 cells)
index-keeps cells placed h z = stable_below (placed_from 0 cells) placed h.stable (z, 0)

-- an index is the definition's order
pub index-order : (cells : List ℤ) (placed : List Placed) → IsIndex cells placed → placed ≡ map (at_place cells) (in_order false cells (upward 0 (length cells)))
index-order cells placed h =
    one_order placed (map (at_place cells) (in_order false cells (upward 0 (length cells)))) (Rises-of_index cells placed h) (order-rises cells (upward 0 (length cells)))
    (λ z. index-keeps cells placed h z ∙ ap (filter (is_cell z)) (sym (placed-at cells)) ∙ sym (order-keeps z cells (upward 0 (length cells))))

pub places-back : (cells : List ℤ) (ps : List ℕ) → map (λ (x : Placed). x.1) (map (at_place cells) ps) ≡ ps
places-back cells [] = refl
places-back cells (p ∷ ps) = ap (λ (qs : List ℕ). p ∷ qs) (places-back cells ps)

-- so its places are those of the definition
pub index-places : (cells : List ℤ) (placed : List Placed) → IsIndex cells placed → map (λ (x : Placed). x.1) placed ≡ in_order false cells (upward 0 (length cells))
index-places cells placed h = ap (map (λ (x : Placed). x.1)) (index-order cells placed h) ∙ places-back cells (in_order false cells (upward 0 (length cells)))

-- ---- falling order

-- the numbers negated
abbrev pub negated : List ℤ → List ℤ
negated cells = map neg_ℤ cells

get_or-negated : (cells : List ℤ) (p : ℕ) → slice_index_or (negated cells) p (pos 0) ≡ neg_ℤ (slice_index_or cells p (pos 0))
get_or-negated [] p = refl
get_or-negated (c ∷ cells) zero = refl
get_or-negated (c ∷ cells) (suc p) = get_or-negated cells p

negated-less : (x y : ℤ) → int_lt (neg_ℤ x) (neg_ℤ y) ≡ int_lt y x
negated-less x y = by (int_lt y x) refl
  where
    by : (t : Bool) → int_lt y x ≡ t → int_lt (neg_ℤ x) (neg_ℤ y) ≡ t
    by true e = less-test (neg_ℤ x) (neg_ℤ y) (omega (arith, ints))
    by false e = less-false (neg_ℤ x) (neg_ℤ y) (omega (arith, ints))

negated-first : (cells : List ℤ) (q p : ℕ) → comes_first true (slice_index_or cells q (pos 0)) (slice_index_or cells p (pos 0)) ≡ comes_first false (slice_index_or (negated cells) q (pos 0)) (slice_index_or (negated cells) p (pos 0))
negated-first cells q p = rw (get_or-negated cells q, get_or-negated cells p) (sym (negated-less (slice_index_or cells q (pos 0)) (slice_index_or cells p (pos 0))))

negated-put : (cells : List ℤ) (p : ℕ) (qs : List ℕ) → place_in true cells p qs ≡ place_in false (negated cells) p qs
negated-put cells p [] = refl
negated-put cells p (q ∷ qs) =
    ap (λ (t : Bool). if t then q ∷ place_in true cells p qs else p ∷ q ∷ qs) (negated-first cells q p)
    ∙ ap (λ (rest : List ℕ). if comes_first false (slice_index_or (negated cells) q (pos 0)) (slice_index_or (negated cells) p (pos 0)) then q ∷ rest else p ∷ q ∷ qs) (negated-put cells p qs)

-- the falling order of numbers is the rising order of the numbers negated
pub negated-order : (cells : List ℤ) (ps : List ℕ) → in_order true cells ps ≡ in_order false (negated cells) ps
negated-order cells [] = refl
negated-order cells (p ∷ ps) = ap (place_in true cells p) (negated-order cells ps) ∙ negated-put cells p (in_order false (negated cells) ps)

-- ---- one more cell

pub placed_from-append : (p : ℕ) (xs : List ℤ) (x : ℤ) → placed_from p (xs ++ x ∷ []) ≡ placed_from p xs ++ (x, p + length xs) ∷ []
placed_from-append p [] x = let e : p ≡ p + 0 = omega arith in ap (λ (n : ℕ). let ys : List Placed = (x, n) ∷ [] in ys) e
placed_from-append p (c ∷ xs) x =
    let e : suc p + length xs ≡ p + suc (length xs) = omega arith in
    ap (λ (ys : List Placed). (c, p) ∷ ys) (placed_from-append (suc p) xs x ∙ ap (λ (n : ℕ). placed_from (suc p) xs ++ (x, n) ∷ []) e)

placed-more : (xs : List ℤ) (k : ℕ) → k < length xs → placed_from 0 (take k xs) ++ (get_or xs k (pos 0), k) ∷ [] ≡ placed_from 0 (take (k + 1) xs)
placed-more xs k h =
    let e : 0 + length (take k xs) ≡ k = omega (arith, length-take k xs) in
    sym (ap (placed_from 0) (take_more xs k (pos 0) h) ∙ placed_from-append 0 (take k xs) (get_or xs k (pos 0)) ∙ ap (λ (n : ℕ). placed_from 0 (take k xs) ++ (get_or xs k (pos 0), n) ∷ []) e)

-- as code reads it
pub placed-step : (xs : List ℤ) (placed more : List Placed) (k : ℕ) (x : ℤ) → k < length xs → x ≡ get_or xs k (pos 0) → placed ≡ placed_from 0 (take k xs) → more ≡ placed ++ (x, k) ∷ [] → more ≡ placed_from 0 (take (k + 1) xs)
placed-step xs placed more k x h e f g =
    g ∙ ap (λ (ys : List Placed). ys ++ (x, k) ∷ []) f ∙ ap (λ (z : ℤ). placed_from 0 (take k xs) ++ (z, k) ∷ []) e ∙ placed-more xs k h

-- ---- the order as code makes it

-- the places of an index, counted from the origin
placed_places : (o : ℤ) (placed : List Placed) → map (λ (x : Placed). counted_from o x.1) placed ≡ map (counted_from o) (map (λ (x : Placed). x.1) placed)
placed_places o [] = refl
placed_places o (x ∷ placed) = let rest = placed_places o placed in cc

pub rising_order : (o : ℤ) (cells after : List ℤ) (placed : List Placed) → IsIndex cells placed → after ≡ map (λ (x : Placed). counted_from o x.1) placed → after ≡ map (counted_from o) (in_order false cells (upward 0 (length cells)))
rising_order o cells after placed h e = e ∙ placed_places o placed ∙ ap (map (counted_from o)) (index-places cells placed h)

pub falling_order : (o : ℤ) (cells moved after : List ℤ) (placed : List Placed) → moved ≡ negated cells → IsIndex moved placed → after ≡ map (λ (x : Placed). counted_from o x.1) placed → after ≡ map (counted_from o) (in_order true cells (upward 0 (length cells)))
falling_order o cells moved after placed m h e =
    let n : length moved ≡ length cells = ap length m ∙ length-map cells neg_ℤ in
    rising_order o moved after placed h e
    ∙ ap (λ (k : ℕ). map (counted_from o) (in_order false moved (upward 0 k))) n
    ∙ ap (λ (xs : List ℤ). map (counted_from o) (in_order false xs (upward 0 (length cells)))) m
    ∙ ap (map (counted_from o)) (sym (negated-order cells (upward 0 (length cells))))
