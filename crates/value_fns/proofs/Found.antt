-- Where a cell stands first, by an index of the cells.
use Rattle.std.proofs.Common.{◌≡◌, ℕ, zero, suc, ◌+◌, ◌<◌, ◌≤◌, Bool, true, false, not, cond, ℤ, ◌≤ℤ◌, ◌<ℤ◌, int_lt, List, [], ◌∷◌, length, get_or, drop, refl, sym, ap, ◌∙◌, arith}
use Rattle.std.proofs.lemmas.Int.{ints, by_lt_z}
use Rattle.std.proofs.lemmas.Bool.Decides.{Decides-int_eq}
use Rattle.std.specs.List.{filter}
use Rattle.std.specs.List.Sorted.{IsPartitionPoint, IsPartitionedBy}
use Rattle.std.specs.Ordering.{int_eq}
use Rattle.apl_base.proofs.Lists.{all_place}
use Rattle.value_fns.specs.Placed.{Placed, placed_from, IsIndex, first_place}
use Rattle.value_fns.proofs.Ordered.{is_cell, is_cell-below, is_cell-above, is_cell-tells, Rises, Rises-of_index, index-keeps, kept, less-test}

-- ---- among placed cells that rise

-- of two places the cell at the further one is not less
pub rising_far : (xs : List Placed) (i j : ℕ) (d : Placed) → Rises xs → i ≤ j → j < length xs → (get_or xs i d).0 ≤ℤ (get_or xs j d).0
rising_far [] i j d h low high = absurd (omega arith)
rising_far (x ∷ xs) zero zero d h low high = omega (arith, ints)
rising_far (x ∷ xs) zero (suc j) d h low high = all_place (λ (y : Placed). x.0 ≤ℤ y.0) xs j d h.0 (omega arith)
rising_far (x ∷ xs) (suc i) zero d h low high = absurd (omega arith)
rising_far (x ∷ xs) (suc i) (suc j) d h low high = rising_far xs i j d h.1 (omega arith) (omega arith)

-- those below z come first
pub below_first : (z : ℤ) (xs : List Placed) → Rises xs → IsPartitionedBy (λ (x : Placed). int_lt x.0 z) xs
below_first z xs h i j d low high t =
    let e = rising_far xs i j d h low high in
    less-test (get_or xs i d).0 z (omega (arith, ints))

-- where z stands at a place and what is before it is less, it is the first that is z
front_kept : (z : ℤ) (xs : List Placed) (i : ℕ) (x : Placed) → ((k : ℕ) (d : Placed) → k < i → (get_or xs k d).0 <ℤ z) → i < length xs → x ≡ get_or xs i x → z ≡ x.0 → filter (is_cell z) xs ≡ x ∷ filter (is_cell z) (drop (suc i) xs)
front_kept z [] i x before below at same = absurd (omega arith)
front_kept z (y ∷ xs) zero x before below at same = ap (λ (w : Placed). filter (is_cell z) (w ∷ xs)) (sym at) ∙ kept z x xs same
front_kept z (y ∷ xs) (suc i) x before below at same =
    let less : y.0 <ℤ z = before 0 y (omega arith) in
    rw (is_cell-below z y less) (front_kept z xs i x (λ k d h. before (suc k) d (omega arith)) (omega arith) at same)

-- where each is less up to a place and greater from there on, none is z
none_kept : (z : ℤ) (xs : List Placed) (i : ℕ) → ((k : ℕ) (d : Placed) → k < i → k < length xs → (get_or xs k d).0 <ℤ z) → ((k : ℕ) (d : Placed) → i ≤ k → k < length xs → z <ℤ (get_or xs k d).0) → filter (is_cell z) xs ≡ []
none_kept z [] i before after = refl
none_kept z (y ∷ xs) zero before after =
    let more : z <ℤ y.0 = after 0 y (omega arith) (omega arith) in
    rw (is_cell-above z y more) (none_kept z xs zero (λ k d h l. absurd (omega arith)) (λ k d h l. after (suc k) d (omega arith) (omega arith)))
none_kept z (y ∷ xs) (suc i) before after =
    let less : y.0 <ℤ z = before 0 y (omega arith) (omega arith) in
    rw (is_cell-below z y less) (none_kept z xs i (λ k d h l. before (suc k) d (omega arith) (omega arith)) (λ k d h l. after (suc k) d (omega arith) (omega arith)))

-- ---- among cells with their places

-- another cell is not kept
skipped : (z : ℤ) (x : Placed) (xs : List Placed) → (z ≡ x.0 → ⊥) → filter (is_cell z) (x ∷ xs) ≡ filter (is_cell z) xs
skipped z x xs other = by (is_cell z x) refl
  where
    by : (t : Bool) → is_cell z x ≡ t → cond t (x ∷ filter (is_cell z) xs) (filter (is_cell z) xs) ≡ filter (is_cell z) xs
    by true e = absurd (other (is_cell-tells z x e))
    by false e = refl

-- a test that fails tells the two apart
apart : (z c : ℤ) → int_eq z c ≡ false → z ≡ c → ⊥
apart z c f e = let t = (Decides-int_eq z c).1 e in cc

-- the first placed cell that is z has the first place
first_kept : (z : ℤ) (p : ℕ) (cells : List ℤ) (x : Placed) (rest : List Placed) → filter (is_cell z) (placed_from p cells) ≡ x ∷ rest → x.1 ≡ p + first_place cells z
first_kept z p [] x rest e = absurd cc
first_kept z p (c ∷ cells) x rest e = by (int_eq z c) refl (first_kept z (suc p) cells x rest)
  where
    others : List Placed
    others = filter (is_cell z) (placed_from (suc p) cells)

    by : (t : Bool) → int_eq z c ≡ t → (others ≡ x ∷ rest → x.1 ≡ suc p + first_place cells z) → x.1 ≡ p + cond (not t) (1 + first_place cells z) 0
    by true t more =
        let same : z ≡ c = (Decides-int_eq z c).0 t in
        let f = kept z (c, p) (placed_from (suc p) cells) same in
        let heads : x ≡ (c, p) = cc in
        ap (λ (w : Placed). w.1) heads ∙ omega arith
    by false t more =
        let f = skipped z (c, p) (placed_from (suc p) cells) (apart z c t) in
        let here : others ≡ x ∷ rest = cc in
        more here ∙ omega arith

-- where none is z, the first place is past them all
missing_kept : (z : ℤ) (p : ℕ) (cells : List ℤ) → filter (is_cell z) (placed_from p cells) ≡ [] → length cells ≡ first_place cells z
missing_kept z p [] e = refl
missing_kept z p (c ∷ cells) e = by (int_eq z c) refl (missing_kept z (suc p) cells)
  where
    others : List Placed
    others = filter (is_cell z) (placed_from (suc p) cells)

    by : (t : Bool) → int_eq z c ≡ t → (others ≡ [] → length cells ≡ first_place cells z) → suc (length cells) ≡ cond (not t) (1 + first_place cells z) 0
    by true t more =
        let same : z ≡ c = (Decides-int_eq z c).0 t in
        let f = kept z (c, p) (placed_from (suc p) cells) same in
        absurd cc
    by false t more =
        let f = skipped z (c, p) (placed_from (suc p) cells) (apart z c t) in
        let here : others ≡ [] = cc in
        let n = more here in
        omega arith

-- ---- by an index

-- where the index parts into those less than z and the others, and the first of the others is z, it has the first place
pub found : (z : ℤ) (cells : List ℤ) (placed : List Placed) (i : ℕ) (x : Placed) → IsIndex cells placed → IsPartitionPoint (λ (y : Placed). int_lt y.0 z ≡ true) (λ (y : Placed). int_lt y.0 z ≡ false) placed i → i < length placed → x ≡ get_or placed i x → z ≡ x.0 → x.1 ≡ first_place cells z
found z cells placed i x h parts below at same =
    let front = front_kept z placed i x (λ k d l. let t = parts.0 k d (omega arith) l in omega (arith, ints)) below at same in
    first_kept z 0 cells x (filter (is_cell z) (drop (suc i) placed)) (sym (index-keeps cells placed h z) ∙ front) ∙ omega arith

-- where it is another, none of the cells is z
pub missing : (z : ℤ) (cells : List ℤ) (placed : List Placed) (i : ℕ) → IsIndex cells placed → IsPartitionPoint (λ (y : Placed). int_lt y.0 z ≡ true) (λ (y : Placed). int_lt y.0 z ≡ false) placed i → ((d : Placed) → i < length placed → z ≡ (get_or placed i d).0 → ⊥) → length cells ≡ first_place cells z
missing z cells placed i h parts other =
    missing_kept z 0 cells (sym (index-keeps cells placed h z) ∙ none_kept z placed i
    (λ k d l b. let t = parts.0 k d (omega arith) l in omega (arith, ints))
    (λ k d l b.
    let t = parts.1 i d (omega arith) (omega arith) in
    let r = rising_far placed i k d (Rises-of_index cells placed h) l b in
    let at : z ≤ℤ (get_or placed i d).0 = omega (arith, ints) in
    strictly z (get_or placed i d).0 (get_or placed k d).0 at r (other d (omega arith))))
  where
    strictly : (z y x : ℤ) → z ≤ℤ y → y ≤ℤ x → (z ≡ y → ⊥) → z <ℤ x
    strictly z y x a b n = by_lt_z z x (λ l. l) (λ m. absurd (n (omega (arith, ints))))
