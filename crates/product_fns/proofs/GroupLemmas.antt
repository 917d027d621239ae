-- Groups that are reduced one after the other.
use Rattle.std.proofs.Common.{◌≡◌, ℕ, zero, suc, ◌+◌, ◌-◌, ◌*◌, ◌/◌, ◌%◌, ◌^◌, ◌<◌, ◌≤◌, ◌==◌, Bool, true, false, ℤ, pos, List, [], ◌∷◌, ◌++◌, length, map, take, drop, get_or, All, Some, None, refl, sym, ap, ◌∙◌, subst, arith, inl, inr, length-append}
use Rattle.std.specs.Prelude.{remove, MatchBool}
use Rattle.std.specs.List.{AllByRecursion}
use Rattle.std.specs.Option.{option_map}
use Rattle.std.proofs.Math.Nat.{mul-le-mul_left}
use Rattle.std.proofs.lemmas.Bool.{cases_lt}
use Rattle.std.proofs.lemmas.Nat.{div-mul-add}
use Rattle.std.proofs.lemmas.List.{length-take}
use Rattle.std.proofs.Math.Seq.{take-length}
use Rattle.std.proofs.lemmas.List.Elements.{All-append}
use Rattle.apl_base.specs.declared.cells.Kind.{Kind}
use Rattle.apl_base.specs.declared.rows.Dya.{Dya}
use Rattle.apl_base.specs.Array.{Array, IsShape, size_of}
use Rattle.apl_base.specs.Elements.{element}
use Rattle.apl_base.specs.Number.{IsCell, IsNumber}
use Rattle.apl_base.specs.Scalar.{identity_of, number}
use Rattle.apl_base.specs.Selection.{upward}
use Rattle.array_store.specs.Stores.{StoreView}
use Rattle.array_store.specs.Counting.{OnlyCounted, OnlyComputed, Computed}
use Rattle.array_store.proofs.CountingLemmas.{OnlyComputed-then, OnlyComputed-more}
use Rattle.drag_along.specs.declared.leaves.Leaf.{Leaf}
use Rattle.drag_along.specs.Nodes.{leaf_shape}
use Rattle.e_machine.proofs.CountedLemmas.{leaf_array-counted}
use Rattle.apl_model.specs.Product.{reduced}
use Rattle.scalar_table.specs.Columns.{cell_in, element_in}
use Rattle.product_fns.specs.Folding.{Rows, rows_of, column_of, reduced_kind, result_at, HasUndefined, AreAllResults, IsReduced, IsUndefined, IsIdentity}
use Rattle.product_fns.proofs.PlaceLemmas.{mod-mul-add, size_of-remove, size_of-axis, positive_right}
use Rattle.product_fns.proofs.CountLemmas.{computed_as, computed_then}

-- ---- places

-- a group of q results stands before the end of all
pub group_before : (i q many : ℕ) → i < many / q → many / q * q ≡ many → i * q + q ≤ many
group_before i q many h whole = let next : i + 1 ≤ many / q = omega (arith, h) in omega (arith, mul-le-mul_left q next, whole)

-- and its elements before the end of those
pub group_within : (i q n many size : ℕ) → i < many / q → many / q * q ≡ many → n * many ≤ size → i * q * n + n * q ≤ size
group_within i q n many size h whole places = omega (arith, mul-le-mul_left n (group_before i q many h whole), places)

pub part-length : (at q : ℕ) (results : List ℤ) → at + q ≤ length results → length (take (at + q - at) (drop at results)) ≡ q
part-length at q results h = length-take (at + q - at) (drop at results) ∙ omega (arith, h, length-drop at results)
  where
    length-drop : (k : ℕ) (xs : List ℤ) → length (drop k xs) ≡ length xs - k
    length-drop zero xs = omega arith
    length-drop (suc k) [] = omega arith
    length-drop (suc k) (x ∷ xs) = length-drop k xs ∙ omega arith

-- ---- the rows of a leaf over a store that only counted
pub rows_same : (old now : StoreView) (f : Dya) (leaf : Leaf) (n p q : ℕ) → OnlyCounted old now → p ≡ q → rows_of now f leaf n p ≡ rows_of old f leaf n q
rows_same old now f leaf n p q only same =
    ap (λ (a : Array). let r : Rows = record (rows_of now f leaf n p) { cells = a.cells } in r) (leaf_array-counted old now (leaf_shape leaf) leaf only)
    ∙ ap (λ (m : ℕ). rows_of old f leaf n m) same

-- ---- results

-- those of a group
pub result_in_group : (r : Rows) (i j : ℕ) → j < r.q → result_at r (i * r.q + j) ≡ reduced r.f (column_of r.kind r.cells (i * r.q * r.n + j) r.q r.n)
result_in_group r i j h =
    let front : (i * r.q + j) / r.q * (r.n * r.q) ≡ i * (r.n * r.q) = ap (λ (m : ℕ). m * (r.n * r.q)) (div-mul-add i r.q j h) in
    let place : (i * r.q + j) / r.q * (r.n * r.q) + (i * r.q + j) % r.q ≡ i * r.q * r.n + j = omega (arith, front, mod-mul-add i r.q j h) in
    ap (λ (p : ℕ). reduced r.f (column_of r.kind r.cells p r.q r.n)) place

-- one of them that is undefined
pub group_undefined : (r : Rows) (i many : ℕ) → i * r.q + r.q ≤ many → IsUndefined r (i * r.q * r.n) → HasUndefined r many
group_undefined r i many within undefined = record {
  j = i * r.q + undefined.j;
  within = omega (arith, within, undefined.within);
  none = result_in_group r i undefined.j undefined.within ∙ undefined.none;
}

get_front : (xs ys : List ℤ) (j : ℕ) → j < length xs → get_or (xs ++ ys) j (pos 0) ≡ get_or xs j (pos 0)
get_front [] ys j h = absurd (omega arith)
get_front (x ∷ xs) ys zero h = refl
get_front (x ∷ xs) ys (suc j) h = get_front xs ys j (omega arith)

get_back : (xs ys : List ℤ) (j : ℕ) → get_or (xs ++ ys) (length xs + j) (pos 0) ≡ get_or ys j (pos 0)
get_back [] ys j = let e : 0 + j ≡ j = omega arith in ap (λ (k : ℕ). get_or ys k (pos 0)) e
get_back (x ∷ xs) ys j = let e : suc (length xs) + j ≡ suc (length xs + j) = omega arith in ap (λ (k : ℕ). get_or (x ∷ (xs ++ ys)) k (pos 0)) e ∙ get_back xs ys j

-- no group
pub results_none : (r : Rows) (results : List ℤ) → length results ≡ 0 → AreAllResults r results
results_none r results none = record {
  values = λ j below. absurd (omega (arith, below, none));
  lawful = λ k d below. absurd (omega (arith, below, none));
}

-- one group more
pub results_more : (r : Rows) (i : ℕ) (xs ys : List ℤ) → length xs ≡ i * r.q → AreAllResults r xs → IsReduced r (i * r.q * r.n) ys → AreAllResults r (xs ++ ys)
results_more r i xs ys many all group = record {
  values = λ j below. elim (cases_lt j (length xs)) [
    | inl less ↦ all.values j less ∙ ap (λ (z : ℤ). Some (element (reduced_kind r.kind r.n) z)) (sym (get_front xs ys j less))
    | inr most ↦
        let k : ℕ = j - length xs in
        let at : length xs + k ≡ j = omega (arith, most) in
        let place : i * r.q + k ≡ j = omega (arith, most, many) in
        let within : k < r.q = omega (arith, below, most, group.many, length-append xs ys) in
        ap (result_at r) (sym place) ∙ result_in_group r i k within ∙ group.values k within
        ∙ ap (λ (z : ℤ). Some (element (reduced_kind r.kind r.n) z)) (sym (get_back xs ys k) ∙ ap (λ (m : ℕ). get_or (xs ++ ys) m (pos 0)) at)
  ];
  lawful = All-append (IsCell (reduced_kind r.kind r.n)) xs ys all.lawful group.lawful;
}

-- ---- identities

-- a reduction of no element
no_element : (r : Rows) → r.n ≡ 0 → (j : ℕ) → result_at r j ≡ option_map number (identity_of r.f)
no_element r none j = ap (λ (m : ℕ). reduced r.f (map (λ k. element_in r.kind r.cells ((j / r.q) * (r.n * r.q) + j % r.q + k * r.q)) (upward 0 m))) none

pub identity_fills : (r : Rows) (results : List ℤ) (many : ℕ) (b : Bool) → r.n ≡ 0 → 0 < many → length results ≡ many → MatchBool b (IsIdentity r.f results) (identity_of r.f ≡ None) → MatchBool b (AreAllResults r results) (HasUndefined r many)
identity_fills r results many true none some long is =
    let kind : reduced_kind r.kind r.n ≡ reduced_kind r.kind 0 = ap (reduced_kind r.kind) none in
    record {
      values = λ j below.
          no_element r none j ∙ ap (option_map number) is.is
          ∙ ap (λ (z : ℤ). Some (number z)) (sym (is.each j below))
          ∙ ap (λ (k : Kind). Some (element k (cell_in results j))) (sym kind);
      lawful = subst (λ (k : Kind). All (IsCell k) results) (sym kind) (λ j d below. subst IsNumber (sym (is.each j below) ∙ at_default results j d below) is.number);
    }
  where
    at_default : (xs : List ℤ) (j : ℕ) (d : ℤ) → j < length xs → get_or xs j (pos 0) ≡ get_or xs j d
    at_default [] j d h = absurd (omega arith)
    at_default (x ∷ xs) zero d h = refl
    at_default (x ∷ xs) (suc j) d h = at_default xs j d (omega arith)
identity_fills r results many false none some long is = record {
  j = 0;
  within = some;
  none = no_element r none 0 ∙ ap (option_map number) is;
}

-- ---- counts

pub computed_group : (a b c : StoreView) (i q m n : ℕ) → Computed a b (i * q * m) (i * q * n) → Computed b c (m * q) (n * q) → Computed a c ((i + 1) * q * m) ((i + 1) * q * n)
computed_group a b c i q m n p r = computed_as a c _ _ _ _ (omega arith) (omega arith) (computed_then a b c (i * q * m) (m * q) (i * q * n) (n * q) p r)

pub computed_failed : (a b c : StoreView) (i q m n many : ℕ) → i * q + q ≤ many → Computed a b (i * q * m) (i * q * n) → OnlyComputed b c (m * q) (n * q) → OnlyComputed a c (many * m) (many * n)
computed_failed a b c i q m n many within p r =
    OnlyComputed-more a c _ _ _ _ (omega (arith, mul-le-mul_left m within)) (omega (arith, mul-le-mul_left n within))
    (OnlyComputed-then a b c (i * q * m) (m * q) (i * q * n) (n * q) p.all r)

-- ---- the lengths behind an axis

all_drop : (P : ℕ → Type 0) (k : ℕ) (ns : List ℕ) → AllByRecursion P ns → AllByRecursion P (drop k ns)
all_drop P zero ns h = h
all_drop P (suc k) [] h = tt
all_drop P (suc k) (n ∷ ns) h = all_drop P k ns h.1

drop-few : (k : ℕ) (ns : List ℕ) → length (drop k ns) ≤ length ns
drop-few zero ns = omega arith
drop-few (suc k) [] = omega arith
drop-few (suc k) (n ∷ ns) = omega (arith, drop-few k ns)

positive_left : (a b : ℕ) → 0 < a * b → 0 < a
positive_left zero b h = absurd (omega (arith, h))
positive_left (suc a) b h = omega arith

pub behind_few : (ns : List ℕ) (axis : ℕ) → 0 < size_of (remove ns axis) → size_of (drop (suc axis) ns) ≤ size_of (remove ns axis)
behind_few ns axis some =
    let t : ℕ = size_of (take axis ns) in
    let q : ℕ = size_of (drop (suc axis) ns) in
    let product : 0 < t * q = omega (arith, some, size_of-remove ns axis) in
    let one : 1 ≤ t = positive_left t q product in
    omega (arith, mul-le-mul_left q one, size_of-remove ns axis)

pub behind_is_shape : (ns : List ℕ) (axis : ℕ) → IsShape ns → 0 < size_of (remove ns axis) → size_of (remove ns axis) ≤ 2 ^ 40 → IsShape (drop (suc axis) ns)
behind_is_shape ns axis is some few = record {
  rank = omega (arith, is.rank, drop-few (suc axis) ns);
  each = all_drop (λ n. n ≤ 2 ^ 40) (suc axis) ns is.each;
  product = omega (arith, behind_few ns axis some, few);
}

-- as many groups as the results have rows
pub behind_whole : (ns : List ℕ) (axis many q : ℕ) → 0 < many → many ≡ size_of (remove ns axis) → q ≡ size_of (drop (suc axis) ns) → (0 < q) × (many / q * q ≡ many)
behind_whole ns axis many q some is behind =
    let t : ℕ = size_of (take axis ns) in
    let product : many ≡ t * q = is ∙ size_of-remove ns axis ∙ ap (λ (m : ℕ). t * m) (sym behind) in
    let row : 0 < q = positive_right t q (omega (arith, some, product)) in
    let same : many ≡ t * q + 0 = omega (arith, product) in
    let groups : many / q ≡ t = ap (λ (m : ℕ). m / q) same ∙ div-mul-add t q 0 row in
    (row, ap (λ (m : ℕ). m * q) groups ∙ sym product)

pub behind_all : (ns : List ℕ) (axis : ℕ) → axis < length ns → size_of (remove ns axis) * get_or ns axis 0 ≡ size_of ns
behind_all ns axis h =
    let left : size_of (remove ns axis) * get_or ns axis 0 ≡ (size_of (take axis ns) * size_of (drop (suc axis) ns)) * get_or ns axis 0 = ap (λ (m : ℕ). m * get_or ns axis 0) (size_of-remove ns axis) in
    omega (arith, left, size_of-axis ns axis h)

-- ---- small steps

take-none : (k : ℕ) → take {A = ℕ} k [] ≡ []
take-none zero = refl
take-none (suc k) = refl

-- what is left of a list behind k
pub rest-whole : (k : ℕ) (ns : List ℕ) → take (length ns - k) (drop k ns) ≡ drop k ns
rest-whole zero ns = let e : length ns - 0 ≡ length ns = omega arith in ap (λ (m : ℕ). take m ns) e ∙ take-length ns
rest-whole (suc k) [] = take-none (0 - suc k)
rest-whole (suc k) (n ∷ ns) = let e : suc (length ns) - suc k ≡ length ns - k = omega arith in ap (λ (m : ℕ). take m (drop k ns)) e ∙ rest-whole k ns

-- the front of what stands in the vector
pub front : (xs ys : List ℤ) (n : ℕ) → n ≡ length xs → take n (xs ++ ys) ≡ xs
front xs ys n is = ap (λ (m : ℕ). take m (xs ++ ys)) is ∙ all xs
  where
    all : (zs : List ℤ) → take (length zs) (zs ++ ys) ≡ zs
    all [] = refl
    all (z ∷ zs) = ap (λ (ws : List ℤ). z ∷ ws) (all zs)

pub some_if : (n : ℕ) → false ≡ (n == 0) → 0 < n
some_if zero e = absurd cc
some_if (suc n) e = omega arith

pub only_as : (a b : StoreView) (f g m n : ℕ) → f ≡ g → m ≡ n → OnlyComputed a b f m → OnlyComputed a b g n
only_as a b f g m n e h p = subst (λ (k : ℕ). OnlyComputed a b k n) e (subst (λ (k : ℕ). OnlyComputed a b f k) h p)

-- the rows of all results are all elements
pub all_elements : (ns : List ℕ) (axis many n : ℕ) → axis < length ns → many ≡ size_of (remove ns axis) → n ≡ get_or ns axis 0 → many * n ≡ size_of ns
all_elements ns axis many n h is along = ap (λ (m : ℕ). m * n) is ∙ ap (λ (m : ℕ). size_of (remove ns axis) * m) along ∙ behind_all ns axis h
