-- First places that are found for wanted cells in rising order, and put where the wanted cells stand.
use Rattle.std.proofs.Common.{◌≡◌, ℕ, ◌+◌, ◌<◌, ◌≤◌, ◌⊎◌, inl, inr, true, false, ℤ, pos, ◌≤ℤ◌, int_lt, List, [], ◌∷◌, length, map, get_or, set, drop, sym, ap, ◌∙◌, subst, arith}
use Rattle.std.specs.List.{All, Contains}
use Rattle.std.specs.List.Sorted.{IsPartitionPoint, IsPermutation, IsSortedByKey}
use Rattle.std.specs.Ordering.{int_cmp}
use Rattle.std.proofs.lemmas.Bool.{cases_eq}
use Rattle.std.proofs.lemmas.Int.{ints}
use Rattle.std.proofs.lemmas.List.{ext_get_or, get_or-map, get_or_default, get_or-set_same, get_or-set_other, length-map, drop_more, drop_all}
use Rattle.std.proofs.lemmas.List.Sorted.{All-permutation, Contains-permutation}
use Rattle.std.proofs.lemmas.Map.Made.{Contains-tail}
use Rattle.value_fns.specs.Placed.{Placed, placed_from, cell_of}
use Rattle.value_fns.proofs.Found.{rising_far}
use Rattle.value_fns.proofs.Ordered.{Rises-from_sorted, sorted_below, get_or-placed_from, length-placed_from, less-test, less-false}

-- a cell with the place where it stands
abbrev pub Stands : List ℤ → Placed → Type 0
Stands cells x = (x.1 < length cells) × (x.0 ≡ get_or cells x.1 (pos 0))

all_stand : (cells : List ℤ) → All (Stands cells) (placed_from 0 cells)
all_stand cells k d below =
    let less : k < length cells = omega (arith, below, length-placed_from 0 cells) in
    subst (Stands cells) (get_or-placed_from 0 cells k d less) (omega (arith, less), let e : k ≡ 0 + k = omega arith in ap (λ (n : ℕ). get_or cells n (pos 0)) e)

each_there : (cells : List ℤ) (i : ℕ) → i < length cells → Contains (placed_from 0 cells) (get_or cells i (pos 0), i)
each_there cells i below =
    let x : Placed = (get_or cells i (pos 0), i) in
    let e : 0 + i ≡ i = omega arith in
    (i, omega (arith, below, length-placed_from 0 cells), sym (get_or-placed_from 0 cells i x below) ∙ ap (λ (n : ℕ). let y : Placed = (get_or cells i (pos 0), n) in y) e)

-- what is known of a wanted cell in the order of the cells
pub stands_at : (cells : List ℤ) (order : List Placed) (j : ℕ) (d : Placed) → IsPermutation (placed_from 0 cells) order → j < length order → Stands cells (get_or order j d)
stands_at cells order j d h below = All-permutation (Stands cells) (placed_from 0 cells) order h (all_stand cells) j d below

-- ---- the cells that are found so far

-- each wanted cell has its answer, or stands in the rest of the order
abbrev pub EachMerged : (ℤ → ℤ) → List ℤ → List Placed → List ℤ → Type 0
EachMerged f cells rest now = (i : ℕ) → i < length cells → (get_or now i (pos 0) ≡ f (get_or cells i (pos 0))) ⊎ Contains rest (get_or cells i (pos 0), i)

pub merged_none : (f : ℤ → ℤ) (cells : List ℤ) (order : List Placed) → IsPermutation (placed_from 0 cells) order → EachMerged f cells (drop 0 order) cells
merged_none f cells order h i below = inr (Contains-permutation (placed_from 0 cells) order (get_or cells i (pos 0), i) h (each_there cells i below))

pub merged_step : (f : ℤ → ℤ) (cells : List ℤ) (order : List Placed) (j : ℕ) (x : Placed) (now : List ℤ) (z : ℤ) → j < length order → x ≡ get_or order j (pos 0, 0) → Stands cells x → length now ≡ length cells → z ≡ f x.0 → EachMerged f cells (drop j order) now → EachMerged f cells (drop (j + 1) order) (set now x.1 z)
merged_step f cells order j x now z below at stands long is before i less = by (cases_eq i x.1) (before i less)
  where
    rest : drop j order ≡ x ∷ drop (j + 1) order
    rest = drop_more order j (pos 0, 0) below ∙ ap (λ (y : Placed). y ∷ drop (j + 1) order) (sym at)

    by : ((i ≡ x.1) ⊎ (i ≡ x.1 → ⊥)) → ((get_or now i (pos 0) ≡ f (get_or cells i (pos 0))) ⊎ Contains (drop j order) (get_or cells i (pos 0), i)) → (get_or (set now x.1 z) i (pos 0) ≡ f (get_or cells i (pos 0))) ⊎ Contains (drop (j + 1) order) (get_or cells i (pos 0), i)
    by (inl same) h = inl (ap (λ (n : ℕ). get_or (set now x.1 z) n (pos 0)) same ∙ get_or-set_same now x.1 z (pos 0) (omega (arith, stands.0, long)) ∙ is ∙ ap f (stands.1 ∙ ap (λ (n : ℕ). get_or cells n (pos 0)) (sym same)))
    by (inr other) (inl e) = inl (get_or-set_other now x.1 i z (pos 0) other ∙ e)
    by (inr other) (inr c) = inr (Contains-tail x (drop (j + 1) order) (get_or cells i (pos 0), i) (λ e. other (sym (ap (λ (y : Placed). y.1) e))) (subst (λ (xs : List Placed). Contains xs (get_or cells i (pos 0), i)) rest c))

pub merged_all : (f : ℤ → ℤ) (cells : List ℤ) (order : List Placed) (j : ℕ) (now : List ℤ) → length order ≤ j → length now ≡ length cells → EachMerged f cells (drop j order) now → now ≡ map f cells
merged_all f cells order j now past long h =
    ext_get_or (pos 0) now (map f cells) (long ∙ sym (length-map cells f)) (λ i below.
    let less : i < length cells = omega (arith, below, long) in
    by i less (h i less) ∙ sym (get_or-map f cells i (pos 0) (pos 0) less))
  where
    none : drop j order ≡ []
    none = drop_all j order past

    by : (i : ℕ) → i < length cells → ((get_or now i (pos 0) ≡ f (get_or cells i (pos 0))) ⊎ Contains (drop j order) (get_or cells i (pos 0), i)) → get_or now i (pos 0) ≡ f (get_or cells i (pos 0))
    by i less (inl e) = e
    by i less (inr c) = absurd (omega (arith, c.1, ap length none))

-- ---- the place in the index

-- the cells of the index before this place are less than the wanted cells to come
abbrev pub AllBehind : List Placed → ℕ → List Placed → ℕ → Type 0
AllBehind index from order j = (k : ℕ) (d : Placed) (m : ℕ) (e : Placed) → k < from → j ≤ m → m < length order → int_lt (get_or index k d).0 (get_or order m e).0 ≡ true

pub behind_none : (index order : List Placed) (j : ℕ) → AllBehind index 0 order j
behind_none index order j k d m e before low high = absurd (omega (arith, before))

pub behind_step : (index : List Placed) (from : ℕ) (order : List Placed) (j : ℕ) (x : Placed) → from ≤ length index → IsSortedByKey cell_of int_cmp order → j < length order → x ≡ get_or order j (pos 0, 0) → IsPartitionPoint (λ (y : Placed). int_lt y.0 x.0 ≡ true) (λ (y : Placed). int_lt y.0 x.0 ≡ false) index from → AllBehind index from order (j + 1)
behind_step index from order j x within sorted below at parts k d m e before low high =
    let less = parts.0 k d (omega arith) before in
    let far = rising_far order j m e (Rises-from_sorted order (sorted_below order sorted)) (omega (arith, low)) high in
    let here : x.0 ≡ (get_or order j e).0 = ap (λ (y : Placed). y.0) (at ∙ get_or_default order j (pos 0, 0) e below) in
    less-test (get_or index k d).0 (get_or order m e).0 (omega (arith, ints, less, far, here))

-- where a place isn't less, it parts a list that rises
pub parts_here : (index : List Placed) (place : ℕ) (z : ℤ) → IsSortedByKey cell_of int_cmp index → ((k : ℕ) (d : Placed) → k < place → int_lt (get_or index k d).0 z ≡ true) → ((d : Placed) → place < length index → z ≤ℤ (get_or index place d).0) → IsPartitionPoint (λ (y : Placed). int_lt y.0 z ≡ true) (λ (y : Placed). int_lt y.0 z ≡ false) index place
parts_here index place z sorted before at = (
  (λ k d low high. before k d high),
  (λ k d low high.
      let far = rising_far index place k d (Rises-from_sorted index (sorted_below index sorted)) low high in
      less-false (get_or index k d).0 z (omega (arith, ints, far, at d (omega (arith, low, high))))),
)
