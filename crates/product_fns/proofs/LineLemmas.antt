-- Inner products of lines.
use Rattle.std.proofs.Common.{◌≡◌, ◌≢◌, ℕ, zero, suc, ◌+◌, ◌-◌, ◌*◌, ◌/◌, ◌%◌, ◌<◌, ◌≤◌, ℤ, pos, List, [], ◌∷◌, ◌++◌, length, map, take, drop, get_or, set, Option, Some, None, IfSome, refl, sym, ap, ◌∙◌, subst, arith, inl, inr}
use Rattle.std.specs.Option.{option_map, option_and_then}
use Rattle.std.proofs.Math.Seq.{take-suc, take-length}
use Rattle.std.proofs.Math.Nat.{mul-le-mul_left}
use Rattle.std.proofs.lemmas.Bool.{cases_lt}
use Rattle.std.proofs.lemmas.List.{map-append, get_or-take, get_or-drop, get_or-set_same, get_or-set_other}
use Rattle.std.proofs.lemmas.Simd.{map-map}
use Rattle.apl_base.specs.declared.cells.Kind.{Kind}
use Rattle.apl_base.specs.declared.cells.Kind.TheVariants.{Num}
use Rattle.apl_base.specs.declared.cells.Elem.{Elem}
use Rattle.apl_base.specs.declared.rows.Dya.{Dya}
use Rattle.apl_base.specs.Elements.{element, all_defined}
use Rattle.apl_base.specs.Number.{IsNumber}
use Rattle.apl_base.specs.Scalar.{scalar2, number}
use Rattle.apl_base.specs.Selection.{upward}
use Rattle.apl_base.proofs.Upward.{map-upward-same, length-map-upward, get_or-map-places, list_by_places}
use Rattle.array_store.specs.Stores.{StoreView, IsStore}
use Rattle.array_store.specs.Counting.{OnlyComputed, Computed, after_applications}
use Rattle.apl_model.specs.Product.{reduced}
use Rattle.scalar_table.specs.Columns.{cell_in, element_in, IsColumn, HasValues, IsFirstWithout}
use Rattle.product_fns.specs.Folding.{folded}
use Rattle.product_fns.specs.Inner.{Lines, product_of, pair_at, product_at, AreAllProducts, HasUndefinedProduct}
use Rattle.product_fns.proofs.CountLemmas.{computed_as, computed_then, computed_applied, computed_most}
use Rattle.product_fns.proofs.FoldLemmas.{reduced-append}
use Rattle.product_fns.proofs.ReducedLemmas.{undefined-all, defined-cells}

-- ---- a reduction of numbers, from the last one

pub numbers_folded : (f : Dya) (cells : List ℤ) (end : ℕ) (c : ℤ) (value : Option Elem) → end + 1 ≡ length cells → c ≡ get_or cells end (pos 0) → value ≡ folded (scalar2 f) (map (element Num) (take end cells)) (element Num c) → value ≡ reduced f (map (element Num) cells)
numbers_folded f cells end c value long is exact =
    let next : suc end ≡ length cells = omega (arith, long) in
    let whole : cells ≡ take end cells ++ get_or cells end (pos 0) ∷ [] =
    sym (take-length cells) ∙ ap (λ (k : ℕ). take k cells) (sym next) ∙ take-suc cells end (pos 0) (omega (arith, long)) in
    exact
    ∙ ap (λ (z : ℤ). folded (scalar2 f) (map (element Num) (take end cells)) (element Num z)) is
    ∙ sym (reduced-append f (map (element Num) (take end cells)) (element Num (get_or cells end (pos 0)) ∷ []) (element Num (get_or cells end (pos 0))) (omega arith) refl)
    ∙ ap (reduced f) (sym (map-append (element Num) (take end cells) (get_or cells end (pos 0) ∷ [])))
    ∙ ap (λ (zs : List ℤ). reduced f (map (element Num) zs)) (sym whole)

-- what is folded from a number is a number
pub folded_number : (f : Dya) (xs : List ℤ) (c : ℤ) (v : Elem) → Some v ≡ folded (scalar2 f) (map (element Num) xs) (element Num c) → (0 < length xs → v.kind ≡ Num) → Some (number v.cell) ≡ Some v
folded_number f xs c v is num = ap (λ (k : Kind). Some (element k v.cell)) (sym (kind xs is num))
  where
    kind : (ys : List ℤ) → Some v ≡ folded (scalar2 f) (map (element Num) ys) (element Num c) → (0 < length ys → v.kind ≡ Num) → v.kind ≡ Num
    kind [] e h = let same : v ≡ element Num c = cc in ap (λ (x : Elem). x.kind) same
    kind (y ∷ ys) e h = h (omega arith)

-- ---- two lines

column-elements : (cells : List ℤ) → map (λ (j : ℕ). element Num (cell_in cells j)) (upward 0 (length cells)) ≡ map (element Num) cells
column-elements cells =
    sym (map-map (element Num) (λ (j : ℕ). cell_in cells j) (upward 0 (length cells)))
    ∙ ap (map (element Num)) (list_by_places (λ j. cell_in cells j) cells (length cells) (pos 0) refl (λ p below. refl))

-- where g has a value at each place
pub product_defined : (f g : Dya) (left_kind right_kind : Kind) (left right start column : List ℤ) (answer : Option ℕ) → start ≡ right → length column ≡ length right → answer ≡ None → IsColumn (λ k. scalar2 g (element_in left_kind left k) (element_in right_kind start k)) column answer →
    reduced f (map (element Num) column) ≡ product_of f g left_kind left right_kind right (length right)
product_defined f g left_kind right_kind left right start column answer same many none is =
    let value : ℕ → Option Elem = λ k. scalar2 g (element_in left_kind left k) (element_in right_kind right k) in
    let values : HasValues value column = subst (IsColumn value column) none (subst (λ (zs : List ℤ). IsColumn (λ k. scalar2 g (element_in left_kind left k) (element_in right_kind zs k)) column answer) same is) in
    sym (
    ap (λ (m : ℕ). option_and_then (reduced f) (all_defined (map value (upward 0 m)))) (sym many)
    ∙ ap (option_and_then (reduced f)) (defined-cells value Num column values ∙ ap (λ (es : List Elem). Some es) (column-elements column)))

-- and where it has none at one
pub product_undefined : (f g : Dya) (left_kind right_kind : Kind) (left right start column : List ℤ) (answer : Option ℕ) (p : ℕ) → start ≡ right → length column ≡ length right → answer ≡ Some p → IsColumn (λ k. scalar2 g (element_in left_kind left k) (element_in right_kind start k)) column answer →
    None ≡ product_of f g left_kind left right_kind right (length right)
product_undefined f g left_kind right_kind left right start column answer p same many some is =
    let value : ℕ → Option Elem = λ k. scalar2 g (element_in left_kind left k) (element_in right_kind right k) in
    let without : IsFirstWithout value (length column) p = subst (IsColumn value column) some (subst (λ (zs : List ℤ). IsColumn (λ k. scalar2 g (element_in left_kind left k) (element_in right_kind zs k)) column answer) same is) in
    let below : p < length right = omega (arith, without.within, many) in
    sym (ap (option_and_then (reduced f))
    (undefined-all (map value (upward 0 (length right))) p (omega (arith, below, length-map-upward value 0 (length right))) (get_or-map-places value (length right) p None below ∙ without.without)))

-- ---- the results that were filled in

pub record AreFirst (l : Lines) (p : ℕ) (results : List ℤ) : Type 0 where
  pub values : (j : ℕ) → j < p → product_at l j ≡ Some (number (cell_in results j))
  pub lawful : (j : ℕ) → j < p → IsNumber (cell_in results j)

-- a line of the left stands before the end of all
pub line_within : (p q many n : ℕ) → 0 < q → p < many → many / q * q ≡ many → p / q * n + n ≤ many / q * n
line_within p q many n some below whole = elim (cases_lt (p / q) (many / q)) [
  | inl less ↦ let next : p / q + 1 ≤ many / q = omega (arith, less) in omega (arith, mul-le-mul_left n next)
  | inr most ↦
      let parts : q * (p / q) + p % q ≡ p = omega arith in
      absurd (omega (arith, mul-le-mul_left q most, below, whole, parts))
]

-- and one of the right
pub column_within : (p q n : ℕ) → 0 < q → p % q * n + n ≤ q * n
column_within p q n some = let next : p % q + 1 ≤ q = omega arith in omega (arith, mul-le-mul_left n next)

cell-part : (at n k : ℕ) (cells : List ℤ) → k < n → cell_in (take (at + n - at) (drop at cells)) k ≡ cell_in cells (at + k)
cell-part at n k cells h = get_or-take (at + n - at) (drop at cells) k (pos 0) (omega (arith, h)) ∙ get_or-drop at cells k (pos 0)

-- the result of the lines for a place
pub product_here : (l : Lines) (p m : ℕ) (left right : List ℤ) (answer : Option ℤ) → m ≡ l.n → left ≡ l.left → right ≡ l.right →
    option_map number answer ≡ product_of l.f l.g l.left_kind (take (p / l.q * l.n + l.n - p / l.q * l.n) (drop (p / l.q * l.n) left)) l.right_kind (take (p % l.q * l.n + l.n - p % l.q * l.n) (drop (p % l.q * l.n) right)) m →
    option_map number answer ≡ product_at l p
product_here l p m left right answer long left_is right_is is =
    let i : ℕ = p / l.q * l.n in
    let j : ℕ = p % l.q * l.n in
    is
    ∙ ap (λ (zs : List ℤ). product_of l.f l.g l.left_kind (take (i + l.n - i) (drop i zs)) l.right_kind (take (j + l.n - j) (drop j right)) m) left_is
    ∙ ap (λ (zs : List ℤ). product_of l.f l.g l.left_kind (take (i + l.n - i) (drop i l.left)) l.right_kind (take (j + l.n - j) (drop j zs)) m) right_is
    ∙ ap (product_of l.f l.g l.left_kind (take (i + l.n - i) (drop i l.left)) l.right_kind (take (j + l.n - j) (drop j l.right))) long
    ∙ ap (λ (os : List (Option Elem)). option_and_then (reduced l.f) (all_defined os))
    (map-upward-same (λ k. scalar2 l.g (element_in l.left_kind (take (i + l.n - i) (drop i l.left)) k) (element_in l.right_kind (take (j + l.n - j) (drop j l.right)) k)) (pair_at l (p / l.q) (p % l.q)) 0 l.n
    (λ k low high.
    let below : k < l.n = omega (arith, high) in
    ap (λ (z : ℤ). scalar2 l.g (element l.left_kind z) (element_in l.right_kind (take (j + l.n - j) (drop j l.right)) k)) (cell-part i l.n k l.left below)
    ∙ ap (λ (z : ℤ). scalar2 l.g (element_in l.left_kind l.left (i + k)) (element l.right_kind z)) (cell-part j l.n k l.right below)))

-- one result more
pub first_more : (l : Lines) (p : ℕ) (results : List ℤ) (cell put : ℤ) (answer : Option ℤ) → put ≡ cell → p < length results → answer ≡ Some cell → IfSome answer IsNumber → option_map number answer ≡ product_at l p → AreFirst l p results → AreFirst l (p + 1) (set results p put)
first_more l p results cell put answer same below some num is first =
    let number_is : IsNumber cell = subst (λ (o : Option ℤ). IfSome o IsNumber) some num in
    let here : cell_in (set results p put) p ≡ cell = get_or-set_same results p put (pos 0) below ∙ same in
    let each : (P : ℕ → ℤ → Type 0) → P p cell → ((j : ℕ) → j < p → P j (cell_in results j)) → (j : ℕ) → j < p + 1 → P j (cell_in (set results p put) j) = λ P now before j h. elim (cases_lt j p) [
      | inl less ↦
          let apart : j ≢ p = λ e. omega (arith, less, e) in
          subst (P j) (sym (get_or-set_other results p j put (pos 0) apart)) (before j less)
      | inr most ↦
          let at : p ≡ j = omega (arith, most, h) in
          subst (λ (k : ℕ). P k (cell_in (set results p put) k)) at (subst (P p) (sym here) now)
    ] in
    record {
      values = each (λ j z. product_at l j ≡ Some (number z)) (sym is ∙ ap (option_map number) some) first.values;
      lawful = each (λ j z. IsNumber z) number_is first.lawful;
    }

-- all of them
pub first_all : (l : Lines) (p : ℕ) (results : List ℤ) → length results ≤ p → AreFirst l p results → AreAllProducts l results
first_all l p results all first = record {
  values = λ j below. first.values j (omega (arith, below, all));
  lawful = λ j d below. subst IsNumber (at_default results j d below) (first.lawful j (omega (arith, below, all)));
}
  where
    at_default : (xs : List ℤ) (j : ℕ) (d : ℤ) → j < length xs → get_or xs j (pos 0) ≡ get_or xs j d
    at_default [] j d h = absurd (omega arith)
    at_default (x ∷ xs) zero d h = refl
    at_default (x ∷ xs) (suc j) d h = at_default xs j d (omega arith)

-- one is undefined
pub product_missing : (l : Lines) (p many : ℕ) (answer : Option ℤ) → p < many → answer ≡ None → option_map number answer ≡ product_at l p → HasUndefinedProduct l many
product_missing l p many answer below none is = record {
  p = p;
  within = below;
  none = sym is ∙ ap (option_map number) none;
}

-- ---- what was applied

pub applied_more : (a b c : StoreView) (p m more : ℕ) → more ≡ m → Computed a b (p * m) 0 → IsStore b → c ≡ after_applications b more → Computed a c ((p + 1) * m) 0
applied_more a b c p m more same before store is =
    computed_as a c _ _ _ _ (omega arith) (omega arith)
    (computed_then a b c (p * m) m 0 0 before (computed_as b c _ _ _ _ same refl (computed_applied b c more store.counts is)))

pub applied_failed : (a c : StoreView) (p m many : ℕ) → p < many → Computed a c ((p + 1) * m) 0 → OnlyComputed a c (many * m) 0
applied_failed a c p m many below all =
    let next : p + 1 ≤ many = omega (arith, below) in
    computed_most a c _ _ _ _ (omega (arith, mul-le-mul_left m next)) (omega arith) all
