-- Reductions of whole arrays by the results at their places.
use Rattle.std.proofs.Common.{◌≡◌, ℕ, suc, ◌+◌, ◌*◌, ◌/◌, ◌%◌, ◌<◌, pos, ℤ, List, [], ◌∷◌, length, map, get_or, drop, Option, Some, None, Ok, Err, refl, sym, ap, ◌∙◌, arith}
use Rattle.std.specs.Prelude.{remove, insert}
use Rattle.std.proofs.lemmas.Simd.{map-map}
use Rattle.apl_base.specs.declared.cells.Kind.{Kind}
use Rattle.apl_base.specs.declared.cells.Elem.{Elem}
use Rattle.apl_base.specs.declared.faults.ErrorKind.TheVariants as error
use Rattle.apl_base.specs.declared.rows.Dya.{Dya}
use Rattle.apl_base.specs.Array.{Array, IsShape, size_of, index_at}
use Rattle.apl_base.specs.Elements.{element, numbers, all_defined, indices}
use Rattle.apl_base.specs.Selection.{upward}
use Rattle.apl_base.proofs.Sizes.{IsIndex-index_at, place_at-index_at}
use Rattle.apl_base.proofs.Elements.{all_defined-map, all_defined-at, all_defined-length, map-indices}
use Rattle.apl_base.proofs.Upward.{all-upward, map-upward-same, length-map-upward, get_or-map-places, list_by_places}
use Rattle.apl_model.specs.Whole.{Answer, or_domain}
use Rattle.apl_model.specs.Product.{reduced, line_at, elem_at, reduced_along}
use Rattle.scalar_table.specs.Columns.{cell_in, element_in}
use Rattle.product_fns.specs.Folding.{column_of, reduced_kind, result_at, AreResults, HasUndefined, rows_along}
use Rattle.product_fns.proofs.PlaceLemmas.{place-insert}
use Rattle.apl_model_laws.proofs.Refusals.{passes_limit}

-- ---- values that are all defined, or not

-- where one is undefined
pub undefined-all : {X : Type 0} (os : List (Option X)) (k : ℕ) → k < length os → get_or os k None ≡ None → all_defined os ≡ None
undefined-all {X = X} os k below none = by (all_defined os) refl
  where
    by : (r : Option (List X)) → all_defined os ≡ r → r ≡ None
    by None e = refl
    by (Some []) e = absurd (omega (arith, below, all_defined-length os [] e))
    by (Some (x ∷ xs)) e = let h = all_defined-at os (x ∷ xs) k x e below in absurd (cc)

-- values at so many places, each with a cell
pub defined-cells : (value : ℕ → Option Elem) (kind : Kind) (cells : List ℤ) → ((j : ℕ) → j < length cells → value j ≡ Some (element kind (cell_in cells j))) →
    all_defined (map value (upward 0 (length cells))) ≡ Some (map (λ j. element kind (cell_in cells j)) (upward 0 (length cells)))
defined-cells value kind cells each =
    all_defined-map value (λ j. element kind (cell_in cells j)) (upward 0 (length cells)) (all-upward (λ j. value j ≡ Some (element kind (cell_in cells j))) 0 (length cells) (λ j low high. each j (omega arith)))

-- and the cells back
pub cells-back : (kind : Kind) (cells : List ℤ) → map (λ (e : Elem). e.cell) (map (λ (j : ℕ). element kind (cell_in cells j)) (upward 0 (length cells))) ≡ cells
cells-back kind cells =
    map-map (λ (e : Elem). e.cell) (λ (j : ℕ). element kind (cell_in cells j)) (upward 0 (length cells))
    ∙ list_by_places (λ j. cell_in cells j) cells (length cells) (pos 0) refl (λ p below. refl)

-- ---- the elements along an axis

line-column : (axis : ℕ) (b : Array) (p : ℕ) → axis < length b.shape → p < size_of (remove b.shape axis) →
    line_at axis b (index_at (remove b.shape axis) p)
    ≡ column_of b.kind b.cells ((p / size_of (drop (suc axis) b.shape)) * (get_or b.shape axis 0 * size_of (drop (suc axis) b.shape)) + p % size_of (drop (suc axis) b.shape)) (size_of (drop (suc axis) b.shape)) (get_or b.shape axis 0)
line-column axis b p h below =
    let ns : List ℕ = remove b.shape axis in
    let q : ℕ = size_of (drop (suc axis) b.shape) in
    let n : ℕ = get_or b.shape axis 0 in
    map-upward-same (λ k. elem_at b (insert (index_at ns p) axis k)) (λ k. element_in b.kind b.cells ((p / q) * (n * q) + p % q + k * q)) 0 n
    (λ k low high. ap (λ (place : ℕ). element_in b.kind b.cells place)
    (place-insert b.shape (index_at ns p) axis k h (IsIndex-index_at ns p below)
    ∙ ap (λ (m : ℕ). (m / q) * (n * q) + m % q + k * q) (place_at-index_at ns p below)))

values-are : (f : Dya) (axis : ℕ) (b : Array) → axis < length b.shape →
    map (λ is. reduced f (line_at axis b is)) (indices (remove b.shape axis)) ≡ map (result_at (rows_along f axis b)) (upward 0 (size_of (remove b.shape axis)))
values-are f axis b h =
    let ns : List ℕ = remove b.shape axis in
    sym (map-indices (λ is. reduced f (line_at axis b is)) ns)
    ∙ map-upward-same (λ p. reduced f (line_at axis b (index_at ns p))) (result_at (rows_along f axis b)) 0 (size_of ns)
    (λ p low high. ap (reduced f) (line-column axis b p h (omega arith)))

-- ---- answers

pub reduced-ok : (f : Dya) (axis : ℕ) (b : Array) (cells : List ℤ) → axis < length b.shape → IsShape (remove b.shape axis) → length cells ≡ size_of (remove b.shape axis) → AreResults (rows_along f axis b) cells →
    reduced_along f axis b ≡ Ok (record { kind = reduced_kind b.kind (get_or b.shape axis 0); shape = remove b.shape axis; cells = cells })
reduced-ok f axis b cells h fits many results =
    let ns : List ℕ = remove b.shape axis in
    let kind : Kind = reduced_kind b.kind (get_or b.shape axis 0) in
    let make : List Elem → Array = λ es. record (numbers ns es) { kind = kind } in
    passes_limit ns (λ _. or_domain (all_defined (map (λ is. reduced f (line_at axis b is)) (indices ns))) make) fits
    ∙ ap (λ (os : List (Option Elem)). or_domain (all_defined os) make) (values-are f axis b h ∙ ap (λ (m : ℕ). map (result_at (rows_along f axis b)) (upward 0 m)) (sym many))
    ∙ ap (λ (o : Option (List Elem)). or_domain o make) (defined-cells (result_at (rows_along f axis b)) kind cells results)
    ∙ ap (λ (zs : List ℤ). let a : Array = record { kind = kind; shape = ns; cells = zs } in let r : Answer = Ok a in r) (cells-back kind cells)

pub reduced-domain : (f : Dya) (axis : ℕ) (b : Array) → axis < length b.shape → IsShape (remove b.shape axis) → HasUndefined (rows_along f axis b) (size_of (remove b.shape axis)) →
    reduced_along f axis b ≡ Err error.Domain
reduced-domain f axis b h fits undefined =
    let ns : List ℕ = remove b.shape axis in
    let kind : Kind = reduced_kind b.kind (get_or b.shape axis 0) in
    let make : List Elem → Array = λ es. record (numbers ns es) { kind = kind } in
    let values : List (Option Elem) = map (result_at (rows_along f axis b)) (upward 0 (size_of ns)) in
    let below : undefined.j < length values = omega (arith, undefined.within, length-map-upward (result_at (rows_along f axis b)) 0 (size_of ns)) in
    passes_limit ns (λ _. or_domain (all_defined (map (λ is. reduced f (line_at axis b is)) (indices ns))) make) fits
    ∙ ap (λ (os : List (Option Elem)). or_domain (all_defined os) make) (values-are f axis b h)
    ∙ ap (λ (o : Option (List Elem)). or_domain o make)
    (undefined-all values undefined.j below (get_or-map-places (result_at (rows_along f axis b)) (size_of ns) undefined.j None undefined.within ∙ undefined.none))
