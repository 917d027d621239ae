-- Operands over a greater shape.
use Rattle.std.proofs.Common.{◌≡◌, ◌==◌, ℕ, zero, suc, Bool, true, ℤ, pos, List, [], ◌∷◌, ◌++◌, length, map, get_or, take, drop, replicate, Option, refl, sym, ap, ◌∙◌, inl, inr, arith}
use Rattle.std.specs.Prelude.{slice_index_or}
use Rattle.std.specs.List.{zip}
use Rattle.apl_base.specs.declared.cells.Kind.{Kind}
use Rattle.apl_base.specs.declared.cells.Elem.{Elem}
use Rattle.apl_base.specs.declared.rows.Dya.{Dya}
use Rattle.apl_base.specs.Array.{Array, size_of, place_at, index_at, cell_at}
use Rattle.apl_base.specs.Elements.{element, elements, numbers, all_defined, indices}
use Rattle.apl_base.specs.Scalar.{scalar2}
use Rattle.apl_base.specs.Selection.{upward, only_index}
use Rattle.apl_base.proofs.Booleans.{eqb-same}
use Rattle.apl_base.proofs.Elements.{tabulated-count, map-indices}
use Rattle.apl_base.proofs.Upward.{list_by_places}
use Rattle.beating.specs.declared.selections.Selection.TheVariants as select
use Rattle.beating.specs.Selecting.{selected}
use Rattle.apl_model.specs.Whole.{Answer, rank, first, or_domain}
use Rattle.apl_model.specs.Lift.{spread, spread_to, lift_over}
use Rattle.apl_model.specs.Product.{elem_at}
use Rattle.pending_laws.specs.Joins.{meaning_of, IsComplete}
use Rattle.pending_laws.specs.Extensions.{ExtensionIsSpread, ExtensionToOneElement, IsOver, ExtendedJoinIsTheLift, OuterIsTheLift, OuterJoinIsTheProduct}
use Rattle.pending_laws.proofs.JoinLemmas.{spread-whole, paired, lift-paired, meaning-or, two_are_the_lift}
use Rattle.apl_model_laws.proofs.Refusals.{passes_limit}
use Rattle.array_desc.proofs.CarryLemmas.{place_at-zeros}

-- ---- extensions

-- so it is the first cell
cell-only : (a : Array) → cell_at a (only_index a.shape) ≡ first a
cell-only a = ap (λ (p : ℕ). slice_index_or a.cells p (pos 0)) (place_at-zeros a.shape)

-- the same at each number
always : (k : Kind) (cell : ℤ) (s n : ℕ) → map (element k) (map (λ (p : ℕ). cell) (upward s n)) ≡ replicate n (element k cell)
always k cell s zero = refl
always k cell s (suc n) = ap (λ (xs : List Elem). element k cell ∷ xs) (always k cell (suc s) n)

pub extension_is_spread : ExtensionIsSpread
extension_is_spread a ns one =
    let test : (size_of a.shape == 1) ≡ true = eqb-same (size_of a.shape) 1 one in
    always a.kind (cell_at a (only_index a.shape)) 0 (size_of ns)
    ∙ ap (λ (z : ℤ). replicate (size_of ns) (element a.kind z)) (cell-only a)
    ∙ sym (ap (λ (t : Bool). spread t (size_of ns) a) test)

pub extension_to_one_element : ExtensionToOneElement
extension_to_one_element a ns h one same =
    let f : ℕ → ℤ = λ p. cell_at a (only_index a.shape) in
    let made : List ℤ → Array = λ cells. let c : Array = record { kind = a.kind; shape = ns; cells = cells } in c in
    ap made (list_by_places f a.cells (size_of ns) (pos 0) (h ∙ one ∙ sym same)
    (λ p below. let e : place_at a.shape (only_index a.shape) ≡ p = omega (arith, below, same, place_at-zeros a.shape) in ap (λ (k : ℕ). get_or a.cells k (pos 0)) e))

-- ---- operands over a shape

-- an operand over a shape has the elements as the lift spreads them
over-elements : (ns : List ℕ) (a c : Array) → IsComplete a → IsOver ns a c → elements c ≡ spread_to (size_of ns) a
over-elements ns a c h (inl same) = ap elements same.1 ∙ sym (spread-whole a h) ∙ ap (λ (ks : List ℕ). spread_to (size_of ks) a) same.0
over-elements ns a c h (inr other) = ap elements other.1 ∙ extension_is_spread a ns other.0

-- and this shape
over-shape : (ns : List ℕ) (a c : Array) → IsOver ns a c → c.shape ≡ ns
over-shape ns a c (inl same) = ap (λ (x : Array). x.shape) same.1 ∙ same.0
over-shape ns a c (inr other) = ap (λ (x : Array). x.shape) other.1

pub extended_join_is_the_lift : ExtendedJoinIsTheLift
extended_join_is_the_lift f place a b c d ns h g fit left right =
    let pairs : List ℕ → List Elem → List Elem → Answer =
    λ ks xs ys. or_domain (all_defined (map (λ (p : Elem × Elem). scalar2 f p.0 p.1) (zip xs ys))) (numbers ks)
    in
    meaning-or place d.shape (paired f c d)
    ∙ ap (λ (ks : List ℕ). meaning_of place (pairs ks (elements c) (elements d))) (over-shape ns b d right)
    ∙ ap (λ (xs : List Elem). meaning_of place (pairs ns xs (elements d))) (over-elements ns a c h left)
    ∙ ap (λ (ys : List Elem). meaning_of place (pairs ns (spread_to (size_of ns) a) ys)) (over-elements ns b d g right)
    ∙ sym (ap (λ r. meaning_of place (lift_over f a b r)) fit)

-- ---- outer products

-- values at pairs that stand at the same places
zip-maps : (f : Dya) (k j : Kind) (g h : ℕ → ℤ) (ps : List ℕ) →
    map (λ (p : Elem × Elem). scalar2 f p.0 p.1) (zip (map (element k) (map g ps)) (map (element j) (map h ps)))
    ≡ map (λ (p : ℕ). scalar2 f (element k (g p)) (element j (h p))) ps
zip-maps f k j g h [] = refl
zip-maps f k j g h (p ∷ ps) = ap (λ (xs : List (Option Elem)). scalar2 f (element k (g p)) (element j (h p)) ∷ xs) (zip-maps f k j g h ps)

pub outer_is_the_lift : OuterIsTheLift
outer_is_the_lift f a b fits =
    let ns : List ℕ = a.shape ++ b.shape in
    let left : Array = selected (select.OuterLeft b.shape) a in
    let right : Array = selected (select.OuterRight a.shape) b in
    let value : List ℕ → Option Elem = λ is. scalar2 f (elem_at a (take (rank a) is)) (elem_at b (drop (rank a) is)) in
    let answer : List (Option Elem) → Answer = λ values. or_domain (all_defined values) (numbers ns) in
    lift-paired f left right (tabulated-count a.kind ns (λ is. cell_at a (take (length a.shape) is)))
    (tabulated-count b.kind ns (λ is. cell_at b (drop (length a.shape) is))) refl
    ∙ ap answer (zip-maps f a.kind b.kind (λ p. cell_at a (take (length a.shape) (index_at ns p))) (λ p. cell_at b (drop (length a.shape) (index_at ns p))) (upward 0 (size_of ns)))
    ∙ ap answer (map-indices value ns)
    ∙ sym (passes_limit ns (λ _. answer (map value (indices ns))) fits)

pub outer_join_is_the_product : OuterJoinIsTheProduct
outer_join_is_the_product f place a b fits =
    let ns : List ℕ = a.shape ++ b.shape in
    let left : Array = selected (select.OuterLeft b.shape) a in
    let right : Array = selected (select.OuterRight a.shape) b in
    two_are_the_lift f place left right (tabulated-count a.kind ns (λ is. cell_at a (take (length a.shape) is)))
    (tabulated-count b.kind ns (λ is. cell_at b (drop (length a.shape) is))) refl
    ∙ ap (meaning_of place) (outer_is_the_lift f a b fits)
