-- The lift of arrays of one shape takes their elements as they are.
use Rattle.std.proofs.Common.{◌≡◌, ◌==◌, ℕ, Bool, true, false, ℤ, pos, List, [], ◌∷◌, length, map, replicate, Option, Some, None, Ok, Err, refl, sym, ap, ◌∙◌, arith}
use Rattle.std.specs.Prelude.{nat_eq, slice_index_or}
use Rattle.std.specs.Cmp.Lexicographic.{pointwise}
use Rattle.std.specs.List.{zip}
use Rattle.std.proofs.lemmas.Bool.{eqb-true}
use Rattle.apl_base.specs.declared.cells.Kind.{Kind}
use Rattle.apl_base.specs.declared.cells.Elem.{Elem}
use Rattle.apl_base.specs.declared.faults.ErrorKind.{ErrorKind}
use Rattle.apl_base.specs.declared.faults.ErrorKind.TheVariants as error
use Rattle.apl_base.specs.declared.faults.Place.{Place}
use Rattle.apl_base.specs.declared.rows.Dya.{Dya}
use Rattle.apl_base.specs.Array.{Array, size_of}
use Rattle.apl_base.specs.Elements.{element, elements, numbers, all_defined}
use Rattle.apl_base.specs.Scalar.{scalar1, scalar2}
use Rattle.apl_base.proofs.Booleans.{eqb-same}
use Rattle.drag_along.specs.Meaning.{numbers_or}
use Rattle.apl_model.specs.Whole.{first, or_domain}
use Rattle.apl_model.specs.Lift.{fitting_shape, shape_by, spread, spread_to, lift_over, lift2}
use Rattle.pending_laws.specs.Joins.{meaning_of, IsComplete, OneIsTheLift, TwoAreTheLift, OneFaultIsDomain, TwoFaultsAreDomain}

-- lengths are alike to themselves
pub pointwise-same : (ns : List ℕ) → pointwise nat_eq ns ns ≡ true
pointwise-same [] = refl
pointwise-same (n ∷ ns) = rw (eqb-same n n refl) (pointwise-same ns)

-- so they fit
pub fitting-same : (ns : List ℕ) → fitting_shape ns ns ≡ Ok ns
fitting-same ns = ap (λ (t : Bool). shape_by t (size_of ns == 1) (size_of ns == 1) ns ns) (pointwise-same ns)

-- an array of one cell
only_element : (k : Kind) (cells : List ℤ) → length cells ≡ 1 → element k (slice_index_or cells 0 (pos 0)) ∷ [] ≡ map (element k) cells
only_element k [] h = absurd (omega arith)
only_element k (c ∷ []) h = refl
only_element k (c ∷ d ∷ cells) h = absurd (omega arith)

-- an operand spread to its own size
pub spread-whole : (a : Array) → IsComplete a → spread_to (size_of a.shape) a ≡ elements a
spread-whole a h = by (size_of a.shape == 1) refl
  where
    by : (t : Bool) → (size_of a.shape == 1) ≡ t → spread t (size_of a.shape) a ≡ elements a
    by false e = refl
    by true e =
        let one : size_of a.shape ≡ 1 = eqb-true (size_of a.shape) 1 e in
        ap (λ (n : ℕ). replicate n (element a.kind (first a))) one ∙ only_element a.kind a.cells (h ∙ one)

-- the values at the pairs of the operands' elements
abbrev pub paired : Dya → Array → Array → Option (List Elem)
paired f a b = all_defined (map (λ (p : Elem × Elem). scalar2 f p.0 p.1) (zip (elements a) (elements b)))

-- the lift of arrays of one shape is the values at these pairs
pub lift-paired : (f : Dya) (a b : Array) → IsComplete a → IsComplete b → a.shape ≡ b.shape → lift2 f a b ≡ or_domain (paired f a b) (numbers b.shape)
lift-paired f a b h g e =
    let left : spread_to (size_of b.shape) a ≡ elements a = ap (λ (ns : List ℕ). spread_to (size_of ns) a) (sym e) ∙ spread-whole a h in
    let right : spread_to (size_of b.shape) b ≡ elements b = spread-whole b g in
    let pairs = λ (xs ys : List Elem). or_domain (all_defined (map (λ (p : Elem × Elem). scalar2 f p.0 p.1) (zip xs ys))) (numbers b.shape) in
    ap (λ (ns : List ℕ). lift_over f a b (fitting_shape ns b.shape)) e
    ∙ ap (lift_over f a b) (fitting-same b.shape)
    ∙ ap (λ (xs : List Elem). pairs xs (spread_to (size_of b.shape) b)) left
    ∙ ap (λ (ys : List Elem). pairs (elements a) ys) right

-- values are as an answer what they are as a meaning
pub meaning-or : (place : Place) (shape : List ℕ) (values : Option (List Elem)) → numbers_or place shape values ≡ meaning_of place (or_domain values (numbers shape))
meaning-or place shape None = refl
meaning-or place shape (Some es) = refl

-- the only error of values is that one is undefined
pub or_domain-error : (shape : List ℕ) (values : Option (List Elem)) (e : ErrorKind) → or_domain values (numbers shape) ≡ Err e → e ≡ error.Domain
or_domain-error shape None e h = cc
or_domain-error shape (Some es) e h = absurd cc

-- ---- the laws

pub one_is_the_lift : OneIsTheLift
one_is_the_lift f place b = meaning-or place b.shape (all_defined (map (scalar1 f) (elements b)))

pub two_are_the_lift : TwoAreTheLift
two_are_the_lift f place a b h g e = meaning-or place b.shape (paired f a b) ∙ ap (meaning_of place) (sym (lift-paired f a b h g e))

pub one_fault_is_domain : OneFaultIsDomain
one_fault_is_domain f b e h = or_domain-error b.shape (all_defined (map (scalar1 f) (elements b))) e h

pub two_faults_are_domain : TwoFaultsAreDomain
two_faults_are_domain f a b e h g same k = or_domain-error b.shape (paired f a b) e (sym (lift-paired f a b h g same) ∙ k)
