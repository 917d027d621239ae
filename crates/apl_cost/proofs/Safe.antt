-- Where the interval rules call a function safe, each element has a value in the range, and so has the whole array.
use Rattle.std.proofs.Common.{◌≡◌, ℕ, zero, suc, ℤ, pos, Bool, true, false, IsTrue, List, [], ◌∷◌, map, length, replicate, slice_index_or, Option, Some, Result, refl, sym, ap, subst, ◌∙◌, arith}
use Rattle.std.specs.List.{AllByRecursion, zip}
use Rattle.apl_base.specs.declared.cells.Elem.{Elem}
use Rattle.apl_base.specs.declared.cells.Interval.{Interval}
use Rattle.apl_base.specs.declared.cells.Kind.{Kind}
use Rattle.apl_base.specs.declared.faults.ErrorKind.{ErrorKind}
use Rattle.apl_base.specs.declared.rows.Dya.{Dya}
use Rattle.apl_base.specs.Array.{Array, size_of}
use Rattle.apl_base.specs.Elements.{element, elements, numbers, all_defined}
use Rattle.apl_base.specs.Interval.{InInterval}
use Rattle.apl_base.specs.Scalar.{scalar1, scalar2}
use Rattle.apl_base.proofs.Elements.{all_defined-cons}
use Rattle.apl_base.proofs.Lists.{all_map}
use Rattle.apl_model.specs.Lift.{lift_over, lift_pairs, spread, spread_to}
use Rattle.apl_model.specs.Whole.{first, is_single, or_domain}
use Rattle.value_range.specs.declared.sides.Side.{Side}
use Rattle.value_range.specs.Interval.{ranged1, ranged2}
use Rattle.value_range.specs.Sound.{IsMember, GivesWithin}
use Rattle.value_range.specs.Laws.Functions.{ranged1-sound, ranged2-sound}
use Rattle.apl_cost.specs.Laws.{LiesIn, HasValueIn, SafeFunctionsOfOne, SafeFunctionsOfTwo}

-- the values of a function at elements: all defined, each in the range
record HasValues {X : Type 0} (f : X → Option Elem) (range : Interval) (xs : List X) : Type 0 where
  values : List Elem
  defined : all_defined (map f xs) ≡ Some values
  inside : AllByRecursion (λ e. InInterval range e.cell) values

values-of : {X : Type 0} (f : X → Option Elem) (range : Interval) (xs : List X) → AllByRecursion (λ x. GivesWithin range (f x)) xs → HasValues f range xs
values-of f range [] h = record { values = []; defined = refl; inside = tt }
values-of f range (x ∷ xs) h =
    let rest = values-of f range xs h.1 in
    record {
      values = h.0.0 ∷ rest.values;
      defined = all_defined-cons (f x) (map f xs) h.0.0 rest.values h.0.1 rest.defined;
      inside = (h.0.2.cell, rest.inside);
    }

-- then the whole has a value
whole : {X : Type 0} (f : X → Option Elem) (range : Interval) (ns : List ℕ) (xs : List X) → HasValues f range xs →
    HasValueIn (or_domain (all_defined (map f xs)) (numbers ns)) ns range
whole f range ns xs h = record {
  array = numbers ns h.values;
  made = ap (λ o. or_domain o (numbers ns)) h.defined;
  shape = refl;
  kind = refl;
  cells = all_map (InInterval range) (λ e. e.cell) h.values h.inside;
}

-- the elements of an array in an interval are of the side
members : (kind : Kind) (i : Interval) (cells : List ℤ) → AllByRecursion (InInterval i) cells →
    AllByRecursion (IsMember (record { kind = kind; interval = i })) (map (element kind) cells)
members kind i [] h = tt
members kind i (z ∷ zs) h = (record { kind = refl; cell = h.0 }, members kind i zs h.1)

copies : (P : Elem → Type 0) (n : ℕ) (e : Elem) → P e → AllByRecursion P (replicate n e)
copies P zero e h = tt
copies P (suc n) e h = (h, copies P n e h)

first-inside : (P : ℤ → Type 0) (cells : List ℤ) → length cells ≡ 1 → AllByRecursion P cells → P (slice_index_or cells 0 (pos 0))
first-inside P [] one h = absurd (cc)
first-inside P (z ∷ zs) one h = h.0

-- and so are those that it is spread to
spread-members : (single : Bool) (n : ℕ) (i : Interval) (a : Array) → (IsTrue single → length a.cells ≡ 1) → AllByRecursion (InInterval i) a.cells →
    AllByRecursion (IsMember (record { kind = a.kind; interval = i })) (spread single n a)
spread-members true n i a one h = copies _ n (element a.kind (first a)) (record { kind = refl; cell = first-inside (InInterval i) a.cells (one refl) h })
spread-members false n i a one h = members a.kind i a.cells h

-- pairs of elements
pairs : (P Q : Elem → Type 0) (R : Elem → Elem → Type 0) → ((x y : Elem) → P x → Q y → R x y) → (xs ys : List Elem) →
    AllByRecursion P xs → AllByRecursion Q ys → AllByRecursion (λ p. R p.0 p.1) (zip xs ys)
pairs P Q R h [] ys a b = tt
pairs P Q R h (x ∷ xs) [] a b = tt
pairs P Q R h (x ∷ xs) (y ∷ ys) a b = (h x y a.0 b.0, pairs P Q R h xs ys a.1 b.1)

each-implies : {X : Type 0} (P Q : X → Type 0) → ((x : X) → P x → Q x) → (xs : List X) → AllByRecursion P xs → AllByRecursion Q xs
each-implies P Q h [] a = tt
each-implies P Q h (x ∷ xs) a = (h x a.0, each-implies P Q h xs a.1)

pub safe_functions_of_one : SafeFunctionsOfOne
safe_functions_of_one f b i lies safe =
    let side : Side = record { kind = b.kind; interval = i } in
    let range = (ranged1 f side).range in
    whole (scalar1 f) range b.shape (elements b)
    (values-of (scalar1 f) range (elements b)
    (each-implies (IsMember side) (λ e. GivesWithin range (scalar1 f e)) (λ e m. ranged1-sound f side lies.lawful safe e m) (elements b)
    (members b.kind i b.cells lies.cells)))

single-count : (a : Array) (i : Interval) → LiesIn i a → IsTrue (is_single a) → length a.cells ≡ 1
single-count a i lies single = lies.count ∙ (let e : size_of a.shape ≡ 1 = grind (arith, single) in e)

over-fitting : (f : Dya) (a b : Array) (i j : Interval) (ns : List ℕ) → LiesIn i a → LiesIn j b →
    IsTrue (ranged2 f (record { kind = a.kind; interval = i }) (record { kind = b.kind; interval = j })).safe →
    HasValueIn (lift_pairs f ns a b) ns (ranged2 f (record { kind = a.kind; interval = i }) (record { kind = b.kind; interval = j })).range
over-fitting f a b i j ns left right safe =
    let p : Side = record { kind = a.kind; interval = i } in
    let q : Side = record { kind = b.kind; interval = j } in
    let range = (ranged2 f p q).range in
    let xs = spread_to (size_of ns) a in
    let ys = spread_to (size_of ns) b in
    whole (λ (e : Elem × Elem). scalar2 f e.0 e.1) range ns (zip xs ys)
    (values-of (λ (e : Elem × Elem). scalar2 f e.0 e.1) range (zip xs ys)
    (pairs (IsMember p) (IsMember q) (λ x y. GivesWithin range (scalar2 f x y)) (λ x y m n. ranged2-sound f p q left.lawful right.lawful safe x y m n) xs ys
    (spread-members (is_single a) (size_of ns) i a (single-count a i left) left.cells)
    (spread-members (is_single b) (size_of ns) j b (single-count b j right) right.cells)))

pub safe_functions_of_two : SafeFunctionsOfTwo
safe_functions_of_two f a b i j ns left right fits safe =
    let range = (ranged2 f (record { kind = a.kind; interval = i }) (record { kind = b.kind; interval = j })).range in
    subst (λ (r : Result (List ℕ) ErrorKind). HasValueIn (lift_over f a b r) ns range) (sym fits) (over-fitting f a b i j ns left right safe)
