-- Two lines that are combined pair by pair, from the end.
use Rattle.std.proofs.Common.{◌≡◌, ℕ, zero, suc, ◌+◌, ◌-◌, ◌<◌, ℤ, List, [], ◌∷◌, length, map, Option, Some, None, IfSome, refl, sym, ap, ◌∙◌, subst, arith}
use Rattle.std.specs.Option.{option_map, option_and_then}
use Rattle.apl_base.specs.declared.cells.Kind.{Kind}
use Rattle.apl_base.specs.declared.cells.Elem.{Elem}
use Rattle.apl_base.specs.declared.rows.Dya.{Dya}
use Rattle.apl_base.specs.Elements.{element, all_defined}
use Rattle.apl_base.specs.Scalar.{scalar2, number}
use Rattle.apl_base.specs.Selection.{upward}
use Rattle.apl_base.proofs.Elements.{all_defined-length}
use Rattle.apl_base.proofs.Upward.{length-map-upward}
use Rattle.apl_model.specs.Product.{reduced}
use Rattle.scalar_table.specs.Columns.{element_in}
use Rattle.scalar_table.specs.Row.{Row, Two, scalar, IsNumberElement}
use Rattle.product_fns.specs.Inner.{product_of}
use Rattle.product_fns.proofs.FoldLemmas.{reduced-more}

-- a reduction of values, where each is defined
abbrev reduction : Dya → List (Option Elem) → Option Elem
reduction f os = option_and_then (reduced f) (all_defined os)

-- one value more in front
reduction-more : (f : Dya) (o : Option Elem) (os : List (Option Elem)) (r : Option Elem) → 0 < length os → reduction f os ≡ r → reduction f (o ∷ os) ≡ option_and_then (λ a. option_and_then (scalar2 f a) r) o
reduction-more f None os r some is = refl
reduction-more f (Some a) os r some is = by (all_defined os) refl
  where
    by : (all : Option (List Elem)) → all_defined os ≡ all → reduction f (Some a ∷ os) ≡ option_and_then (scalar2 f a) r
    by None e =
        ap (λ (es : Option (List Elem)). option_and_then (reduced f) (option_map (λ vs. a ∷ vs) es)) e
        ∙ ap (option_and_then (scalar2 f a)) (sym (ap (option_and_then (reduced f)) e) ∙ is)
    by (Some es) e =
        ap (λ (vs : Option (List Elem)). option_and_then (reduced f) (option_map (λ ws. a ∷ ws) vs)) e
        ∙ reduced-more f a es (subst (λ (m : ℕ). 0 < m) (sym (all_defined-length os es e)) some)
        ∙ ap (option_and_then (scalar2 f a)) (sym (ap (option_and_then (reduced f)) e) ∙ is)

-- what is undefined from a place on is undefined
reduction-none : (f : Dya) (at : ℕ → Option Elem) (k m : ℕ) → 0 < m → reduction f (map at (upward k m)) ≡ None → reduction f (map at (upward 0 (k + m))) ≡ None
reduction-none f at zero m some none = ap (λ (n : ℕ). reduction f (map at (upward 0 n))) (omega arith) ∙ none
reduction-none f at (suc k) m some none =
    ap (λ (n : ℕ). reduction f (map at (upward 0 n))) (omega arith)
    ∙ reduction-none f at k (suc m) (omega arith)
    (reduction-more f (at k) (map at (upward (suc k) m)) None (subst (λ (n : ℕ). 0 < n) (sym (length-map-upward at (suc k) m)) some) none ∙ nowhere (at k))
  where
    nowhere : (o : Option Elem) → option_and_then (λ a. option_and_then (scalar2 f a) None) o ≡ None
    nowhere None = refl
    nowhere (Some a) = refl

-- the pairs from a place on were combined, by a function of this row
pub record CombinedFrom (row : Row) (at : ℕ → Option Elem) (n k : ℕ) (value : Elem) : Type 0 where
  pub within : k < n
  pub combines : (f : Dya) → row ≡ Two f → reduction f (map at (upward k (n - k))) ≡ Some value
  pub number : IsNumberElement value

-- the last one
pub combined_starts : (row : Row) (at : ℕ → Option Elem) (n k : ℕ) (value : Elem) → k + 1 ≡ n → at k ≡ Some value → IfSome (at k) IsNumberElement → CombinedFrom row at n k value
combined_starts row at n k value last is lawful = record {
  within = omega (arith, last);
  combines = λ f e. let one : n - k ≡ 1 = omega (arith, last) in ap (λ (m : ℕ). reduction f (map at (upward k m))) one ∙ ap (λ (o : Option Elem). reduction f (o ∷ [])) is;
  number = subst (λ (o : Option Elem). IfSome o IsNumberElement) is lawful;
}

-- with the value before them
combined_next : (row : Row) (at : ℕ → Option Elem) (n k : ℕ) (value : Elem) → 0 < k → CombinedFrom row at n k value → (f : Dya) → row ≡ Two f → reduction f (map at (upward (k - 1) (n - (k - 1)))) ≡ option_and_then (λ a. scalar2 f a value) (at (k - 1))
combined_next row at n k value some from f e =
    let next : suc (k - 1) ≡ k = omega arith in
    let more : n - (k - 1) ≡ suc (n - k) = omega (arith, from.within) in
    let left : 0 < n - k = omega (arith, from.within) in
    ap (λ (m : ℕ). reduction f (map at (upward (k - 1) m))) more
    ∙ ap (λ (j : ℕ). reduction f (at (k - 1) ∷ map at (upward j (n - k)))) next
    ∙ reduction-more f (at (k - 1)) (map at (upward k (n - k))) (Some value) (subst (λ (m : ℕ). 0 < m) (sym (length-map-upward at k (n - k))) left) (from.combines f e)

-- the pair before them too
pub combined_more : (row : Row) (at : ℕ → Option Elem) (n k : ℕ) (value first next : Elem) (r : Option Elem) → 0 < k → CombinedFrom row at n k value → at (k - 1) ≡ Some first → r ≡ scalar row (first ∷ value ∷ []) → r ≡ Some next → IfSome r IsNumberElement → CombinedFrom row at n (k - 1) next
combined_more row at n k value first next r some from here is has lawful = record {
  within = omega (arith, from.within);
  combines = λ f e.
      combined_next row at n k value some from f e
      ∙ ap (option_and_then (λ a. scalar2 f a value)) here
      ∙ sym (ap (λ (w : Row). scalar w (first ∷ value ∷ [])) e)
      ∙ sym is ∙ has;
  number = subst (λ (o : Option Elem). IfSome o IsNumberElement) has lawful;
}

-- it is the whole that is undefined
whole_none : (row : Row) (at : ℕ → Option Elem) (n k : ℕ) (value : Elem) → 0 < k → CombinedFrom row at n k value → (f : Dya) → row ≡ Two f → option_and_then (λ a. scalar2 f a value) (at (k - 1)) ≡ None → reduction f (map at (upward 0 n)) ≡ None
whole_none row at n k value some from f e none =
    ap (λ (m : ℕ). reduction f (map at (upward 0 m))) (omega (arith, from.within))
    ∙ reduction-none f at (k - 1) (n - (k - 1)) (omega (arith, from.within)) (combined_next row at n k value some from f e ∙ none)

-- the last one is undefined
pub last_none : (at : ℕ → Option Elem) (n k : ℕ) (f : Dya) → k + 1 ≡ n → at k ≡ None → reduction f (map at (upward 0 n)) ≡ None
last_none at n k f last none =
    ap (λ (m : ℕ). reduction f (map at (upward 0 m))) (sym last)
    ∙ reduction-none f at k 1 (omega arith) (ap (λ (o : Option Elem). reduction f (o ∷ [])) none)

-- the pair before them is
pub pair_none : (row : Row) (at : ℕ → Option Elem) (n k : ℕ) (value : Elem) → 0 < k → CombinedFrom row at n k value → at (k - 1) ≡ None → (f : Dya) → row ≡ Two f → reduction f (map at (upward 0 n)) ≡ None
pair_none row at n k value some from none f e = whole_none row at n k value some from f e (ap (option_and_then (λ a. scalar2 f a value)) none)

-- there is no value at that pair and theirs
pub combined_none : (row : Row) (at : ℕ → Option Elem) (n k : ℕ) (value first : Elem) (r : Option Elem) → 0 < k → CombinedFrom row at n k value → at (k - 1) ≡ Some first → r ≡ scalar row (first ∷ value ∷ []) → r ≡ None → (f : Dya) → row ≡ Two f → reduction f (map at (upward 0 n)) ≡ None
combined_none row at n k value first r some from here is none f e =
    whole_none row at n k value some from f e
    (ap (option_and_then (λ a. scalar2 f a value)) here ∙ sym (ap (λ (w : Row). scalar w (first ∷ value ∷ [])) e) ∙ sym is ∙ none)

-- all of them
pub combined_all : (row : Row) (at : ℕ → Option Elem) (n k : ℕ) (value : Elem) → k ≡ 0 → CombinedFrom row at n k value → (f : Dya) → row ≡ Two f → Some (number value.cell) ≡ reduction f (map at (upward 0 n))
combined_all row at n k value none from f e =
    let long : n ≡ n - k = omega (arith, none) in
    let whole : reduction f (map at (upward 0 n)) ≡ Some value =
    ap (λ (m : ℕ). reduction f (map at (upward 0 m))) long ∙ ap (λ (j : ℕ). reduction f (map at (upward j (n - k)))) (sym none) ∙ from.combines f e in
    ap (λ (w : Kind). Some (element w value.cell)) (sym from.number.kind) ∙ sym whole

-- ---- by rows

-- the value at each pair
abbrev pub pairs_by : Row → Kind → List ℤ → Kind → List ℤ → ℕ → Option Elem
pairs_by row left_kind left right_kind right k = scalar row (element_in left_kind left k ∷ element_in right_kind right k ∷ [])

-- where the row is a function's they are what that is applied to
pub product_by : (f g : Dya) (row : Row) (left_kind right_kind : Kind) (left right : List ℤ) (n : ℕ) → row ≡ Two g → reduction f (map (pairs_by row left_kind left right_kind right) (upward 0 n)) ≡ product_of f g left_kind left right_kind right n
product_by f g row left_kind right_kind left right n e = ap (λ (w : Row). reduction f (map (pairs_by w left_kind left right_kind right) (upward 0 n))) e

-- the row of a function
pub row_is : (f g : Dya) → f ≡ g → Two g ≡ Two f
row_is f g e = ap (λ (d : Dya). Two d) (sym e)
