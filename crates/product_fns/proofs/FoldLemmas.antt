-- Reductions of lists, from their end.
use Rattle.std.proofs.Common.{◌≡◌, ℕ, zero, suc, ◌+◌, ◌-◌, ◌<◌, ◌≤◌, ℤ, pos, List, [], ◌∷◌, ◌++◌, length, map, drop, get_or, Option, Some, None, IfSome, refl, sym, ap, ◌∙◌, subst, arith, drop-cons}
use Rattle.std.specs.Option.{option_and_then}
use Rattle.apl_base.specs.declared.cells.Kind.{Kind}
use Rattle.apl_base.specs.declared.cells.Kind.TheVariants.{Num}
use Rattle.apl_base.specs.declared.cells.Elem.{Elem}
use Rattle.apl_base.specs.Number.{IsCell}
use Rattle.apl_base.specs.Elements.{element}
use Rattle.scalar_table.specs.Row.{IsNumberElement}
use Rattle.apl_base.specs.declared.rows.Dya.{Dya}
use Rattle.apl_base.specs.Scalar.{scalar2}
use Rattle.apl_base.specs.Selection.{upward}
use Rattle.apl_model.specs.Product.{reduced}
use Rattle.product_fns.specs.Folding.{folded}

-- one element more in front
pub reduced-more : (f : Dya) (b : Elem) (bs : List Elem) → 0 < length bs → reduced f (b ∷ bs) ≡ option_and_then (scalar2 f b) (reduced f bs)
reduced-more f b [] h = absurd (omega arith)
reduced-more f b (c ∷ bs) h = refl

-- some elements more in front
pub reduced-append : (f : Dya) (xs ys : List Elem) (r : Elem) → 0 < length ys → reduced f ys ≡ Some r → reduced f (xs ++ ys) ≡ folded (scalar2 f) xs r
reduced-append f [] ys r h e = e
reduced-append f (x ∷ xs) ys r h e =
    reduced-more f x (xs ++ ys) (some xs) ∙ ap (option_and_then (scalar2 f x)) (reduced-append f xs ys r h e)
  where
    some : (zs : List Elem) → 0 < length (zs ++ ys)
    some [] = h
    some (z ∷ zs) = omega arith

-- what is undefined stays so with elements more in front
pub reduced-none : (f : Dya) (e : ℕ → Elem) (s d : ℕ) → 0 < d → reduced f (map e (upward s d)) ≡ None → reduced f (map e (upward 0 (s + d))) ≡ None
reduced-none f e zero d h none = let same : zero + d ≡ d = omega arith in ap (λ (n : ℕ). reduced f (map e (upward 0 n))) same ∙ none
reduced-none f e (suc s) zero h none = absurd (omega arith)
reduced-none f e (suc s) (suc d) h none =
    let same : suc s + suc d ≡ s + suc (suc d) = omega arith in
    ap (λ (n : ℕ). reduced f (map e (upward 0 n))) same
    ∙ reduced-none f e s (suc (suc d)) (omega arith) (ap (option_and_then (scalar2 f (e s))) none)

-- ---- folding a list from its end

-- what is undefined from a place on is undefined
pub folded-none : (op : Elem → Elem → Option Elem) (xs : List Elem) (r : Elem) (k : ℕ) → folded op (drop k xs) r ≡ None → folded op xs r ≡ None
folded-none op [] r zero none = none
folded-none op [] r (suc k) none = none
folded-none op (x ∷ xs) r zero none = none
folded-none op (x ∷ xs) r (suc k) none = ap (option_and_then (op x)) (folded-none op xs r k none)

-- the cells from a place on were combined
pub record FoldedFrom (op : Elem → Elem → Option Elem) (kind : Kind) (cells : List ℤ) (right : Elem) (k : ℕ) (value : Elem) : Type 0 where
  pub within : k ≤ length cells
  pub folds : folded op (map (element kind) (drop k cells)) right ≡ Some value
  pub number : k < length cells → value.kind ≡ Num
  pub lawful : IsCell value.kind value.cell

pub fold_starts : (op : Elem → Elem → Option Elem) (kind : Kind) (cells : List ℤ) (right : Elem) → IsCell right.kind right.cell → FoldedFrom op kind cells right (length cells) right
fold_starts op kind cells right lawful = record {
  within = omega arith;
  folds = ap (λ (zs : List ℤ). folded op (map (element kind) zs) right) (drop-all cells);
  number = λ h. absurd (omega (arith, h));
  lawful = lawful;
}
  where
    drop-all : (zs : List ℤ) → drop (length zs) zs ≡ []
    drop-all [] = refl
    drop-all (z ∷ zs) = drop-all zs

-- the cell before them too
fold_next : (op : Elem → Elem → Option Elem) (kind : Kind) (cells : List ℤ) (right : Elem) (k : ℕ) (value : Elem) (c : ℤ) → 0 < k → FoldedFrom op kind cells right k value → c ≡ get_or cells (k - 1) (pos 0) →
    folded op (map (element kind) (drop (k - 1) cells)) right ≡ op (element kind c) value
fold_next op kind cells right k value c some from is =
    let next : suc (k - 1) ≡ k = omega arith in
    let below : k - 1 < length cells = omega (arith, from.within) in
    ap (λ (zs : List ℤ). folded op (map (element kind) zs) right) (drop-cons cells (k - 1) (pos 0) below)
    ∙ ap (λ (j : ℕ). option_and_then (op (element kind (get_or cells (k - 1) (pos 0)))) (folded op (map (element kind) (drop j cells)) right)) next
    ∙ ap (option_and_then (op (element kind (get_or cells (k - 1) (pos 0))))) from.folds
    ∙ ap (λ (z : ℤ). op (element kind z) value) (sym is)

pub fold_more : (op : Elem → Elem → Option Elem) (kind : Kind) (cells : List ℤ) (right : Elem) (k : ℕ) (value next : Elem) (c : ℤ) (r : Option Elem) → 0 < k → FoldedFrom op kind cells right k value → c ≡ get_or cells (k - 1) (pos 0) → r ≡ op (element kind c) value → r ≡ Some next → IfSome r IsNumberElement → FoldedFrom op kind cells right (k - 1) next
fold_more op kind cells right k value next c r some from is value_is has lawful =
    let number : IsNumberElement next = subst (λ (o : Option Elem). IfSome o IsNumberElement) has lawful in
    record {
      within = omega (arith, from.within);
      folds = fold_next op kind cells right k value c some from is ∙ sym value_is ∙ has;
      number = λ h. number.kind;
      lawful = subst (λ (w : Kind). IsCell w next.cell) (sym number.kind) number.cell;
    }

pub fold_none : (op : Elem → Elem → Option Elem) (kind : Kind) (cells : List ℤ) (right : Elem) (k : ℕ) (value : Elem) (c : ℤ) (r : Option Elem) → 0 < k → FoldedFrom op kind cells right k value → c ≡ get_or cells (k - 1) (pos 0) → r ≡ op (element kind c) value → r ≡ None → folded op (map (element kind) cells) right ≡ None
fold_none op kind cells right k value c r some from is value_is none =
    folded-none op (map (element kind) cells) right (k - 1)
    (ap (λ (xs : List Elem). folded op xs right) (drop-map (k - 1) cells) ∙ fold_next op kind cells right k value c some from is ∙ sym value_is ∙ none)
  where
    drop-map : (j : ℕ) (zs : List ℤ) → drop j (map (element kind) zs) ≡ map (element kind) (drop j zs)
    drop-map zero zs = refl
    drop-map (suc j) [] = refl
    drop-map (suc j) (z ∷ zs) = drop-map j zs

-- all of them
pub fold_all : (op : Elem → Elem → Option Elem) (kind : Kind) (cells : List ℤ) (right : Elem) (k : ℕ) (value : Elem) → k ≡ 0 → FoldedFrom op kind cells right k value → folded op (map (element kind) cells) right ≡ Some value
fold_all op kind cells right k value none from = ap (λ (j : ℕ). folded op (map (element kind) (drop j cells)) right) (sym none) ∙ from.folds

-- what has no value is undefined
pub no_value : {X : Type 0} (o : Option X) → ((x : X) → o ≡ Some x → ⊥) → o ≡ None
no_value None h = refl
no_value (Some x) h = absurd (h x refl)
