-- The loops that read a leaf by rows.
use mir.Syntax.{w128}
use Rattle.std.proofs.Common.{◌≡◌, ℕ, ◌+◌, ◌<◌, ℤ, pos, ◌+ℤ◌, ◌*ℤ◌, List, [], ◌∷◌, ◌++◌, length, map, take, set, refl, sym, ap, ◌∙◌, add-one, subst, All, arith}
use Rattle.std.specs.Int.{int_wrap}
use Rattle.std.specs.Int.RustNames.{FitsSigned}
use Rattle.std.proofs.lemmas.Int.{ints, int_wrap_fits, int_wrap-add_left}
use Rattle.std.proofs.lemmas.List.{map-append}
use Rattle.std.proofs.Math.Seq.{take-suc-set}
use Rattle.std.proofs.Math.IntN.{*ℤ-zero}
use Rattle.apl_base.specs.declared.cells.Kind.{Kind}
use Rattle.apl_base.specs.Number.{IsNumber, IsCell}
use Rattle.array_desc.specs.Desc.{DescView}
use Rattle.array_store.specs.Stores.{StoreView}
use Rattle.drag_along.specs.declared.leaves.Leaf.{Leaf}
use Rattle.drag_along.specs.declared.leaves.Leaf.TheVariants.{Gen}
use Rattle.drag_along.specs.Nodes.{leaf_kind}
use Rattle.apl_base.specs.Selection.{upward}
use Rattle.apl_base.proofs.Upward.{upward-append, length-map-upward, get_or-map-places}
use Rattle.e_machine.specs.Rows.{numbers_along, row_cells, CanRead}

-- ---- numbers a step apart

-- the first k numbers are filled in, and the next is this one, as 128 bits hold it
pub record FilledTo (from step : ℤ) (into : List ℤ) (next : ℤ) (k : ℕ) : Type 0 where
  pub done : take k into ≡ numbers_along from step k
  pub number : next ≡ int_wrap w128 (from +ℤ (step *ℤ pos k))

numbers_along-next : (from step : ℤ) (k : ℕ) → numbers_along from step (k + 1) ≡ numbers_along from step k ++ (from +ℤ (step *ℤ pos k)) ∷ []
numbers_along-next from step k =
    let at : ℕ → ℤ = λ j. from +ℤ (step *ℤ pos j) in
    let e : 0 + k ≡ k = omega arith in
    ap (map at) (upward-append 0 k 1) ∙ map-append at (upward 0 k) (upward (0 + k) 1) ∙ ap (λ n. map at (upward 0 k) ++ at n ∷ []) e

pub filled_none : (from step : ℤ) (into : List ℤ) → FitsSigned w128 from → FilledTo from step into from 0
filled_none from step into fits =
    let e : from +ℤ (step *ℤ pos 0) ≡ from = omega (arith, ints, *ℤ-zero step) in
    record { done = refl; number = sym (ap (int_wrap w128) e ∙ int_wrap_fits w128 from fits) }

pub filled_next : (from step : ℤ) (into : List ℤ) (next after : ℤ) (k : ℕ) → ((j : ℕ) → j < length into → IsNumber (from +ℤ (step *ℤ pos j))) → k < length into → FilledTo from step into next k → after ≡ int_wrap w128 (next +ℤ step) → FilledTo from step (set into k next) after (k + 1)
filled_next from step into next after k numbers below filled on =
    let least = (numbers k below).least in
    let most = (numbers k below).most in
    let fits : FitsSigned w128 (from +ℤ (step *ℤ pos k)) = omega (arith, ints) in
    let here : next ≡ from +ℤ (step *ℤ pos k) = filled.number ∙ int_wrap_fits w128 _ fits in
    record {
      done = rw add-one (take-suc-set into k next below) ∙ ap (λ xs. xs ++ next ∷ []) filled.done ∙ ap (λ c. numbers_along from step k ++ c ∷ []) here ∙ sym (numbers_along-next from step k);
      number = on ∙ ap (λ z. int_wrap w128 (z +ℤ step)) filled.number ∙ int_wrap-add_left w128 _ step ∙ ap (int_wrap w128) (omega (arith, ints));
    }

-- where each is an element of a kind, so are all
numbers_lawful : (kind : Kind) (from step : ℤ) (count : ℕ) → ((j : ℕ) → j < count → IsCell kind (from +ℤ (step *ℤ pos j))) → All (IsCell kind) (numbers_along from step count)
numbers_lawful kind from step count each = λ k d below.
    let at : ℕ → ℤ = λ j. from +ℤ (step *ℤ pos j) in
    let less : k < count = subst (λ n. k < n) (length-map-upward at 0 count) below in
    subst (IsCell kind) (sym (get_or-map-places at count k d less)) (each k less)

pub row_lawful : (s : StoreView) (leaf : Leaf) (desc : DescView) (kind : Kind) (from step : ℤ) (count : ℕ) → leaf ≡ Gen desc kind → CanRead s leaf from step count → All (IsCell (leaf_kind leaf)) (row_cells s leaf from step count)
row_lawful s leaf desc kind from step count is can =
    subst (λ (l : Leaf). CanRead s l from step count → All (IsCell (leaf_kind l)) (row_cells s l from step count)) (sym is)
    (λ h. numbers_lawful kind from step count (λ j below. (h j below).1)) can
