-- Lemmas on places that lie a step apart.
use mir.Syntax.{w128}
use Rattle.std.proofs.Common.{◌≡◌, ℕ, zero, suc, ◌+◌, ◌^◌, ◌<◌, ◌≤◌, ℤ, pos, ◌+ℤ◌, ◌*ℤ◌, List, [], ◌∷◌, ◌++◌, length, map, take, get_or, set, refl, sym, ap, ◌∙◌, add-one, subst, All, arith}
use Rattle.std.specs.Prelude.{unsigned_abs}
use Rattle.std.specs.Int.{int_wrap}
use Rattle.std.specs.Int.RustNames.{FitsSigned}
use Rattle.std.proofs.lemmas.Int.{ints, int_wrap_fits, int_wrap-add_left}
use Rattle.std.proofs.lemmas.List.{map-append}
use Rattle.std.proofs.Math.Seq.{take-length, take-suc, take-suc-set}
use Rattle.std.proofs.Math.IntN.{*ℤ-zero}
use Rattle.apl_base.specs.Selection.{upward}
use Rattle.apl_base.proofs.Upward.{upward-append, length-map-upward, get_or-map-places}
use Rattle.array_store.specs.Places.{PlacesWithin, cells_along}

-- the first k cells are those at the places, and the next place is this one, as 128 bits hold it
pub record Copied (cells : List ℤ) (from step : ℤ) (into : List ℤ) (next : ℤ) (k : ℕ) : Type 0 where
  pub done : take k into ≡ cells_along cells from step k
  pub place : next ≡ int_wrap w128 (from +ℤ (step *ℤ pos k))

-- a place, as 128 bits hold it, is that place
pub place_is : (n : ℕ) (from step : ℤ) (count k : ℕ) (next : ℤ) → n < 2 ^ 64 → PlacesWithin n from step count → k < count → next ≡ int_wrap w128 (from +ℤ (step *ℤ pos k)) → next ≡ from +ℤ (step *ℤ pos k)
place_is n from step count k next small within below is =
    let low = within.low k below in
    let high = within.high k below in
    let fits : FitsSigned w128 (from +ℤ (step *ℤ pos k)) = omega (arith, ints) in
    is ∙ int_wrap_fits w128 _ fits

-- one place more
pub cells_along-next : (cells : List ℤ) (from step : ℤ) (k : ℕ) → cells_along cells from step (k + 1) ≡ cells_along cells from step k ++ get_or cells (unsigned_abs (from +ℤ (step *ℤ pos k))) (pos 0) ∷ []
cells_along-next cells from step k =
    let at : ℕ → ℤ = λ j. get_or cells (unsigned_abs (from +ℤ (step *ℤ pos j))) (pos 0) in
    let e : 0 + k ≡ k = omega arith in
    ap (map at) (upward-append 0 k 1) ∙ map-append at (upward 0 k) (upward (0 + k) 1) ∙ ap (λ n. map at (upward 0 k) ++ at n ∷ []) e

pub copied_none : (cells : List ℤ) (from step : ℤ) (into : List ℤ) → FitsSigned w128 from → Copied cells from step into from 0
copied_none cells from step into fits =
    let e : from +ℤ (step *ℤ pos 0) ≡ from = omega (arith, ints, *ℤ-zero step) in
    record { done = refl; place = sym (ap (int_wrap w128) e ∙ int_wrap_fits w128 from fits) }

-- one cell more
pub copied_next : (cells : List ℤ) (from step : ℤ) (into : List ℤ) (next after cell : ℤ) (k : ℕ) → length cells < 2 ^ 64 → PlacesWithin (length cells) from step (length into) → k < length into → Copied cells from step into next k → cell ≡ get_or cells (unsigned_abs next) (pos 0) → after ≡ int_wrap w128 (next +ℤ step) → Copied cells from step (set into k cell) after (k + 1)
copied_next cells from step into next after cell k small within below copied read on =
    let here = place_is (length cells) from step (length into) k next small within below copied.place in
    let value : cell ≡ get_or cells (unsigned_abs (from +ℤ (step *ℤ pos k))) (pos 0) = read ∙ ap (λ z. get_or cells (unsigned_abs z) (pos 0)) here in
    record {
      done = rw add-one (take-suc-set into k cell below) ∙ ap (λ xs. xs ++ cell ∷ []) copied.done ∙ ap (λ c. cells_along cells from step k ++ c ∷ []) value ∙ sym (cells_along-next cells from step k);
      place = on ∙ ap (λ z. int_wrap w128 (z +ℤ step)) copied.place ∙ int_wrap-add_left w128 _ step ∙ ap (int_wrap w128) (omega (arith, ints));
    }

-- what is so of each cell is so of those at the places
pub All-cells_along : (P : ℤ → Type 0) (cells : List ℤ) (from step : ℤ) (count : ℕ) → All P cells → PlacesWithin (length cells) from step count → All P (cells_along cells from step count)
All-cells_along P cells from step count all within = λ k d below.
    let at : ℕ → ℤ = λ j. get_or cells (unsigned_abs (from +ℤ (step *ℤ pos j))) (pos 0) in
    let less : k < count = subst (λ n. k < n) (length-map-upward at 0 count) below in
    let low = within.low k less in
    let high = within.high k less in
    let inside : unsigned_abs (from +ℤ (step *ℤ pos k)) < length cells = omega (arith, ints) in
    subst P (sym (get_or-map-places at count k d less)) (all _ (pos 0) inside)

-- all cells, one after another
along_take : (cells : List ℤ) (k : ℕ) → k ≤ length cells → cells_along cells (pos 0) (pos 1) k ≡ take k cells
along_take cells zero fits = refl
along_take cells (suc k) fits =
    let here : unsigned_abs (pos 0 +ℤ (pos 1 *ℤ pos k)) ≡ k = omega (arith, ints) in
    ap (cells_along cells (pos 0) (pos 1)) (sym (add-one k)) ∙ cells_along-next cells (pos 0) (pos 1) k
    ∙ ap (λ n. cells_along cells (pos 0) (pos 1) k ++ get_or cells n (pos 0) ∷ []) here
    ∙ ap (λ xs. xs ++ get_or cells k (pos 0) ∷ []) (along_take cells k (omega arith)) ∙ sym (take-suc cells k (pos 0) (omega arith))

pub whole_run : (cells : List ℤ) → cells_along cells (pos 0) (pos 1) (length cells) ≡ cells
whole_run cells = along_take cells (length cells) (omega arith) ∙ take-length cells
