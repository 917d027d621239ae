-- Reversals, and the axes in reverse order.
use Rattle.std.proofs.Common.{◌≡◌, ◌⊎◌, ℕ, suc, ◌+◌, ◌-◌, ◌<◌, ◌≤◌, Bool, true, false, not, ◌&&◌, ℤ, pos, ◌+ℤ◌, ◌-ℤ◌, ◌<ℤ◌, ◌≤ℤ◌, int_le, int_lt, unsigned_abs, List, [], ◌∷◌, ◌++◌, length, reverse, Ok, inl, inr, refl, sym, ap, subst, ◌∙◌, arith}
use Rattle.std.proofs.lemmas.List.{reverse-append}
use Rattle.std.proofs.lemmas.Int.{ints}
use Rattle.apl_base.specs.declared.cells.Kind.TheVariants.{Num}
use Rattle.apl_base.specs.declared.faults.ErrorKind.TheVariants as error
use Rattle.apl_base.specs.Array.{Array}
use Rattle.apl_base.specs.Elements.{gathered}
use Rattle.apl_base.specs.Selection.{upward, reverse_index}
use Rattle.beating.specs.declared.selections.Selection.{Selection}
use Rattle.beating.specs.declared.selections.Selection.TheVariants as select
use Rattle.apl_model.specs.declared.functions.Axis.{Axis}
use Rattle.apl_model.specs.declared.functions.Axis.TheVariants.{Last, First, Numbered}
use Rattle.apl_model.specs.Whole.{rank, error_if}
use Rattle.apl_model.specs.Made.{reversed, flipped}
use Rattle.pending_laws.specs.Selections.{NamesAxis, SendsAxes}
use Rattle.pending_laws.proofs.AxisLemmas.{reversed_is_selected, reversed_scalar_stays, flipped_is_selected}
use Rattle.selection_choices.specs.declared.choices.Choice.TheVariants as choice
use Rattle.selection_choices.specs.Choices.{Chooses, Errs}

-- an axis that is there is turned round
pub axis_turned : (o : ℤ) (axis : Axis) (ns : List ℕ) (k : ℕ) → NamesAxis o axis (length ns) k → k < length ns → Chooses (reversed o axis) ns (choice.Select (select.Reverse k))
axis_turned o axis ns k names within = record {
  fits = within;
  answer = λ b is.
      let count : rank b ≡ length ns = ap (λ (ms : List ℕ). length ms) is.shape in
      reversed_is_selected o axis b k (subst (λ (r : ℕ). NamesAxis o axis r k) (sym count) names) (omega (arith, within, count));
}

-- a scalar stays
pub scalar_last : (o : ℤ) (ns : List ℕ) → length ns ≡ 0 → Chooses (reversed o Last) ns choice.Same
scalar_last o ns none = record {
  fits = tt;
  answer = λ b is. (reversed_scalar_stays o b is.complete (ap (λ (ms : List ℕ). length ms) is.shape ∙ none)).0;
}

pub scalar_first : (o : ℤ) (ns : List ℕ) → length ns ≡ 0 → Chooses (reversed o First) ns choice.Same
scalar_first o ns none = record {
  fits = tt;
  answer = λ b is. (reversed_scalar_stays o b is.complete (ap (λ (ms : List ℕ). length ms) is.shape ∙ none)).1;
}

-- a number that is none of an axis is the error
outside : (o k : ℤ) (r : ℕ) → (k <ℤ o) ⊎ ((o +ℤ pos r) ≤ℤ k) → not (int_le o k && int_lt k (o +ℤ pos r)) ≡ true
outside o k r h = by (int_le o k) (int_lt k (o +ℤ pos r)) refl refl
  where
    by : (t u : Bool) → int_le o k ≡ t → int_lt k (o +ℤ pos r) ≡ u → not (t && u) ≡ true
    by false u e f = refl
    by true false e f = refl
    by true true e f = absurd (elim h [ inl low ↦ omega (arith, ints, e, low) | inr high ↦ omega (arith, ints, f, high) ])

pub axis_missing : (o k : ℤ) (ns : List ℕ) → (k <ℤ o) ⊎ ((o +ℤ pos (length ns)) ≤ℤ k) → Errs (reversed o (Numbered k)) ns error.Rank
axis_missing o k ns h b is =
    let count : length ns ≡ rank b = sym (ap (λ (ms : List ℕ). length ms) is.shape) in
    ap (λ (t : Bool). error_if error.Rank t (Ok (gathered b.shape (reverse_index b.shape (unsigned_abs (k -ℤ o))) b)))
    (outside o k (rank b) (subst (λ (r : ℕ). (k <ℤ o) ⊎ ((o +ℤ pos r) ≤ℤ k)) count h))

-- ---- the axes in reverse order

sent : (ns : List ℕ) (by : Selection) (b : Array) → b.shape ≡ ns → SendsAxes (reverse (upward 0 (length ns))) by → SendsAxes (reverse (upward 0 (rank b))) by
sent ns by b is h = subst (λ (ms : List ℕ). SendsAxes (reverse (upward 0 (length ms))) by) (sym is) h

pub axes_flipped : (ns : List ℕ) (by : Selection) → SendsAxes (reverse (upward 0 (length ns))) by → Chooses flipped ns (choice.Select by)
axes_flipped ns by h = record {
  fits = (flipped_is_selected (record { kind = Num; shape = ns; cells = [] }) by h).0;
  answer = λ b is. (flipped_is_selected b by (sent ns by b is.shape h)).1;
}

-- one axis more before those that stand there
pub falls_on : (rank done : ℕ) (axes : List ℕ) → done < rank → axes ≡ reverse (upward (rank - done) done) → axes ++ (rank - 1 - done) ∷ [] ≡ reverse (upward (rank - (done + 1)) (done + 1))
falls_on rank done axes below is =
    let here : rank - (done + 1) ≡ rank - 1 - done = omega arith in
    let next : suc (rank - 1 - done) ≡ rank - done = omega (arith, below) in
    let more : done + 1 ≡ suc done = omega arith in
    ap (λ (xs : List ℕ). xs ++ (rank - 1 - done) ∷ []) is
    ∙ ap (λ (a : ℕ). reverse (upward a done) ++ (rank - 1 - done) ∷ []) (sym next)
    ∙ sym (reverse-append ((rank - 1 - done) ∷ []) (upward (suc (rank - 1 - done)) done))
    ∙ ap (λ (a : ℕ). reverse (upward a (suc done))) (sym here)
    ∙ ap (λ (n : ℕ). reverse (upward (rank - (done + 1)) n)) (sym more)

pub falls_all : (rank done : ℕ) (axes : List ℕ) → done ≤ rank → rank ≤ done → axes ≡ reverse (upward (rank - done) done) → axes ≡ reverse (upward 0 rank)
falls_all rank done axes few many is =
    let all : done ≡ rank = omega arith in
    let from : rank - done ≡ 0 = omega arith in
    is ∙ ap (λ (a : ℕ). reverse (upward a done)) from ∙ ap (λ (n : ℕ). reverse (upward 0 n)) all
