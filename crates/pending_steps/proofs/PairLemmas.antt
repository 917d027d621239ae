-- The join of two operands over the shape that both fit.
use Rattle.std.proofs.Common.{◌≡◌, ℕ, inl, inr, List, Ok, refl, sym, ap, subst, ◌∙◌}
use Rattle.apl_base.specs.declared.faults.Place.{Place}
use Rattle.apl_base.specs.declared.rows.Dya.{Dya}
use Rattle.apl_base.specs.Array.{size_of}
use Rattle.array_store.specs.Stores.{StoreView}
use Rattle.drag_along.specs.Segments.{SegmentView, IsSegment}
use Rattle.drag_along.specs.Meaning.{Meaning, Means, Faults, combined2, entry}
use Rattle.beating.specs.declared.selections.Selection.TheVariants.{Extend}
use Rattle.beating.specs.Folds.{NumbersInRange}
use Rattle.beating.proofs.FoldLemmas.{numbers_in_range as lawful_numbers_in_range}
use Rattle.drag_along.specs.Lawful.{IsLawful}
use Rattle.beating.specs.Selecting.{selected_meaning}
use Rattle.apl_model.specs.declared.functions.DyaFn.TheVariants as dyadic_fn
use Rattle.apl_model.specs.Evaluation.{Calls}
use Rattle.apl_model.specs.Lift.{fitting_shape}
use Rattle.apl_compile.specs.declared.codes.Op.TheVariants as op
use Rattle.standing.specs.Stand.{Stand, push_on}
use Rattle.standing.specs.Laws.{Takes, FitTo, IsOperandOver}
use Rattle.standing.proofs.StandLemmas.{two_are_joined}
use Rattle.pending_steps.specs.Fits.{IsWidened, AreWidened}
use Rattle.pending_steps.specs.Shapes.{IsArrayEntry}
use Rattle.pending_steps.proofs.ArrayLemmas.{array_entry}

-- an operand and itself, or its extension
operand_over : (store : StoreView) (ns : List ℕ) (s w : SegmentView) → IsSegment s → IsWidened store ns s w → IsOperandOver ns (entry store s) (entry store w)
operand_over store ns s w h (inl same) =
    subst (λ (x : SegmentView). IsOperandOver ns (entry store s) (entry store x)) (sym same.1) (by (entry store s) refl)
  where
    by : (m : Meaning) → entry store s ≡ m → IsOperandOver ns m m
    by (Means a) e = let one : IsArrayEntry store s = array_entry store s a h e in (one.complete, inl (one.shape ∙ same.0, refl))
    by (Faults p) e = refl
operand_over store ns s w h (inr wide) =
    subst (λ (n : Meaning). IsOperandOver ns (entry store s) n) (sym wide.1) (by (entry store s) refl)
  where
    by : (m : Meaning) → entry store s ≡ m → IsOperandOver ns m (selected_meaning (Extend ns) m)
    by (Means a) e = let one : IsArrayEntry store s = array_entry store s a h e in (one.complete, inr (ap size_of one.shape ∙ wide.0, refl))
    by (Faults p) e = refl

fit_to : (store : StoreView) (ns : List ℕ) (left right : SegmentView) → IsSegment left → IsSegment right → fitting_shape left.shape right.shape ≡ Ok ns → FitTo ns (entry store left) (entry store right)
fit_to store ns left right h g fit = by (entry store left) (entry store right) refl refl
  where
    by : (m n : Meaning) → entry store left ≡ m → entry store right ≡ n → FitTo ns m n
    by (Means a) (Means b) e f =
        let one : IsArrayEntry store left = array_entry store left a h e in
        let two : IsArrayEntry store right = array_entry store right b g f in
        ap (λ (xs : List ℕ). fitting_shape xs b.shape) one.shape ∙ ap (λ (xs : List ℕ). fitting_shape left.shape xs) two.shape ∙ fit
    by (Means a) (Faults p) e f = tt
    by (Faults p) (Means b) e f = tt
    by (Faults p) (Faults q) e f = tt

-- the join of both over the shape stands for what evaluation gives
pub joined_step : (f : Dya) (place : Place) (store : StoreView) (ns : List ℕ) (left right wide tall joined : SegmentView) → IsSegment left → IsSegment right → fitting_shape left.shape right.shape ≡ Ok ns → IsWidened store ns left wide → IsWidened store ns right tall → entry store joined ≡ combined2 f place (entry store wide) (entry store tall) → (calls : Calls) (z : Stand) → Takes calls (record { place = place; op = op.Dya (dyadic_fn.Scalar f) }) (push_on (entry store left) (push_on (entry store right) z)) (push_on (entry store joined) z)
joined_step f place store ns left right wide tall joined h g fit l r e calls z =
    subst (λ (m : Meaning). Takes calls (record { place = place; op = op.Dya (dyadic_fn.Scalar f) }) (push_on (entry store left) (push_on (entry store right) z)) (push_on m z)) (sym e)
    (two_are_joined calls f place z ns (entry store left) (entry store right) (entry store wide) (entry store tall) (fit_to store ns left right h g fit) (operand_over store ns left wide h l) (operand_over store ns right tall g r))

pub widened_step : (f : Dya) (place : Place) (store : StoreView) (left right wide tall joined : SegmentView) → AreWidened store left right wide tall → entry store joined ≡ combined2 f place (entry store wide) (entry store tall) → (calls : Calls) (z : Stand) → Takes calls (record { place = place; op = op.Dya (dyadic_fn.Scalar f) }) (push_on (entry store left) (push_on (entry store right) z)) (push_on (entry store joined) z)
widened_step f place store left right wide tall joined w e calls z =
    joined_step f place store w.shape left right wide tall joined w.left_segment w.right_segment w.fit w.left_wide w.right_wide e calls z

-- the numbers of a lawful segment lie in its range
pub numbers_in_range : (store : StoreView) (s : SegmentView) → IsSegment s → IsLawful store s → NumbersInRange s
numbers_in_range store s h l = lawful_numbers_in_range store s h l
