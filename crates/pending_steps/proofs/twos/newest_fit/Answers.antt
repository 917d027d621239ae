use Rattle.std.proofs.Common.{◌≡◌, ℕ, List, Err, Some, sym, ap, subst, ◌∙◌, arith}
use Rattle.std.specs.Prelude.{IfErr, slice_get, length, ◌-◌}
use Rattle.std.proofs.lemmas.Result.{IfOk-weaker}
use Rattle.drag_along.specs.Segments.{SegmentView}
use Rattle.apl_model.specs.Lift.{fitting_shape}
use Rattle.pending_steps.specs.declared.fits.Fit.{Fit}
use Rattle.pending_steps.specs.Fits.{IsFit}
use Rattle.pending_steps.specs.Shapes.{newest_shape, second_shape}
use Rattle.pending_steps.proofs.EndLemmas.{end_shape}
use Rattle.pending_steps.proofs.twos.newest_fit.Goals as goal

left_is : (c : goal.After-shapes_fit) → c.behind-stack.inside.shape ≡ newest_shape c.args.stack.now
left_is c =
    let at : slice_get c.args.stack.now (length c.args.stack.now - 1) ≡ Some c.entry.result.now =
    ap (λ (k : ℕ). slice_get c.args.stack.now (k - 1)) (sym c.len-newest.ensures.value) ∙ c.entry.ensures in
    ap (λ (s : SegmentView). s.shape) c.behind-stack.view_is ∙ sym (end_shape c.args.stack.now (length c.args.stack.now - 1) c.entry.result.now at)

right_is : (c : goal.After-shapes_fit) → c.behind-stack-2.inside.shape ≡ second_shape c.args.stack.now
right_is c =
    let index : length c.args.stack.now - 2 ≡ c.len-newest.result - 1 - 1 = omega (arith, c.len-newest.ensures.value) in
    let at : slice_get c.args.stack.now (length c.args.stack.now - 2) ≡ Some c.entry-2.result.now =
    ap (λ (k : ℕ). slice_get c.args.stack.now k) index ∙ c.entry-2.ensures in
    ap (λ (s : SegmentView). s.shape) c.behind-stack-2.view_is ∙ sym (end_shape c.args.stack.now (length c.args.stack.now - 2) c.entry-2.result.now at)

pub returns-clause-fits : goal.returns-clause-fits
returns-clause-fits c =
    IfOk-weaker c.shapes_fit.result _ _ (λ (fit : Fit) h.
    subst (λ (ns : List ℕ). IsFit (newest_shape c.args.stack.now) ns fit) (right_is c)
    (subst (λ (ns : List ℕ). IsFit ns c.behind-stack-2.inside.shape fit) (left_is c) h)) c.shapes_fit.ensures.fits

pub returns-clause-error : goal.returns-clause-error
returns-clause-error c =
    subst (λ (ns : List ℕ). IfErr c.shapes_fit.result (λ kind. fitting_shape (newest_shape c.args.stack.now) ns ≡ Err kind)) (right_is c)
    (subst (λ (ns : List ℕ). IfErr c.shapes_fit.result (λ kind. fitting_shape ns c.behind-stack-2.inside.shape ≡ Err kind)) (left_is c) c.shapes_fit.ensures.error)
