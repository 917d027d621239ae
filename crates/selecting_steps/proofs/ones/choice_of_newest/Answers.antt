use Rattle.std.proofs.Common.{◌≡◌, ◌-◌, ℕ, ℤ, List, length, Some, sym, ap, subst, ◌∙◌}
use Rattle.std.specs.Prelude.{IfErr, slice_get}
use Rattle.std.proofs.lemmas.Int.{to_z-of_z}
use mir.Syntax.{w128}
use Rattle.drag_along.specs.Segments.{SegmentView}
use Rattle.apl_model.specs.Evaluation.{monadic_value}
use Rattle.pending_steps.proofs.EndLemmas.{end_shape}
use Rattle.selection_choices.specs.Choices.{Errs}
use Rattle.selecting_steps.proofs.ones.choice_of_newest.Goals as goal

pub returns-clause-refused : goal.returns-clause-refused
returns-clause-refused c =
    let at : slice_get c.args.stack.now (length c.args.stack.now - 1) ≡ Some c.entry.result.now =
    ap (λ (k : ℕ). slice_get c.args.stack.now (k - 1)) (sym c.len-newest.ensures.value) ∙ c.entry.ensures in
    let shape = ap (λ (s : SegmentView). s.shape) c.behind-stack.view_is ∙ sym (end_shape c.args.stack.now (length c.args.stack.now - 1) c.entry.result.now at) in
    subst (λ (ns : List ℕ). IfErr c.choose_one.result (Errs (monadic_value c.args.origin c.args.f) ns)) shape
    (subst (λ (o : ℤ). IfErr c.choose_one.result (Errs (monadic_value o c.args.f) c.behind-stack.inside.shape)) (to_z-of_z w128 c.args.origin c.ranges.origin) c.choose_one.ensures.refused)
