use Rattle.std.proofs.Common.{List, ℕ, inl, refl, ap, ◌∙◌}
use Rattle.std.proofs.lemmas.Result.{IfOk-weaker}
use Rattle.apl_model.specs.Lift.{fitting_shape}
use Rattle.pending_laws.proofs.JoinLemmas.{fitting-same}
use Rattle.pending_steps.specs.Fits.{AreWidened}
use Rattle.pending_steps.proofs.PairLemmas.{widened_step}
use Rattle.pending_steps.proofs.pairs.join_alike.Goals as goal

pub returns-clause-step : goal.returns-clause-step
returns-clause-step c =
    let left = c.args.operands.left in
    let right = c.args.operands.right in
    let wide : AreWidened c.args.store.now left right left right = record {
      shape = right.shape;
      left_segment = c.functions.ensures.segment;
      right_segment = c.functions-2.ensures.segment;
      fit = ap (λ (ns : List ℕ). fitting_shape ns right.shape) c.requires.alike ∙ fitting-same right.shape;
      left_wide = inl (c.requires.alike, refl);
      right_wide = inl (refl, refl);
    } in
    IfOk-weaker c.join_two.result _ _ (λ joined means calls z.
    widened_step c.args.f c.args.place c.args.store.now left right left right joined wide (means c.args.store.now) calls z) c.join_two.ensures.meaning
