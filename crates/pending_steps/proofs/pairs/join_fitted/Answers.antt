use Rattle.std.proofs.lemmas.Result.{IfOk-weaker}
use Rattle.pending_steps.proofs.PairLemmas.{widened_step}
use Rattle.pending_steps.proofs.pairs.join_fitted.Goals as goal

-- src/pairs.rt:24:1
pub returns-clause-step : goal.returns-clause-step
returns-clause-step c =
    let wide = c.widened-wide.result in
    IfOk-weaker c.join_two.result _ _ (λ joined means calls z.
    widened_step c.args.f c.args.place c.args.store.now c.args.operands.left c.args.operands.right wide.left wide.right joined c.widened-wide.ensures.wide (means c.args.store.now) calls z) c.join_two.ensures.meaning
