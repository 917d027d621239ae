use Rattle.apl_base.proofs.Sizes.{size_round}
use Rattle.made_fns.proofs.turns.size_within.Goals as goal

pub loop-n-preserved : goal.loop-n-preserved
loop-n-preserved c =
    size_round _ _ _ _ _ c.loop-n-test.true c.loop-n.invariant c.saturating_mul.ensures c.min-size.ensures
