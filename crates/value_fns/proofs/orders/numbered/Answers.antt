use Rattle.std.proofs.Common.{arith}
use Rattle.std.proofs.lemmas.Int.{ints}
use Rattle.value_fns.proofs.Ordered.{placed-step}
use Rattle.value_fns.proofs.orders.numbered.Goals as goal

pub loop-place-preserved : goal.loop-place-preserved
loop-place-preserved c =
    placed-step c.args.cells.now _ _ c.loop-place.place _ (omega arith) (omega (arith, ints)) c.loop-place.invariant c.in_ok-push.ensures.items
