use Rattle.std.proofs.Common.{arith}
use Rattle.std.proofs.lemmas.Int.{ints}
use Rattle.std.proofs.lemmas.List.Elements.{All-push}
use Rattle.apl_base.specs.Number.{IsNumber}
use Rattle.store_use.proofs.tests.filled.Goals as goal

pub loop-value-preserved : goal.loop-value-preserved
loop-value-preserved c =
    rw c.in_ok-push.ensures.items (All-push IsNumber _ _ c.loop-value.invariant (record { least = omega (arith, ints); most = omega (arith, ints) }))
