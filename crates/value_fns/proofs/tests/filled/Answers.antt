use Rattle.std.proofs.Common.{◌+◌, ◌∙◌, ap, arith, length}
use Rattle.std.proofs.lemmas.Int.{ints}
use Rattle.std.proofs.lemmas.List.{length_push}
use Rattle.std.proofs.lemmas.List.Elements.{All-push}
use Rattle.apl_base.specs.Number.{IsNumber}
use Rattle.value_fns.proofs.tests.filled.Goals as goal

pub loop-value-preserved : goal.loop-value-preserved
loop-value-preserved c = (
  rw c.in_ok-push.ensures.items (All-push IsNumber _ _ c.loop-value.invariant.0 (record { least = omega (arith, ints); most = omega (arith, ints) })),
  ap length c.in_ok-push.ensures.items ∙ length_push _ _ ∙ ap (λ n. n + 1) c.loop-value.invariant.1,
)
