use Rattle.std.proofs.Common.{arith, ap, sym, subst, ◌∙◌, length}
use Rattle.std.proofs.lemmas.Int.{ints}
use Rattle.std.proofs.lemmas.List.{length_push}
use Rattle.std.proofs.lemmas.List.Elements.{All-push}
use Rattle.apl_base.specs.Number.{IsNumber}
use Rattle.beating.proofs.RunLemmas.{number_is}
use Rattle.selection_tests.proofs.runs.filled.Goals as goal

pub loop-number-preserved : goal.loop-number-preserved
loop-number-preserved c =
    let n : IsNumber c.clamp.result = record { least = omega (arith, ints); most = omega (arith, ints) } in
    record {
      numbers = rw c.in_ok-push.ensures.items (All-push IsNumber _ _ c.loop-number.invariant.numbers (subst IsNumber (sym (number_is c.clamp.result n)) n));
      count = omega (arith, ap length c.in_ok-push.ensures.items ∙ length_push _ _, c.loop-number.invariant.count);
    }
