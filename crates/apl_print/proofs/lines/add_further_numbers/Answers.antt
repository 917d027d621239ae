use Rattle.std.proofs.Common.{string_bytes}
use Rattle.apl_print.proofs.LineTexts.{number_more}
use Rattle.apl_print.proofs.lines.add_further_numbers.Goals as goal

pub loop-number-preserved : goal.loop-number-preserved
loop-number-preserved c =
    number_more _ _ (string_bytes c.push.new.self) _ c.args.numbers.now c.loop-number.number-index c.loop-number-test.true
    c.loop-number.invariant c.in_ok-push.ensures.bytes c.in_ok-add_number.ensures
