use Rattle.std.proofs.Common.{string_bytes}
use Rattle.apl_print.proofs.LineTexts.{numbers_bytes}
use Rattle.apl_print.proofs.Utf8.{on-ok}
use Rattle.apl_print.proofs.lines.add_numbers.Goals as goal

pub returns : goal.returns
returns c = on-ok c.add_further_numbers.result _ _ (numbers_bytes _ (string_bytes c.add_number.new.text) _ c.in-Some.first.now c.in-Some.others.now c.args.numbers.now c.in-Some.ensures.cases.0 c.in_ok-add_number.ensures) c.add_further_numbers.ensures
