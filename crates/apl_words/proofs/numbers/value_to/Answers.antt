use Rattle.std.proofs.Common.{rules, sym}
use Rattle.apl_words.proofs.Digits.{too_great}
use Rattle.apl_words.proofs.numbers.value_to.Goals as goal

pub returns-then-number-most-clause-value : goal.returns-then-number-most-clause-value
returns-then-number-most-clause-value c =
    sym (too_great c.args.most c.loop-digit.number c.loop-digit.digit-index 0 c.args.text.now c.loop-digit.invariant (search rules) (search rules))
