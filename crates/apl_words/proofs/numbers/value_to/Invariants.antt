use Rattle.std.proofs.Common.{drop}
use Rattle.apl_words.proofs.Digits.{Reads}
use Rattle.apl_words.proofs.numbers.value_to.Given as goal

abbrev pub invariant-loop-digit : goal.invariant-loop-digit
invariant-loop-digit l = Reads l.most l.number l.fn.text (drop l.digit-index l.fn.text)
