use Rattle.apl_read.proofs.Digits.{AreRead}
use Rattle.apl_read.proofs.numbers.magnitude.Given as goal

abbrev pub invariant-loop-c : goal.invariant-loop-c
invariant-loop-c l = AreRead l.digits l.c-index l.value
