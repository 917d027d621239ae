use Rattle.beating.proofs.PassLemmas.{InPass}
use Rattle.beating.proofs.subscripts.select_parts.Given as goal

abbrev pub invariant-loop-axis : goal.invariant-loop-axis
invariant-loop-axis l = InPass l.longer l.items l.fn.desc l.desc l.axis
