use Rattle.beating.proofs.EndLemmas.{AtEnd}
use Rattle.beating.proofs.subscripts.remove_axes.Given as goal

abbrev pub invariant-loop-axis : goal.invariant-loop-axis
invariant-loop-axis l = AtEnd l.items l.fn.desc l.desc l.axis
