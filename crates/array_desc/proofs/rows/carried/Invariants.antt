use Rattle.array_desc.proofs.CarryLemmas.{CarriedTo}
use Rattle.array_desc.proofs.rows.carried.Given as goal

abbrev pub invariant-loop-axis : goal.invariant-loop-axis
invariant-loop-axis l = CarriedTo l.strides l.lengths l.fn.index l.index l.axis l.fn.start l.number
