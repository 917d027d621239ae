use Rattle.array_desc.proofs.Wholes.{WholeFrom}
use Rattle.array_desc.proofs.steps.are_whole_strides.Given as goal

abbrev pub invariant-loop-axis : goal.invariant-loop-axis
invariant-loop-axis l = WholeFrom l.strides l.lengths l.axis l.behind
