use Rattle.array_desc.proofs.RunLemmas.{RunFrom}
use Rattle.array_desc.proofs.runs.last_run.Given as goal

abbrev pub invariant-loop-axis : goal.invariant-loop-axis
invariant-loop-axis l = RunFrom l.fn.desc l.axis l.run.outer l.run.length l.run.step
