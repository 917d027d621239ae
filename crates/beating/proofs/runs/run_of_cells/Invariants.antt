use Rattle.beating.proofs.RunLemmas.{Rising}
use Rattle.beating.proofs.runs.run_of_cells.Given as goal

abbrev pub invariant-loop-j : goal.invariant-loop-j
invariant-loop-j l = Rising l.fn.store l.store l.owner l.desc l.from l.step l.last l.j
