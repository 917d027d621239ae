use Rattle.e_machine.proofs.RowLemmas.{FilledTo}
use Rattle.made_picks.proofs.reads.fill_along.Given as goal

abbrev pub invariant-loop-slot : goal.invariant-loop-slot
invariant-loop-slot l = FilledTo l.from l.step l.into l.number l.slot-index
