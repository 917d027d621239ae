use Rattle.indexing_steps.proofs.OperandLemmas.{AreRead}
use Rattle.indexing_steps.proofs.operands.positions_below.Given as goal

abbrev pub invariant-loop-there : goal.invariant-loop-there
invariant-loop-there l = AreRead l.mask l.there-index l.stack l.end l.at l.positions.items
