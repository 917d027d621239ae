use Rattle.name_table.proofs.PlaceLemmas.{NoneFrom}
use Rattle.name_table.proofs.names.innermost.Given as goal

abbrev pub invariant-loop-at : goal.invariant-loop-at
invariant-loop-at l = NoneFrom l.frames l.name l.at
