use Rattle.name_table.proofs.PlaceLemmas.{NoneFrom}
use Rattle.name_table.proofs.names.found.Given as goal

abbrev pub invariant-loop-level : goal.invariant-loop-level
invariant-loop-level l = NoneFrom l.frames l.name l.level
