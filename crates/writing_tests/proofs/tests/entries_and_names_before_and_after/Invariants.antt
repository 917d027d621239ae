use Rattle.writing_tests.specs.Desks.{IsSound}
use Rattle.writing_tests.proofs.tests.entries_and_names_before_and_after.Given as goal

abbrev pub invariant-loop-deed : goal.invariant-loop-deed
invariant-loop-deed g l = IsSound l.desk
