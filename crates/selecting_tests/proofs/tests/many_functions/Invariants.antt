use Rattle.selecting_tests.specs.Desks.{IsSound}
use Rattle.selecting_tests.proofs.tests.many_functions.Given as goal

abbrev pub invariant-loop : goal.invariant-loop
invariant-loop g l = IsSound l.desk
