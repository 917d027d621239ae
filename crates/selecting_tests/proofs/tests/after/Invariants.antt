use Rattle.selecting_tests.specs.Desks.{IsSound}
use Rattle.selecting_tests.proofs.tests.after.Given as goal

abbrev pub invariant-loop-step : goal.invariant-loop-step
invariant-loop-step l = IsSound l.desk
