use Rattle.std.proofs.Common.{◌≡◌}
use Rattle.drag_along.specs.Nodes.{functions_in}
use Rattle.drag_along.specs.Lawful.{IsLawful}
use Rattle.forcing_tests.proofs.segments.chain.Given as goal

abbrev pub invariant-loop-k : goal.invariant-loop-k
invariant-loop-k l = (l.s.shape ≡ l.shape) × (functions_in l.s.nodes ≡ l.k) × IsLawful l.store l.s
