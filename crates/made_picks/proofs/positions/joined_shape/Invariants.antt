use Rattle.made_picks.proofs.PositionLemmas.{JoinedTo}
use Rattle.made_picks.proofs.positions.joined_shape.Given as goal

-- the shapes so far
abbrev pub invariant-loop-axis : goal.invariant-loop-axis
invariant-loop-axis l = JoinedTo l.axes l.joined.items l.positions l.axis
