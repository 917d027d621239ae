use Rattle.made_picks.proofs.PositionLemmas.{AxesTo}
use Rattle.made_picks.proofs.positions.all_in_axes.Given as goal

-- those so far lie in their axes
abbrev pub invariant-loop-axis : goal.invariant-loop-axis
invariant-loop-axis l = AxesTo l.fn.store l.store l.axes l.positions l.origin l.axis
