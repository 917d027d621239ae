use Rattle.std.proofs.Common.{◌≡◌, max, drop}
use Rattle.apl_base.specs.Selection.{axes_rank}
use Rattle.array_desc.proofs.diagonals.rank_of.Given as goal

abbrev pub invariant-loop-axis : goal.invariant-loop-axis
invariant-loop-axis l = max l.rank (axes_rank (drop l.axis-index l.axes)) ≡ axes_rank l.axes
