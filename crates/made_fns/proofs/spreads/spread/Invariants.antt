use Rattle.std.proofs.Common.{◌≡◌, ◌≤◌, map, vec_capacity}
use Rattle.apl_base.specs.Selection.{upward}
use Rattle.made_fns.specs.Lines.{spread_cell}
use Rattle.made_fns.proofs.spreads.spread.Given as goal

-- the elements so far
abbrev pub invariant-loop-place : goal.invariant-loop-place
invariant-loop-place l =
    (l.cells.items ≡ map (spread_cell l.lengths l.along l.axis l.sources l.items l.blank) (upward 0 l.place))
    × (l.size ≤ vec_capacity l.cells)
