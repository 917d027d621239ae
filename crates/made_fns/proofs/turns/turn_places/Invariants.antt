use Rattle.std.proofs.Common.{◌≡◌, ◌≤◌, map, length, vec_capacity}
use Rattle.apl_base.specs.Selection.{upward}
use Rattle.made_fns.specs.Lines.{turned_cell}
use Rattle.made_fns.proofs.turns.turn_places.Given as goal

-- the elements so far are turned
abbrev pub invariant-loop-place : goal.invariant-loop-place
invariant-loop-place l =
    (l.cells.items ≡ map (turned_cell l.lengths l.along l.turns l.items) (upward 0 l.place))
    × (length l.items ≤ vec_capacity l.cells)
