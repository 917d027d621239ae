use Rattle.std.proofs.Common.{◌≡◌, ◌≤◌, ◌*◌, map, length, vec_capacity}
use Rattle.apl_base.specs.Selection.{upward}
use Rattle.made_fns.specs.Lines.{turned_cell}
use Rattle.made_fns.proofs.turns.turn_blocks.Given as goal

-- the blocks so far are turned
abbrev pub invariant-loop-block : goal.invariant-loop-block
invariant-loop-block l =
    (l.cells.items ≡ map (turned_cell l.lengths l.along l.turns l.items) (upward 0 (l.block * l.size)))
    × (length l.items ≤ vec_capacity l.cells)
