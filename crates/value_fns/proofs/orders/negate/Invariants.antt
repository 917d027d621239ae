use Rattle.std.proofs.Common.{◌≡◌, ◌++◌, map, take, drop, neg_ℤ}
use Rattle.value_fns.proofs.orders.negate.Given as goal

abbrev pub invariant-loop-cell : goal.invariant-loop-cell
invariant-loop-cell l = l.cells ≡ map neg_ℤ (take l.cell-index l.initial.cells) ++ drop l.cell-index l.initial.cells
