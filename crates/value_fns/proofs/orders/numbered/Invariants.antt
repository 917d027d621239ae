use Rattle.std.proofs.Common.{◌≡◌, take}
use Rattle.value_fns.specs.Placed.{placed_from}
use Rattle.value_fns.proofs.orders.numbered.Given as goal

abbrev pub invariant-loop-place : goal.invariant-loop-place
invariant-loop-place l = l.placed.items ≡ placed_from 0 (take l.place l.cells)
