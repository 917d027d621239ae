use Rattle.std.proofs.Common.{◌≡◌, ◌++◌, map, take, drop, pos, int_lt}
use Rattle.apl_base.specs.Scalar.{truth}
use Rattle.value_fns.proofs.memberships.test_below.Given as goal

abbrev pub invariant-loop-cell : goal.invariant-loop-cell
invariant-loop-cell l = l.cells ≡ map (λ z. truth (int_lt z (pos l.bound))) (take l.cell-index l.initial.cells) ++ drop l.cell-index l.initial.cells
