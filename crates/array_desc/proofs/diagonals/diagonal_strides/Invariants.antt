use Rattle.std.proofs.Common.{◌≡◌, ◌-◌, ◌++◌, length, map}
use Rattle.std.specs.Int.{int_wrap}
use mir.Syntax.{w128}
use Rattle.apl_base.specs.Selection.{upward}
use Rattle.array_desc.specs.Steps.{stride_at}
use Rattle.array_desc.proofs.diagonals.diagonal_strides.Given as goal

abbrev pub invariant-loop-axis : goal.invariant-loop-axis
invariant-loop-axis l =
    (l.sums.items ++ map (λ r. int_wrap w128 (stride_at r l.axes l.strides)) (upward l.axis (l.rank - l.axis)) ≡ map (λ r. int_wrap w128 (stride_at r l.axes l.strides)) (upward 0 l.rank)) × (length l.sums.items ≡ l.axis) × (l.sums.capacity ≡ 8)
