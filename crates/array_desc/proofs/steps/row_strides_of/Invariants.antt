use Rattle.std.proofs.Common.{◌≡◌, length, map, drop, ◌++◌}
use Rattle.std.specs.Int.{int_wrap}
use mir.Syntax.{w128}
use Rattle.array_desc.specs.Steps.{row_strides}
use Rattle.array_desc.proofs.steps.row_strides_of.Given as goal

abbrev pub invariant-loop-axis : goal.invariant-loop-axis
invariant-loop-axis l =
    (l.strides.items ++ map (int_wrap w128) (row_strides (drop l.axis l.lengths)) ≡ map (int_wrap w128) (row_strides l.lengths)) × (length l.strides.items ≡ l.axis) × (l.strides.capacity ≡ 8)
