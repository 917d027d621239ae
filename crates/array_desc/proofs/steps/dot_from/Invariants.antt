use Rattle.std.proofs.Common.{◌≡◌, ◌+ℤ◌, drop}
use Rattle.std.specs.Int.{int_wrap}
use mir.Syntax.{w128}
use Rattle.array_desc.specs.Desc.{dot}
use Rattle.array_desc.proofs.steps.dot_from.Given as goal

-- the sum so far and what the other axes add
abbrev pub invariant-loop-axis : goal.invariant-loop-axis
invariant-loop-axis l =
    int_wrap w128 (l.sum +ℤ dot (drop l.axis l.strides) (drop l.axis l.index)) ≡ int_wrap w128 (l.base +ℤ dot l.strides l.index)
