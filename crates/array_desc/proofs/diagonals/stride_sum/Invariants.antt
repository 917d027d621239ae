use Rattle.std.proofs.Common.{◌≡◌, ◌+ℤ◌, drop}
use Rattle.std.specs.Int.{int_wrap}
use mir.Syntax.{w128}
use Rattle.array_desc.specs.Steps.{stride_at}
use Rattle.array_desc.proofs.diagonals.stride_sum.Given as goal

-- the sum so far and what the other axes add
abbrev pub invariant-loop-j : goal.invariant-loop-j
invariant-loop-j l =
    int_wrap w128 (l.sum +ℤ stride_at l.becomes (drop l.j l.axes) (drop l.j l.strides)) ≡ int_wrap w128 (stride_at l.becomes l.axes l.strides)
