use Rattle.std.proofs.Common.{◌≡◌, pos, ◌*ℤ◌, drop}
use Rattle.std.specs.Int.{int_wrap}
use mir.Syntax.{w128}
use Rattle.apl_base.specs.Array.{size_of}
use Rattle.array_desc.proofs.steps.size_behind.Given as goal

-- the product so far and that of the other lengths
abbrev pub invariant-loop-n : goal.invariant-loop-n
invariant-loop-n l =
    int_wrap w128 (l.size *ℤ pos (size_of (drop l.n-index l.lengths))) ≡ int_wrap w128 (pos (size_of l.lengths))
