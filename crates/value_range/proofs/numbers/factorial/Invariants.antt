use Rattle.std.proofs.Common.{◌≡◌, pos}
use Rattle.apl_base.specs.Scalar.{factorial}
use Rattle.value_range.proofs.numbers.factorial.Given as goal

abbrev pub invariant-loop-k : goal.invariant-loop-k
invariant-loop-k l = l.product ≡ pos (factorial l.k)
