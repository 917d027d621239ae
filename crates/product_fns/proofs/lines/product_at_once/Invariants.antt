use Rattle.std.proofs.Common.{length}
use Rattle.product_fns.proofs.PairLemmas.{CombinedFrom, pairs_by}
use Rattle.product_fns.proofs.lines.product_at_once.Given as goal

-- the pairs from a place on were combined
abbrev pub invariant-loop-k : goal.invariant-loop-k
invariant-loop-k g l = CombinedFrom g.F.ScalarRow.function (pairs_by g.G.ScalarRow.function l.left_kind l.left l.right_kind l.right) (length l.right) l.k l.value

abbrev pub decreases-loop-k : goal.decreases-loop-k
decreases-loop-k g l = l.k
