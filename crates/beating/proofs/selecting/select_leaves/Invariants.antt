use Rattle.beating.proofs.LeafLemmas.{InNodes}
use Rattle.beating.proofs.selecting.select_leaves.Given as goal

abbrev pub invariant-loop-at : goal.invariant-loop-at
invariant-loop-at l = InNodes l.by l.fn.nodes.items l.nodes.items l.at
