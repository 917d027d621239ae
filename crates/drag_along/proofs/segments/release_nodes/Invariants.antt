use Rattle.std.specs.Vec.Iter.{into_iter_items}
use Rattle.drag_along.specs.Nodes.{named_by_nodes}
use Rattle.drag_along.proofs.HoldingLemmas.{LetGo}
use Rattle.drag_along.proofs.segments.release_nodes.Given as goal

abbrev pub invariant-loop-node : goal.invariant-loop-node
invariant-loop-node l = LetGo l.fn.store l.store (named_by_nodes l.fn.nodes.items) (named_by_nodes (into_iter_items l.node-iterator))
