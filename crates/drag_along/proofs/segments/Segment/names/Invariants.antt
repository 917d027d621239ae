use Rattle.std.proofs.Common.{◌≡◌, drop}
use Rattle.drag_along.specs.Nodes.{named_by_nodes}
use Rattle.drag_along.proofs.segments.Segment.names.Given as goal

abbrev pub invariant-loop-node : goal.invariant-loop-node
invariant-loop-node l = named_by_nodes (drop l.node-index l.node-items) l.owner ≡ named_by_nodes l.node-items l.owner
