use Rattle.std.proofs.Common.{◌≡◌, ◌+◌, drop}
use Rattle.drag_along.specs.Nodes.{functions_in}
use Rattle.drag_along.proofs.segments.Segment.functions.Given as goal

abbrev pub invariant-loop-node : goal.invariant-loop-node
invariant-loop-node l = l.count + functions_in (drop l.node-index l.node-items) ≡ functions_in l.node-items
