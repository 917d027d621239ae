use Rattle.drag_along.specs.Nodes.{named_by_leaf}
use Rattle.drag_along.specs.Segments.{named_by}
use Rattle.writing_tests.proofs.DeskLemmas.{hand_counted}
use Rattle.writing_tests.proofs.desks.Desk.push_leaf.Goals as goal

pub put-requires-clause-segment : goal.put-requires-clause-segment
put-requires-clause-segment c = c.in_ok-segment.ensures.lawful c.args.self.now.store c.requires.leaf c.leaf_interval-range.ensures.within

pub put-requires-clause-beside : goal.put-requires-clause-beside
put-requires-clause-beside c =
    hand_counted c.args.self.now.store c.args.self.now.variables.names c.args.self.now.stack (named_by_leaf c.args.leaf) (named_by c.in_ok-segment.segment) c.in_ok-segment.ensures.leaves c.requires.beside
