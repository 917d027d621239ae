use Rattle.std.proofs.Common.{◌+◌, ◌*◌, arith}
use Rattle.apl_base.proofs.Numbers.{IsNumber-small}
use Rattle.drag_along.specs.Nodes.{named_by_leaf}
use Rattle.writing_tests.proofs.DeskLemmas.{came_beside}
use Rattle.writing_tests.proofs.desks.Desk.set.Goals as goal

pub line-requires-clause-numbers : goal.line-requires-clause-numbers
line-requires-clause-numbers c = λ j below. IsNumber-small (1 + 1 * j) (omega (arith, below, c.ranges.count))

pub give-requires-clause-beside : goal.give-requires-clause-beside
give-requires-clause-beside c =
    came_beside c.args.self.now.store c.own.new.store c.args.self.now.variables.names c.args.self.now.stack (named_by_leaf c.in_ok-leaf.leaf) c.requires c.in_ok-leaf.ensures.follows
