use Rattle.pending_steps.proofs.LiteralLemmas.{beside_made, literal_step}
use Rattle.drag_along.specs.Nodes.{named_by_leaf}
use Rattle.pending_steps.proofs.literals.push_stored.Goals as goal

pub push_leaf-requires-clause-lawful : goal.push_leaf-requires-clause-lawful
push_leaf-requires-clause-lawful c =
    (beside_made c.args.store.now c.stored_literal.new.store (named_by_leaf c.in_ok-leaf.leaf) c.args.stack.now c.in_ok-leaf.ensures.follows c.requires.lawful c.requires.held).0

pub returns-clause-step : goal.returns-clause-step
returns-clause-step c place =
    literal_step c.args.literal.now place c.args.store.now c.stored_literal.new.store c.args.stack.now c.push_leaf.new.stack c.in_ok-leaf.leaf
    (beside_made c.args.store.now c.stored_literal.new.store (named_by_leaf c.in_ok-leaf.leaf) c.args.stack.now c.in_ok-leaf.ensures.follows c.requires.lawful c.requires.held).1
    c.in_ok-push_leaf.ensures.puts c.in_ok-leaf.ensures.stands
