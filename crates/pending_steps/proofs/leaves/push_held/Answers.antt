use Rattle.std.proofs.lemmas.Result.{IfOk-weaker}
use Rattle.drag_along.specs.Nodes.{named_by_leaf}
use Rattle.pending_steps.proofs.LiteralLemmas.{beside_made}
use Rattle.pending_steps.proofs.HeldLemmas.{held_puts}
use Rattle.pending_steps.proofs.leaves.push_held.Goals as goal

pub push_leaf-requires-clause-lawful : goal.push_leaf-requires-clause-lawful
push_leaf-requires-clause-lawful c =
    (beside_made c.args.store.now c.held-held.new.store (named_by_leaf c.args.leaf.now) c.args.stack.now c.held-held.ensures.follows c.requires.lawful c.requires.held).0

pub returns-clause-puts : goal.returns-clause-puts
returns-clause-puts c =
    IfOk-weaker c.push_leaf.result _ _ (λ _ puts. held_puts c.args.store.now c.held-held.new.store c.args.stack.now c.push_leaf.new.stack c.args.leaf.now c.held-held.result c.requires.lawful c.requires.held c.held-held.ensures.same c.held-held.ensures.stands c.held-held.ensures.follows puts) c.push_leaf.ensures.puts
