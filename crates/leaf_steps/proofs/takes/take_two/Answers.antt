use Rattle.leaf_steps.proofs.TakingLemmas.{none_taken, one_taken, two_taken}
use Rattle.leaf_steps.proofs.takes.take_two.Goals as goal

pub returns-clause-takes : goal.returns-clause-takes
returns-clause-takes c =
    two_taken c.args.store.now c.take_safe.new.store c.take_safe-2.new.store c.args.stack.now c.take_safe.new.stack c.take_safe-2.new.stack (record { left = c.in_ok-left.left; right = c.in_ok-right.right }) c.requires.held
    (one_taken c.args.store.now c.settle_entries.new.store c.take_safe.new.store c.args.stack.now c.settle_entries.new.stack c.take_safe.new.stack c.in_ok-left.left
    (none_taken c.args.store.now c.settle_entries.new.store c.args.stack.now c.settle_entries.new.stack c.in_ok-settle_entries.ensures.arrays c.settle_entries.ensures.means c.settle_entries.ensures.moves)
    c.in_ok-left.ensures.takes)
    c.in_ok-right.ensures.takes
