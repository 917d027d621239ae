use Rattle.value_stack.proofs.NewestLemmas.{safe_at}
use Rattle.selecting_steps.proofs.twos.make_ready.Goals as goal

pub returns-in_ok-settle_entries-clause-safe : goal.returns-in_ok-settle_entries-clause-safe
returns-in_ok-settle_entries-clause-safe c s g = safe_at c.settle_entries.new.stack _ s c.in_ok-settle_entries.ensures.safe g
