use Rattle.iter_stack.proofs.Walks.{length-walk}
use Rattle.iter_stack.proofs.odometer.Odometer.new.Goals as goal

pub returns-clause-count : goal.returns-clause-count
returns-clause-count c = rw (c.copy.ensures) (length-walk c.args.back c.args.shape.now)

pub returns-clause-bound : goal.returns-clause-bound
returns-clause-bound c = rw (returns-clause-count c, ← c.size.ensures.value) c.size.ensures.bound
