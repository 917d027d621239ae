use Rattle.iter_stack.proofs.Walks.{walk-item, length-walk, IsIndex-from_the_end}
use Rattle.iter_stack.proofs.laws.item_laws.Goals as goal

pub returns-clause-item : goal.returns-clause-item
returns-clause-item c = walk-item

pub returns-clause-count : goal.returns-clause-count
returns-clause-count c = length-walk

pub returns-clause-lawful : goal.returns-clause-lawful
returns-clause-lawful c = IsIndex-from_the_end
