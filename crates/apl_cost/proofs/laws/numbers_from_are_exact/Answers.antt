use Rattle.apl_cost.proofs.Counting.{numbers_from_are_exact}
use Rattle.apl_cost.proofs.laws.numbers_from_are_exact.Goals as goal

pub returns : goal.returns
returns c = numbers_from_are_exact
