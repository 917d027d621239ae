use Rattle.value_range.proofs.Nested.{within_itself, within_within}
use Rattle.value_range.proofs.laws.intervals_nest.Goals as goal

pub returns-clause-reflexive : goal.returns-clause-reflexive
returns-clause-reflexive c = within_itself

pub returns-clause-transitive : goal.returns-clause-transitive
returns-clause-transitive c = within_within
