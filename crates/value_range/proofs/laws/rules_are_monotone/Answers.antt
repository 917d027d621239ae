use Rattle.value_range.specs.Laws.Functions.{ranged1-sharper, ranged2-sharper}
use Rattle.value_range.proofs.laws.rules_are_monotone.Goals as goal

pub returns-clause-one_argument : goal.returns-clause-one_argument
returns-clause-one_argument c = ranged1-sharper

pub returns-clause-two_arguments : goal.returns-clause-two_arguments
returns-clause-two_arguments c = ranged2-sharper
