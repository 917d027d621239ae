use Rattle.apl_cost_laws.proofs.PlainEnds.{plain_statements_end_well}
use Rattle.apl_cost_laws.proofs.Plains.{plain_expressions_have_values}
use Rattle.apl_cost_laws.proofs.plain.plain_expressions_have_values.Goals as goal

pub returns-clause-expressions : goal.returns-clause-expressions
returns-clause-expressions c = plain_expressions_have_values

pub returns-clause-statements : goal.returns-clause-statements
returns-clause-statements c = plain_statements_end_well
