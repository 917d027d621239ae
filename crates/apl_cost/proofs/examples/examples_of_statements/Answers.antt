use Rattle.std.specs.Prelude.{refl}
use Rattle.apl_cost.proofs.examples.examples_of_statements.Goals as goal

pub returns-clause-statements : goal.returns-clause-statements
returns-clause-statements c = refl

pub returns-clause-calls : goal.returns-clause-calls
returns-clause-calls c = refl
