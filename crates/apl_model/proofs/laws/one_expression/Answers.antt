use Rattle.apl_model.proofs.Unique.{one_expression}
use Rattle.apl_model.proofs.laws.one_expression.Goals as goal

pub returns : goal.returns
returns c = one_expression
