use Rattle.apl_model.proofs.Unique.{one_statement}
use Rattle.apl_model.proofs.laws.one_statement.Goals as goal

pub returns : goal.returns
returns c = one_statement
