use Rattle.apl_model_laws.proofs.Spent.{statements_spend_all}
use Rattle.apl_model_laws.proofs.turns.statements_spend_all.Goals as goal

pub returns : goal.returns
returns c = statements_spend_all
