use Rattle.apl_model_laws.proofs.Spent.{functions_spend_all}
use Rattle.apl_model_laws.proofs.turns.functions_spend_all.Goals as goal

pub returns : goal.returns
returns c = functions_spend_all
