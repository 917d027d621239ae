use Rattle.apl_model_laws.proofs.Spent.{expressions_spend_all}
use Rattle.apl_model_laws.proofs.turns.expressions_spend_all.Goals as goal

pub returns : goal.returns
returns c = expressions_spend_all
