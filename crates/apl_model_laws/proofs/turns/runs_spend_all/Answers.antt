use Rattle.apl_model_laws.proofs.Spent.{runs_spend_all}
use Rattle.apl_model_laws.proofs.turns.runs_spend_all.Goals as goal

pub returns : goal.returns
returns c = runs_spend_all
