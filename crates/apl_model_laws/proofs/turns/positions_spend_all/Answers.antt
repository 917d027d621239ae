use Rattle.apl_model_laws.proofs.Spent.{positions_spend_all}
use Rattle.apl_model_laws.proofs.turns.positions_spend_all.Goals as goal

pub returns : goal.returns
returns c = positions_spend_all
