use Rattle.apl_model.proofs.Rows.{one_stop}
use Rattle.apl_model.proofs.laws.one_stop.Goals as goal

pub returns : goal.returns
returns c = one_stop
