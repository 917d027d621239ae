use Rattle.apl_model_laws.proofs.Onwards.{runs_go_on}
use Rattle.apl_model_laws.proofs.longer.runs_go_on.Goals as goal

pub returns : goal.returns
returns c = runs_go_on
