use Rattle.apl_model_laws.proofs.Onwards.{functions_go_on}
use Rattle.apl_model_laws.proofs.longer.functions_go_on.Goals as goal

pub returns : goal.returns
returns c = functions_go_on
