use Rattle.apl_model_laws.proofs.Safe.{functions_are_lawful}
use Rattle.apl_model_laws.proofs.lawful.functions_are_lawful.Goals as goal

pub returns : goal.returns
returns c = functions_are_lawful
