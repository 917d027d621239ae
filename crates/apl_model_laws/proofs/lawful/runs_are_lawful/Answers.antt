use Rattle.apl_model_laws.proofs.Safe.{runs_are_lawful}
use Rattle.apl_model_laws.proofs.lawful.runs_are_lawful.Goals as goal

pub returns : goal.returns
returns c = runs_are_lawful
