use Rattle.apl_model_laws.proofs.Safe.{statements_are_lawful}
use Rattle.apl_model_laws.proofs.lawful.statements_are_lawful.Goals as goal

pub returns : goal.returns
returns c = statements_are_lawful
