use Rattle.apl_model_laws.proofs.Safe.{subscripts_are_lawful}
use Rattle.apl_model_laws.proofs.lawful.subscripts_are_lawful.Goals as goal

pub returns : goal.returns
returns c = subscripts_are_lawful
