use Rattle.apl_model_laws.proofs.Values.{literals_are_lawful}
use Rattle.apl_model_laws.proofs.lawful.literals_are_lawful.Goals as goal

pub returns : goal.returns
returns c = literals_are_lawful
