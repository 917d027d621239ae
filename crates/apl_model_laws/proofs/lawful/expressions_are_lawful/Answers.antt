use Rattle.apl_model_laws.proofs.Safe.{expressions_are_lawful}
use Rattle.apl_model_laws.proofs.lawful.expressions_are_lawful.Goals as goal

pub returns : goal.returns
returns c = expressions_are_lawful
