use Rattle.apl_model_laws.proofs.Safe.{replacements_are_lawful}
use Rattle.apl_model_laws.proofs.lawful.replacements_are_lawful.Goals as goal

pub returns : goal.returns
returns c = replacements_are_lawful
