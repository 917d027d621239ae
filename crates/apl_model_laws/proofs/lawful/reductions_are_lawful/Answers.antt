use Rattle.apl_model_laws.proofs.Safe.{reductions_are_lawful}
use Rattle.apl_model_laws.proofs.lawful.reductions_are_lawful.Goals as goal

pub returns : goal.returns
returns c = reductions_are_lawful
