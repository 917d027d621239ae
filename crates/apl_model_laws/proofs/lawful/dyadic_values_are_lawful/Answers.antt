use Rattle.apl_model_laws.proofs.Safe.{dyadic_values_are_lawful}
use Rattle.apl_model_laws.proofs.lawful.dyadic_values_are_lawful.Goals as goal

pub returns : goal.returns
returns c = dyadic_values_are_lawful
