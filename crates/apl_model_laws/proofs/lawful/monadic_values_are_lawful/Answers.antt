use Rattle.apl_model_laws.proofs.Safe.{monadic_values_are_lawful}
use Rattle.apl_model_laws.proofs.lawful.monadic_values_are_lawful.Goals as goal

pub returns : goal.returns
returns c = monadic_values_are_lawful
