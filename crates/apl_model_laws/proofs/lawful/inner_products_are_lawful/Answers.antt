use Rattle.apl_model_laws.proofs.Safe.{inner_products_are_lawful}
use Rattle.apl_model_laws.proofs.lawful.inner_products_are_lawful.Goals as goal

pub returns : goal.returns
returns c = inner_products_are_lawful
