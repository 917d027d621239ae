use Rattle.apl_model_laws.proofs.Safe.{outer_products_are_lawful}
use Rattle.apl_model_laws.proofs.lawful.outer_products_are_lawful.Goals as goal

pub returns : goal.returns
returns c = outer_products_are_lawful
