use Rattle.apl_model_laws.proofs.Scripts.{scripts_have_lawful_items}
use Rattle.apl_model_laws.proofs.lawful.scripts_have_lawful_items.Goals as goal

pub returns : goal.returns
returns c = scripts_have_lawful_items
