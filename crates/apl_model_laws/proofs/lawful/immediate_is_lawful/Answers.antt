use Rattle.apl_model_laws.proofs.Scripts.{immediate_is_lawful}
use Rattle.apl_model_laws.proofs.lawful.immediate_is_lawful.Goals as goal

pub returns : goal.returns
returns c = immediate_is_lawful
