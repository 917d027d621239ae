use Rattle.apl_model_laws.proofs.Safe.{positions_are_lawful}
use Rattle.apl_model_laws.proofs.lawful.positions_are_lawful.Goals as goal

pub returns : goal.returns
returns c = positions_are_lawful
