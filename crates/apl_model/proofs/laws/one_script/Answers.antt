use Rattle.apl_model.proofs.Unique.{one_script}
use Rattle.apl_model.proofs.laws.one_script.Goals as goal

pub returns : goal.returns
returns c = one_script
