use Rattle.apl_model.proofs.Unique.{one_command}
use Rattle.apl_model.proofs.laws.one_command.Goals as goal

pub returns : goal.returns
returns c = one_command
