use Rattle.apl_model_laws.proofs.Counted.{functions_keep_turns}
use Rattle.apl_model_laws.proofs.turns.functions_keep_turns.Goals as goal

pub returns : goal.returns
returns c = functions_keep_turns
