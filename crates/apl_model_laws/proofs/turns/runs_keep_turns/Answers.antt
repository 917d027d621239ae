use Rattle.apl_model_laws.proofs.Counted.{runs_keep_turns}
use Rattle.apl_model_laws.proofs.turns.runs_keep_turns.Goals as goal

pub returns : goal.returns
returns c = runs_keep_turns
