use Rattle.apl_model_laws.proofs.Counted.{positions_keep_turns}
use Rattle.apl_model_laws.proofs.turns.positions_keep_turns.Goals as goal

pub returns : goal.returns
returns c = positions_keep_turns
