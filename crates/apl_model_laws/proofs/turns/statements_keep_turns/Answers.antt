use Rattle.apl_model_laws.proofs.Counted.{statements_keep_turns}
use Rattle.apl_model_laws.proofs.turns.statements_keep_turns.Goals as goal

pub returns : goal.returns
returns c = statements_keep_turns
