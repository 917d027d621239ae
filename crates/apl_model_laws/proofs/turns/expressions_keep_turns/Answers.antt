use Rattle.apl_model_laws.proofs.Counted.{expressions_keep_turns}
use Rattle.apl_model_laws.proofs.turns.expressions_keep_turns.Goals as goal

pub returns : goal.returns
returns c = expressions_keep_turns
