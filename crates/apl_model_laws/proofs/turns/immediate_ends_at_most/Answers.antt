use Rattle.apl_model_laws.proofs.Counted.{immediate_ends_at_most}
use Rattle.apl_model_laws.proofs.turns.immediate_ends_at_most.Goals as goal

pub returns : goal.returns
returns c = immediate_ends_at_most
