use Rattle.apl_model_laws.proofs.Behind.{runs_begin_with_their_prefixes}
use Rattle.apl_model_laws.proofs.printing.runs_begin_with_their_prefixes.Goals as goal

pub returns : goal.returns
returns c = runs_begin_with_their_prefixes
