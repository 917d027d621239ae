use Rattle.apl_run.proofs.AnswerLemmas.{long_is_refused}
use Rattle.apl_run.proofs.laws.long_is_refused.Goals as goal

pub returns : goal.returns
returns c = long_is_refused
