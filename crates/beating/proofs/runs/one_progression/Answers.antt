use Rattle.beating.proofs.ProgressionLemmas.{one_run}
use Rattle.beating.proofs.runs.one_progression.Goals as goal

pub returns : goal.returns
returns c = one_run
