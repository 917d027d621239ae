use Rattle.apl_compile.proofs.ProgramLemmas.{immediate_is_run}
use Rattle.apl_compile.proofs.laws.immediate_is_run.Goals as goal

pub returns : goal.returns
returns c = immediate_is_run
