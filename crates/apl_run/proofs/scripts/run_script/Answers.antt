use Rattle.apl_run.proofs.EndLemmas.{wanting-none}
use Rattle.apl_run.proofs.scripts.run_script.Goals as goal

pub returns-in_default : goal.returns-in_default
returns-in_default g c = wanting-none _ _ c.requires.fresh

pub returns : goal.returns
returns g c = c.run_compiled.ensures _ c.in-Ok.ensures
