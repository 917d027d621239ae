use Rattle.apl_run.proofs.EndingLemmas.{asked-err}
use Rattle.apl_run.proofs.endings.push_asked.Goals as goal

pub returns-in-Err-clause-err : goal.returns-in-Err-clause-err
returns-in-Err-clause-err g c = asked-err _ _ _ _ c.format.ensures.text c.in-Err.ensures.err
