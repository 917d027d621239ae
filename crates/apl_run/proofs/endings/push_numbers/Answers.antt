use Rattle.apl_run.proofs.EndingLemmas.{full-err, live-err}
use Rattle.apl_run.proofs.endings.push_numbers.Goals as goal

pub returns-in-Ok-clause-err : goal.returns-in-Ok-clause-err
returns-in-Ok-clause-err g c = full-err _ _ _ _ _ _ c.format.ensures.text c.in-Ok.ensures.ok c.push_asked.result c.push_asked.ensures.err

pub returns-in-Err-clause-err : goal.returns-in-Err-clause-err
returns-in-Err-clause-err g c = live-err _ _ _ _ _ c.format.ensures.text c.in-Err.ensures.err
