use Rattle.apl_run.proofs.EndingLemmas.{one-err, two-err}
use Rattle.apl_run.proofs.endings.push_two.Goals as goal

pub returns-in-Ok-clause-err : goal.returns-in-Ok-clause-err
returns-in-Ok-clause-err g c =
    two-err _ _ _ _ _ _ _ c.as_bytes.ensures.value c.as_bytes-in-Ok.ensures.value c.in-Ok.ensures.ok c.push_all-in-Ok.result c.push_all-in-Ok.ensures.err

pub returns-in-Err-clause-err : goal.returns-in-Err-clause-err
returns-in-Err-clause-err g c = one-err _ _ _ _ _ c.as_bytes.ensures.value c.in-Err.ensures.err
