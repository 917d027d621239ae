use Rattle.apl_run.proofs.EndingLemmas.{lent-line}
use Rattle.apl_run.proofs.endings.push_line.Goals as goal

pub returns-clause-line : goal.returns-clause-line
returns-clause-line g c =
    let pushed = c.push_all.ensures in
    lent-line c.push_all.result _ _ _ _ _ c.as_bytes.ensures.value pushed.ok pushed.err pushed.failed
