use Rattle.std.proofs.Common.{Err, ap}
use Rattle.script_run.proofs.ItemLemmas.{line-as, ran-as, runs-done, runs-reported, runs-stopped, runs-unreported}
use Rattle.script_run.proofs.items.run_line.Goals as goal

pub returns-in-Ok-Done : goal.returns-in-Ok-Done
returns-in-Ok-Done g c = runs-done _ _ _ _ _ (ran-as _ _ _ _ _ _ c.in-Ok-Done.field-0-is c.in-Ok-Done.ensures)

pub returns-in-Ok : goal.returns-in-Ok
returns-in-Ok g c =
    runs-reported _ _ _ _ _ _ _ (ran-as _ _ _ _ _ _ c.in-Ok-Error.field-0-is c.in-Ok-Error.ensures) _ _ c.in-Ok.ensures.never_falls (λ script e. c.in-Ok.ensures.ok script e)

pub returns-in-Err-write_report : goal.returns-in-Err-write_report
returns-in-Err-write_report g c =
    let failed = c.in-Err-write_report.ensures in
    line-as _ _ _ _ _ _ _ c.stop_of.ensures
    (runs-unreported _ _ _ _ _ _ _ (ran-as _ _ _ _ _ _ c.in-Ok-Error.field-0-is c.in-Ok-Error.ensures) _ _ failed.never_falls c.in-Err-write_report.fault (λ script e. failed.err script e) (λ e. failed.rose (ap Err e)))

pub returns-in-Err : goal.returns-in-Err
returns-in-Err g c = runs-stopped _ _ _ _ _ c.in-Err.stop c.in-Err.ensures
