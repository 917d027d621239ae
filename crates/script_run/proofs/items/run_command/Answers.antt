use Rattle.std.proofs.Common.{Err, ap}
use Rattle.script_run.proofs.ItemLemmas.{command-ends, command-stops}
use Rattle.script_run.proofs.items.run_command.Goals as goal

pub returns-in-Ok : goal.returns-in-Ok
returns-in-Ok g c = λ trace trace_faults.
    command-ends _ _ c.outline.ensures _ _ _ _ _ _ _ _ c.in-Ok.ensures.never_falls c.in-Ok.ensures.obeys c.in-Ok.ensures.printed trace trace_faults

pub returns-in-Err : goal.returns-in-Err
returns-in-Err g c = λ trace trace_faults.
    let failed = c.in-Err.ensures in
    command-stops _ _ c.outline.ensures _ _ _ _ _ _ _ _ failed.never_falls c.in-Err.fault _ c.stop_of.ensures failed.same failed.stopped (λ e. failed.rose (ap Err e)) trace trace_faults
