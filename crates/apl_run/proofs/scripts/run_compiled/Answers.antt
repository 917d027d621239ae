use Rattle.std.proofs.Common.{refl}
use Rattle.apl_run.proofs.EndLemmas.{done-end, reported-end, spent-end}
use Rattle.apl_run.proofs.ScriptLemmas.{program-ends, program-spent, ran-as, stopped-as}
use Rattle.apl_run.proofs.scripts.run_compiled.Goals as goal

pub returns-in-Ok-Done : goal.returns-in-Ok-Done
returns-in-Ok-Done g c =
    program-ends c.args.program.now _ _ c.requires.fresh _ (ran-as _ _ _ _ _ c.in-Ok-Done.field-0-is c.in-Ok-Done.ensures) _ done-end refl
    _ _ c.describe.ensures.never_falls c.describe.result c.describe.ensures.described

pub returns-in-Ok-Reported : goal.returns-in-Ok-Reported
returns-in-Ok-Reported g c =
    program-ends c.args.program.now _ _ c.requires.fresh _ (ran-as _ _ _ _ _ c.in-Ok-Reported.field-0-is c.in-Ok-Reported.ensures) _ reported-end refl
    _ _ c.describe-in-Ok-Reported.ensures.never_falls c.describe-in-Ok-Reported.result c.describe-in-Ok-Reported.ensures.described

pub returns-in-Err-Spent : goal.returns-in-Err-Spent
returns-in-Err-Spent g c =
    program-spent c.args.program.now _ _ c.requires.fresh (stopped-as _ _ _ _ _ c.in-Err-Spent.field-0-is c.in-Err-Spent.ensures) spent-end
    _ _ c.describe-in-Err-Spent.ensures.never_falls c.describe-in-Err-Spent.result c.describe-in-Err-Spent.ensures.described
