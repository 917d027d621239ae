use Rattle.std.proofs.Common.{inl, IsSome, sym, subst, Option}
use Rattle.apl_run.proofs.EndingLemmas.{workload-told}
use Rattle.apl_run.proofs.scripts.script_bytes.Goals as goal

pub returns-in-Ok-clause-ok : goal.returns-in-Ok-clause-ok
returns-in-Ok-clause-ok g c = workload-told _ _ _ _ c.in-Some.is c.in-Ok.ensures

pub returns-in-Ok-clause-too_long : goal.returns-in-Ok-clause-too_long
returns-in-Ok-clause-too_long g c = λ e. absurd cc

pub returns-in-Ok-clause-read : goal.returns-in-Ok-clause-read
returns-in-Ok-clause-read g c = inl (search)

pub returns-in-Ok-clause-failed : goal.returns-in-Ok-clause-failed
returns-in-Ok-clause-failed g c = λ e. absurd cc
