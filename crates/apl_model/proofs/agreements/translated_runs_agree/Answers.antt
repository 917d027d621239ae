use Rattle.apl_model.proofs.Agreement.{translated_functions_agree, translated_runs_agree}
use Rattle.apl_model.proofs.agreements.translated_runs_agree.Goals as goal

pub returns-clause-functions : goal.returns-clause-functions
returns-clause-functions g c = translated_functions_agree _ _ _ _

pub returns-clause-runs : goal.returns-clause-runs
returns-clause-runs g c = translated_runs_agree _ _ _ _
