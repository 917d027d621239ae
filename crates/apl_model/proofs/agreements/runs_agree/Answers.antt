use Rattle.apl_model.proofs.Agreement.{functions_agree, runs_agree}
use Rattle.apl_model.proofs.agreements.runs_agree.Goals as goal

pub returns-clause-functions : goal.returns-clause-functions
returns-clause-functions g c = functions_agree _ _ _ _ _ _

pub returns-clause-runs : goal.returns-clause-runs
returns-clause-runs g c = runs_agree _ _ _ _ _ _
