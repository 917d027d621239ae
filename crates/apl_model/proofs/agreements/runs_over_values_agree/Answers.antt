use Rattle.apl_model.proofs.Agreement.{runs_over_values_agree}
use Rattle.apl_model.proofs.agreements.runs_over_values_agree.Goals as goal

pub returns : goal.returns
returns g c = runs_over_values_agree _ _ _ _
