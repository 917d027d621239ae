use Rattle.apl_model_laws.proofs.TestedAxes.{axes_are_tested}
use Rattle.apl_model_laws.proofs.lawful.axes_are_tested.Goals as goal

pub returns : goal.returns
returns c = axes_are_tested
