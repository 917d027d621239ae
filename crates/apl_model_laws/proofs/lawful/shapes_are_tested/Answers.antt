use Rattle.apl_model_laws.proofs.Arrays.{shapes_are_tested}
use Rattle.apl_model_laws.proofs.lawful.shapes_are_tested.Goals as goal

pub returns : goal.returns
returns c = shapes_are_tested
