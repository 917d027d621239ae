use Rattle.apl_model.proofs.Mapped.{frame_is_mapped, result_is_mapped}
use Rattle.apl_model.proofs.environments.frames_are_mapped.Goals as goal

pub returns-clause-frame : goal.returns-clause-frame
returns-clause-frame g c = frame_is_mapped _ _

pub returns-clause-result : goal.returns-clause-result
returns-clause-result g c = result_is_mapped _ _
