use Rattle.apl_model.proofs.Accepted.{accepted_exactly}
use Rattle.apl_model.proofs.laws.accepted_exactly.Goals as goal

pub returns : goal.returns
returns c = accepted_exactly
