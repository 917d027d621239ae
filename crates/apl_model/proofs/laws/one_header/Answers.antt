use Rattle.apl_model.proofs.Unique.{one_header}
use Rattle.apl_model.proofs.laws.one_header.Goals as goal

pub returns : goal.returns
returns c = one_header
