use Rattle.apl_model.proofs.Unique.{one_body_line}
use Rattle.apl_model.proofs.laws.one_body_line.Goals as goal

pub returns : goal.returns
returns c = one_body_line
