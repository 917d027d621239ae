use Rattle.apl_model.proofs.TokenOrder.{line_in_order}
use Rattle.apl_model.proofs.laws.tokens_in_order.Goals as goal

pub returns : goal.returns
returns c = line_in_order
