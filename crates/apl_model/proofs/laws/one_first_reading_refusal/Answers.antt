use Rattle.apl_model.proofs.Order.{one_first}
use Rattle.apl_model.proofs.laws.one_first_reading_refusal.Goals as goal

pub returns : goal.returns
returns c = λ bytes r s a b. one_first _ r s a b
