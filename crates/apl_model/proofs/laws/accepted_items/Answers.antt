use Rattle.apl_model.proofs.AcceptedItems.{items_lawful}
use Rattle.apl_model.proofs.laws.accepted_items.Goals as goal

pub returns : goal.returns
returns c = items_lawful
