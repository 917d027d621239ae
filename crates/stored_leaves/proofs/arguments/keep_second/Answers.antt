use Rattle.stored_leaves.proofs.PlacedLemmas.{lies_selected}
use Rattle.stored_leaves.proofs.arguments.keep_second.Goals as goal

pub returns : goal.returns
returns c = lies_selected _ _ _ _ c.at.ensures.selects
