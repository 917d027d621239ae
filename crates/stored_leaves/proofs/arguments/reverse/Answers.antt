use Rattle.stored_leaves.proofs.PlacedLemmas.{lies_selected}
use Rattle.stored_leaves.proofs.arguments.reverse.Goals as goal

pub returns : goal.returns
returns c = lies_selected _ _ _ _ c.reverse.ensures.selects
