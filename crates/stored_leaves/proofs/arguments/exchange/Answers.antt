use Rattle.stored_leaves.proofs.PlacedLemmas.{lies_selected, exchanged}
use Rattle.stored_leaves.proofs.arguments.exchange.Goals as goal

pub transpose-requires-clause-axes : goal.transpose-requires-clause-axes
transpose-requires-clause-axes c = exchanged

pub returns : goal.returns
returns c = lies_selected _ _ _ _ c.transpose.ensures.selects
