use Rattle.drag_along.proofs.OneLeafLemmas.{one_leaf_segment, one_leaf_means, one_leaf_lawful, named_at_most}
use Rattle.drag_along.proofs.laws.leaf_laws.Goals as goal

pub returns : goal.returns
returns c = record { segment = one_leaf_segment; meaning = one_leaf_means; lawful = one_leaf_lawful; names = named_at_most }
