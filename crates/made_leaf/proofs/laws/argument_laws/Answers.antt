use Rattle.made_leaf.proofs.MadeLemmas.{leaf_is_array}
use Rattle.made_leaf.proofs.laws.argument_laws.Goals as goal

pub returns : goal.returns
returns c = record { arrays = leaf_is_array }
