use Rattle.made_leaf.proofs.MadeLemmas.{made_is_only_made, made_stands, made_follows, others_kept, argument_kept, pending_kept}
use Rattle.made_leaf.proofs.laws.made_laws.Goals as goal

pub returns : goal.returns
returns c = record {
  only = made_is_only_made;
  stands = made_stands;
  follows = made_follows;
  others = others_kept;
  argument = argument_kept;
  pending = pending_kept;
}
