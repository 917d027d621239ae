use Rattle.stored_leaves.proofs.PlacedLemmas.{new_lawful, new_follows, beside_new}
use Rattle.stored_leaves.proofs.arguments.stored.Goals as goal

pub returns-clause-lawful : goal.returns-clause-lawful
returns-clause-lawful c = new_lawful _ _ _ _ c.in_ok-make_leaf.ensures.made

pub returns-clause-follows : goal.returns-clause-follows
returns-clause-follows c = new_follows _ _ _ _ c.in_ok-make_leaf.ensures.made

pub returns-clause-kept : goal.returns-clause-kept
returns-clause-kept c = λ leaf lawful. beside_new _ _ _ _ leaf c.in_ok-make_leaf.ensures.made lawful
