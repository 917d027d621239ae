use Rattle.leaf_names.proofs.CountLemmas.{set_name-named, look_up-named, unset-named, with_frame-named}
use Rattle.leaf_names.proofs.count_laws.Goals as goal

pub returns-clause-set : goal.returns-clause-set
returns-clause-set c = set_name-named

pub returns-clause-found : goal.returns-clause-found
returns-clause-found c = look_up-named

pub returns-clause-unset : goal.returns-clause-unset
returns-clause-unset c = unset-named

pub returns-clause-frame : goal.returns-clause-frame
returns-clause-frame c = with_frame-named
