use Rattle.alias_force.proofs.DeskLemmas.{desk_follows}
use Rattle.alias_force.proofs.SafeLemmas.{safe_means}
use Rattle.alias_force.proofs.laws.desk_laws.Goals as goal

pub returns-clause-follows : goal.returns-clause-follows
returns-clause-follows c = desk_follows

pub returns-clause-safe : goal.returns-clause-safe
returns-clause-safe c = safe_means
