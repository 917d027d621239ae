use Rattle.alias_force.proofs.SafeLemmas.{safe_is_settled}
use Rattle.alias_force.proofs.ReaderLemmas.{unread_is_clear}
use Rattle.alias_force.proofs.laws.idle_laws.Goals as goal

pub returns-clause-safe : goal.returns-clause-safe
returns-clause-safe c = safe_is_settled

pub returns-clause-unread : goal.returns-clause-unread
returns-clause-unread c = unread_is_clear
