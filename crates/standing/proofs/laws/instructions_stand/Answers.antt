use Rattle.standing.proofs.StandLemmas.{end_is_kept, older_stay}
use Rattle.standing.proofs.laws.instructions_stand.Goals as goal

pub returns : goal.returns
returns c = record { end = end_is_kept; older = older_stay }
