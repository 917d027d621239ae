use Rattle.standing.proofs.BehindLemmas.{evaluated_behind}
use Rattle.standing.proofs.statements.statements_stand_alone.Goals as goal

pub returns : goal.returns
returns c = evaluated_behind
