use Rattle.apl_outside.proofs.Parts.{part_after_all}
use Rattle.apl_outside.proofs.laws.calls_in_turn.Goals as goal

pub returns-clause-part_after_all : goal.returns-clause-part_after_all
returns-clause-part_after_all c = part_after_all
