use Rattle.e_machine.proofs.BesideLemmas.{kept_beside}
use Rattle.e_machine.proofs.laws.force_beside.Goals as goal

pub returns-clause-other : goal.returns-clause-other
returns-clause-other c =
    (kept_beside _ _ _ _ c.requires.other c.requires.held c.force.ensures.follows).lawful

pub returns-clause-meaning : goal.returns-clause-meaning
returns-clause-meaning c =
    (kept_beside _ _ _ _ c.requires.other c.requires.held c.force.ensures.follows).meaning
