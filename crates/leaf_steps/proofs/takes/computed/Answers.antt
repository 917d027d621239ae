use Rattle.pending_steps.proofs.LeafLemmas.{computed_comes}
use Rattle.leaf_steps.proofs.takes.computed.Goals as goal

pub returns-in-Ok-clause-comes : goal.returns-in-Ok-clause-comes
returns-in-Ok-clause-comes c =
    let forced = c.in-Ok.ensures.forced in
    computed_comes c.args.store.now c.force.new.store c.release.new.store c.args.s c.in-Ok.leaf forced.array c.requires.held forced.means forced.stands c.in-Ok.ensures.follows c.release.ensures.follows
