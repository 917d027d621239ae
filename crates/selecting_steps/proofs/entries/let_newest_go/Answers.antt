use Rattle.pending_steps.proofs.HeldLemmas.{newest_dropped}
use Rattle.selecting_steps.proofs.entries.let_newest_go.Goals as goal

pub returns-clause-goes : goal.returns-clause-goes
returns-clause-goes c =
    let dropped = newest_dropped c.args.store.now c.release.new.store c.args.stack.now c.pop.new.self c.in-Some.newest c.in-Some.ensures.taken c.requires.lawful c.requires.held c.release.ensures.follows in
    record { newest = c.in-Some.newest; stack = c.in-Some.ensures.taken; means = dropped.means }

pub returns-clause-moves : goal.returns-clause-moves
returns-clause-moves c =
    (newest_dropped c.args.store.now c.release.new.store c.args.stack.now c.pop.new.self c.in-Some.newest c.in-Some.ensures.taken c.requires.lawful c.requires.held c.release.ensures.follows).moves
