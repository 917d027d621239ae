use Rattle.std.proofs.Common.{[], ◌∷◌, ◌++◌, sym, ap, ◌∙◌}
use Rattle.drag_along.specs.Segments.{SegmentView}
use Rattle.drag_along.specs.Meaning.{entry}
use Rattle.value_stack.specs.Stacks.{entries}
use Rattle.pending_steps.proofs.HeldLemmas.{IsDropped, newest_dropped, newest_was, newest_above}
use Rattle.pending_steps.proofs.leaves.drop_newest.Goals as goal

dropped : (c : goal.After-release) → IsDropped c.args.store.now c.release.new.store c.args.stack.now c.pop.new.self c.in-Some.newest
dropped c = newest_dropped c.args.store.now c.release.new.store c.args.stack.now c.pop.new.self c.in-Some.newest c.in-Some.ensures.taken c.requires.lawful c.requires.held c.release.ensures.follows

pub returns-clause-dropped : goal.returns-clause-dropped
returns-clause-dropped c s at =
    (dropped c).means
    ∙ ap (λ (t : SegmentView). entries c.release.new.store c.pop.new.self ++ entry c.args.store.now t ∷ []) (sym (newest_was c.args.stack.now c.pop.new.self c.in-Some.newest s c.in-Some.ensures.taken at))

pub returns-clause-rest : goal.returns-clause-rest
returns-clause-rest c s at = newest_above c.args.stack.now c.pop.new.self c.in-Some.newest s c.in-Some.ensures.taken at

pub returns-clause-moves : goal.returns-clause-moves
returns-clause-moves c = (dropped c).moves
