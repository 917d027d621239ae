use Rattle.std.proofs.Common.{arith}
use Rattle.array_store.specs.Follows.{Holds, both, none}
use Rattle.array_store.proofs.FollowsLemmas.{follows_beside, follows_counted, holds_beside}
use Rattle.drag_along.specs.Segments.{named_by}
use Rattle.value_stack.specs.Stacks.{named_on}
use Rattle.pending_use.proofs.Changes.{dropped}
use Rattle.pending_use.proofs.entries.drop_newest.Goals as goal

pub returns-clause-stands : goal.returns-clause-stands
returns-clause-stands c =
    dropped c.args.store.now c.release.new.store c.args.stack.now c.pop.new.self c.in-Some.newest c.in-Some.ensures.taken c.release.ensures.follows

pub returns-clause-follows : goal.returns-clause-follows
returns-clause-follows c =
    let others = named_on c.pop.new.self in
    let beside = follows_beside c.args.store.now c.release.new.store (named_by c.in-Some.newest) none others c.release.ensures.follows in
    follows_counted c.args.store.now c.release.new.store (both (named_by c.in-Some.newest) others) (both none others) _ _
    (λ key. omega (arith, c.in-Some.ensures.leaves key)) (λ key. omega arith) beside

pub returns-clause-holds : goal.returns-clause-holds
returns-clause-holds c =
    let others = named_on c.pop.new.self in
    let held : Holds c.args.store.now (both (named_by c.in-Some.newest) others) = λ key. omega (arith, c.requires key, c.in-Some.ensures.leaves key) in
    let holds = holds_beside c.args.store.now c.release.new.store (named_by c.in-Some.newest) none others c.release.ensures.follows held in
    λ key. omega (arith, holds key)
