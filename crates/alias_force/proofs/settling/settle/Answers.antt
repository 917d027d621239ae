use Rattle.std.proofs.lemmas.Result.{IfErr-weaker, on_ok_weaker}
use Rattle.value_stack.specs.Stacks.{entries}
use Rattle.alias_force.specs.Moving.{may_fail, StopsAt, IsOldestFault}
use Rattle.alias_force.proofs.SafeLemmas.{all_safe, oldest_fault}
use Rattle.alias_force.proofs.settling.settle.Goals as goal

pub returns-clause-safe : goal.returns-clause-safe
returns-clause-safe c = on_ok_weaker c.move_where.result (all_safe c.move_where.new.store c.args.stack.now c.move_where.new.stack) c.move_where.ensures.moved

pub returns-clause-oldest : goal.returns-clause-oldest
returns-clause-oldest c =
    let old = c.args.store.now in
    let new = c.move_where.new.store in
    let before = c.args.stack.now in
    let after = c.move_where.new.stack in
    IfErr-weaker c.move_where.result (StopsAt may_fail old new before after) (IsOldestFault (entries old before))
    (λ fault stops. oldest_fault old new before after fault c.move_where.ensures.lawful c.move_where.ensures.means stops) c.move_where.ensures.refused
