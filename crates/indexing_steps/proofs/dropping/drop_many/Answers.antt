use Rattle.std.proofs.Common.{arith}
use Rattle.drag_along.specs.Meaning.{entry}
use Rattle.indexing_steps.proofs.FallLemmas.{HasNewest, has_newest, drops_none, drops_more, drop_left, moves_hold}
use Rattle.value_stack.proofs.NewestLemmas.{newest_at}
use Rattle.indexing_steps.proofs.dropping.drop_many.Goals as goal

pub loop-at-init : goal.loop-at-init
loop-at-init c = record { drops = drops_none c.args.store.now c.args.stack.now c.requires.lawful; held = c.requires.held }

pub drop_newest-requires-clause-operand : goal.drop_newest-requires-clause-operand
drop_newest-requires-clause-operand c =
    omega (arith, drop_left c.args.store.now c.loop-at.store c.args.stack.now c.loop-at.stack c.loop-at.at c.loop-at.invariant.drops, c.requires.operands)

pub loop-at-preserved : goal.loop-at-preserved
loop-at-preserved c =
    let long = drop_left c.args.store.now c.loop-at.store c.args.stack.now c.loop-at.stack c.loop-at.at c.loop-at.invariant.drops in
    let n : HasNewest c.loop-at.stack = has_newest c.loop-at.stack (omega (arith, long, c.requires.operands)) in
    record {
      drops =
          drops_more c.args.store.now c.loop-at.store c.drop_newest.new.store c.args.stack.now c.loop-at.stack c.drop_newest.new.stack c.loop-at.at (entry c.loop-at.store n.newest) c.loop-at.invariant.drops
          (c.drop_newest.ensures.dropped n.newest (newest_at c.loop-at.stack n.older n.newest n.whole)) c.drop_newest.ensures.moves;
      held = moves_hold c.loop-at.store c.drop_newest.new.store c.loop-at.stack c.drop_newest.new.stack c.drop_newest.ensures.moves c.loop-at.invariant.held;
    }
