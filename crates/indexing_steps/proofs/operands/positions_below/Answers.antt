use Rattle.std.proofs.Common.{arith}
use Rattle.indexing_steps.proofs.OperandLemmas.{none_read, left_out_read, there_read, one_left, all_read}
use Rattle.indexing_steps.proofs.operands.positions_below.Goals as goal
use Rattle.indexing_steps.proofs.operands.positions_below.Goals.{then-there+in_ok-push, else-there+in_ok-push-2}

pub loop-there-init : goal.loop-there-init
loop-there-init c = none_read c.args.mask.now c.args.stack.now c.args.end c.in_ok-positions.positions.items c.requires.end c.in_ok-positions.ensures.items

pub overflow_sub-at : goal.overflow_sub-at
overflow_sub-at c =
    let l = one_left c.args.mask.now c.loop-there.there-index c.args.stack.now c.args.end c.loop-there.at c.loop-there.positions.items c.loop-there.invariant c.loop-there-test.true c.if-there.true c.requires.operands in
    omega (arith, l.some)

pub leaf_at-requires-clause-within : goal.leaf_at-requires-clause-within
leaf_at-requires-clause-within c =
    let l = one_left c.args.mask.now c.loop-there.there-index c.args.stack.now c.args.end c.loop-there.at c.loop-there.positions.items c.loop-there.invariant c.loop-there-test.true c.if-there.true c.requires.operands in
    omega (arith, l.high, c.requires.end)

pub leaf_at-requires-clause-computed : goal.leaf_at-requires-clause-computed
leaf_at-requires-clause-computed c s g =
    let l = one_left c.args.mask.now c.loop-there.there-index c.args.stack.now c.args.end c.loop-there.at c.loop-there.positions.items c.loop-there.invariant c.loop-there-test.true c.if-there.true c.requires.operands in
    c.requires.computed _ s l.low l.high g

pub loop-there-preserved : goal.loop-there-preserved
loop-there-preserved c = elim c.if-there.branch [
  | then-there+in_ok-push w ↦
      rw (w.at-is, w.positions-is)
      (there_read c.args.mask.now c.loop-there.there-index c.args.stack.now c.args.end c.loop-there.at c.loop-there.positions.items w.push.new.self.items w.leaf_at.result c.loop-there.invariant c.loop-there-test.true w.if-there.true c.requires.operands w.leaf_at.ensures.leaf w.in_ok-push.ensures.items)
  | else-there+in_ok-push-2 w ↦
      rw (w.at-is, w.positions-is)
      (left_out_read c.args.mask.now c.loop-there.there-index c.args.stack.now c.args.end c.loop-there.at c.loop-there.positions.items w.push-else-there.new.self.items c.loop-there.invariant c.loop-there-test.true w.if-there.false w.in_ok-push-2.ensures.items)
]

pub returns : goal.returns
returns c = record {
  positions = all_read c.args.mask.now c.loop-there.there-index c.args.stack.now c.args.end c.loop-there.at c.loop-there.positions.items c.loop-there.invariant (omega arith);
}
