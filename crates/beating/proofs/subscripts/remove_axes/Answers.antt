use Rattle.std.proofs.Common.{arith}
use Rattle.beating.proofs.EndLemmas.{end_begins, end_ends, last_rank, last_place, last_removed, last_stays}
use Rattle.beating.proofs.subscripts.remove_axes.Goals as goal

pub loop-axis-init : goal.loop-axis-init
loop-axis-init c = end_begins c.args.items.now c.args.desc.now c.requires.ones c.requires.lawful

pub at-requires-clause-axis : goal.at-requires-clause-axis
at-requires-clause-axis c =
    last_rank c.args.items.now c.args.desc.now c.loop-axis.desc c.loop-axis.axis c.loop-axis-test.true c.loop-axis.auto.axis c.requires.ones c.loop-axis.invariant

pub at-requires-clause-place : goal.at-requires-clause-place
at-requires-clause-place c =
    last_place c.args.items.now c.args.desc.now c.loop-axis.desc c.loop-axis.axis c.in-At.i c.loop-axis-test.true c.loop-axis.auto.axis c.requires.ones c.in-At.is c.loop-axis.invariant

pub loop-axis-preserved-in-At : goal.loop-axis-preserved-in-At
loop-axis-preserved-in-At c =
    last_removed c.args.items.now c.args.desc.now c.loop-axis.desc c.at.new.self c.loop-axis.axis c.in-At.i c.loop-axis-test.true c.loop-axis.auto.axis c.requires.ones c.in-At.is c.loop-axis.invariant c.at.ensures.selects c.at.ensures.lawful

pub loop-axis-preserved : goal.loop-axis-preserved
loop-axis-preserved c =
    last_stays c.args.items.now c.args.desc.now c.loop-axis.desc c.loop-axis.axis c.loop-axis-test.true c.loop-axis.auto.axis c.in_default.not-At c.loop-axis.invariant

pub returns-clause-selects : goal.returns-clause-selects
returns-clause-selects c =
    end_ends c.args.items.now c.args.desc.now c.loop-axis.desc c.loop-axis.axis (omega arith) c.loop-axis.invariant
