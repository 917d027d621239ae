use Rattle.std.proofs.Common.{◌<◌, pos, length, get_or, unsigned_abs, ap, arith, rules}
use Rattle.std.proofs.lemmas.Int.{to_z-of_z}
use mir.Val.{SFits}
use mir.Syntax.{w128}
use Rattle.selection_choices.proofs.CountLemmas.{counts_at, counts_fit}
use Rattle.selection_choices.proofs.counts.take.Goals as goal

pub returns-then-unsigned_abs-from-clause-exact : goal.returns-then-unsigned_abs-from-clause-exact
returns-then-unsigned_abs-from-clause-exact c fit =
    let within : c.loop-axis.axis < length c.args.axes.now = omega (arith, c.loop-axis-test.true, c.rank-axis-end.ensures.value) in
    let few = counts_at c.args.axes.now c.args.counts.now fit c.loop-axis.axis within in
    let fits : SFits w128 (get_or c.args.counts.now c.loop-axis.axis (pos 0)) = search rules in
    let read = ap unsigned_abs (to_z-of_z w128 (get_or c.args.counts.now c.loop-axis.axis (pos 0)) fits) in
    omega (arith, few, read, c.unsigned_abs.ensures.value, c.if-unsigned_abs-from.true, c.from.ensures, c.len.ensures.value)

pub returns-clause-fits : goal.returns-clause-fits
returns-clause-fits c =
    counts_fit c.args.axes.now c.args.counts.now c.requires (λ j w. c.loop-axis.invariant.fit j (omega (arith, w, c.loop-axis-test.false, c.rank-axis-end.ensures.value)))
