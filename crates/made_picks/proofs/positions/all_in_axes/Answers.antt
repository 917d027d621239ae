use mir.Syntax.{w128}
use Rattle.std.proofs.Common.{◌∙◌, sym}
use Rattle.std.proofs.lemmas.Int.{to_z-of_z}
use Rattle.array_store.proofs.CountingLemmas.{OnlyFetched-more}
use Rattle.made_picks.proofs.PositionLemmas.{axes_none, axes_next, axes_fail, axes_all, lawful-at, named_within, named_few}
use Rattle.made_picks.proofs.positions.all_in_axes.Goals as goal

pub loop-axis-init : goal.loop-axis-init
loop-axis-init c =
    rw (to_z-of_z w128 c.args.origin c.ranges.origin) (axes_none c.args.store.now c.args.axes.now c.args.positions.now c.args.origin c.counts-counts.ensures.store)

pub is_in_axis-requires-clause-lawful : goal.is_in_axis-requires-clause-lawful
is_in_axis-requires-clause-lawful c =
    lawful-at c.args.store.now c.loop-axis.store c.args.positions.now c.loop-axis.axis c.index-positions-axis.result c.loop-axis.invariant.counted.only c.requires.lawful c.loop-axis-test.true c.index-positions-axis.is

pub returns-then-not-is_in_axis-clause-value : goal.returns-then-not-is_in_axis-clause-value
returns-then-not-is_in_axis-clause-value c =
    let origin = to_z-of_z w128 c.args.origin c.ranges.origin in
    let so_far = rw origin at c.loop-axis.invariant in
    let value = rw origin at c.is_in_axis.ensures.value in
    sym (axes_fail c.args.store.now c.loop-axis.store c.args.axes.now c.args.positions.now c.args.origin c.loop-axis.axis c.index-positions-axis.result so_far c.requires.axes c.loop-axis-test.true c.index-positions-axis.is (sym value ∙ c.if-not-is_in_axis.true))

pub returns-then-not-is_in_axis-clause-counted : goal.returns-then-not-is_in_axis-clause-counted
returns-then-not-is_in_axis-clause-counted c =
    named_within c.args.store.now c.loop-axis.store c.is_in_axis.new.store c.args.positions.now c.loop-axis.axis c.index-positions-axis.result c.loop-axis.invariant.counted c.loop-axis-test.true c.index-positions-axis.is c.is_in_axis.ensures.counted

pub loop-axis-preserved : goal.loop-axis-preserved
loop-axis-preserved c =
    let origin = to_z-of_z w128 c.args.origin c.ranges.origin in
    let so_far = rw origin at c.loop-axis.invariant in
    let value = rw origin at c.is_in_axis.ensures.value in
    rw origin (axes_next c.args.store.now c.loop-axis.store c.is_in_axis.new.store c.args.axes.now c.args.positions.now c.args.origin c.loop-axis.axis c.index-positions-axis.result so_far c.requires.axes c.loop-axis-test.true c.index-positions-axis.is (sym value ∙ c.if-not-is_in_axis.false)
    c.is_in_axis.ensures.counted c.is_in_axis.ensures.store)

pub returns-clause-value : goal.returns-clause-value
returns-clause-value c =
    let so_far = rw (to_z-of_z w128 c.args.origin c.ranges.origin) at c.loop-axis.invariant in
    sym (axes_all c.args.store.now c.loop-axis.store c.args.axes.now c.args.positions.now c.args.origin c.loop-axis.axis so_far c.requires.axes c.loop-axis-test.false)

pub returns-clause-counted : goal.returns-clause-counted
returns-clause-counted c = OnlyFetched-more c.args.store.now c.loop-axis.store _ _ (named_few c.args.positions.now c.loop-axis.axis) c.loop-axis.invariant.counted

pub returns-clause-store : goal.returns-clause-store
returns-clause-store c = c.loop-axis.invariant.store
