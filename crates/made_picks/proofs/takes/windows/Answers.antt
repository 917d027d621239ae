use mir.Syntax.{w128}
use Rattle.std.proofs.Common.{◌≡◌, pos, get_or, length, vec_len, arith, rules, to_z-of_z, FitsSigned}
use Rattle.made_picks.proofs.TakeLemmas.{windows_none, windows_next, windows_places, windows_fit, count_few}
use Rattle.made_picks.proofs.takes.windows.Goals as goal

pub loop-axis-init : goal.loop-axis-init
loop-axis-init c = (windows_none c.args.axes.now c.args.counts.now c.in_ok-tracks.tracks.items c.in_ok-tracks.ensures.items, omega (arith, c.in_ok-tracks.ensures.exact))

pub window-requires-clause-count : goal.window-requires-clause-count
window-requires-clause-count c =
    let count_fits : FitsSigned w128 (get_or c.args.counts.now c.loop-axis.axis (pos 0)) = search rules in
    rw (to_z-of_z {w = w128} {z = get_or c.args.counts.now c.loop-axis.axis (pos 0)} count_fits) (count_few c.args.counts.now c.loop-axis.axis c.requires.lengths c.loop-axis-test.true)

pub unreachable-requires : goal.unreachable-requires
unreachable-requires c =
    let many : length c.loop-axis.tracks.items ≡ vec_len c.loop-axis.tracks = search rules in
    omega (arith, many, c.loop-axis.invariant.0.many, c.loop-axis.invariant.1, c.in_default.ensures.full, c.loop-axis-test.true)

pub loop-axis-preserved : goal.loop-axis-preserved
loop-axis-preserved c =
    let count_fits : FitsSigned w128 (get_or c.args.counts.now c.loop-axis.axis (pos 0)) = search rules in
    let places = rw (to_z-of_z {w = w128} {z = get_or c.args.counts.now c.loop-axis.axis (pos 0)} count_fits) at c.window.ensures.places in (
      windows_next c.args.axes.now c.args.counts.now c.loop-axis.tracks.items c.push.new.self.items c.loop-axis.axis c.len.result c.window.result c.loop-axis.invariant.0 c.requires.counts c.loop-axis-test.true c.len.ensures.value places c.window.ensures.fits c.in-Ok.ensures.items,
      omega (arith, c.loop-axis.invariant.1, c.in-Ok.ensures.capacity),
    )

pub returns-clause-places : goal.returns-clause-places
returns-clause-places c = windows_places c.args.axes.now c.args.counts.now c.loop-axis.tracks.items c.loop-axis.axis c.loop-axis.invariant.0 c.requires.counts c.loop-axis-test.false

pub returns-clause-fits : goal.returns-clause-fits
returns-clause-fits c = windows_fit c.args.axes.now c.args.counts.now c.loop-axis.tracks.items c.loop-axis.axis c.loop-axis.invariant.0 c.requires.counts c.loop-axis-test.false
