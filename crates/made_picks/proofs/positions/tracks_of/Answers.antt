use mir.Syntax.{w128}
use Rattle.std.proofs.Common.{◌≡◌, length, vec_len, arith, rules}
use Rattle.std.proofs.lemmas.Int.{to_z-of_z}
use Rattle.array_store.proofs.CountingLemmas.{OnlyFetched-more}
use Rattle.made_picks.proofs.PositionLemmas.{tracks_none, tracks_within, tracks_next, tracks_places, tracks_fit, lawful-at, named_within, named_few}
use Rattle.made_picks.proofs.positions.tracks_of.Goals as goal

pub loop-axis-init : goal.loop-axis-init
loop-axis-init c = (
  rw (to_z-of_z w128 c.args.origin c.ranges.origin) (tracks_none c.args.store.now c.args.axes.now c.args.positions.now c.args.origin c.in_ok-tracks.tracks.items c.in_ok-tracks.ensures.items c.counts-counts.ensures.store),
  omega (arith, c.in_ok-tracks.ensures.exact),
)

pub track_of-requires-clause-lawful : goal.track_of-requires-clause-lawful
track_of-requires-clause-lawful c =
    lawful-at c.args.store.now c.loop-axis.store c.args.positions.now c.loop-axis.axis c.index-positions-axis.result c.loop-axis.invariant.0.counted.only c.requires.lawful c.loop-axis-test.true c.index-positions-axis.is

pub track_of-requires-clause-within : goal.track_of-requires-clause-within
track_of-requires-clause-within c =
    rw (to_z-of_z w128 c.args.origin c.ranges.origin) (tracks_within c.args.store.now c.loop-axis.store c.args.axes.now c.args.positions.now c.args.origin c.loop-axis.axis c.len.result c.index-positions-axis.result c.loop-axis.invariant.0.counted.only c.requires.axes c.requires.within c.loop-axis-test.true c.index-positions-axis.is c.len.ensures.value)

pub returns-in_err-track-clause-counted : goal.returns-in_err-track-clause-counted
returns-in_err-track-clause-counted c =
    named_within c.args.store.now c.loop-axis.store c.track_of.new.store c.args.positions.now c.loop-axis.axis c.index-positions-axis.result c.loop-axis.invariant.0.counted c.loop-axis-test.true c.index-positions-axis.is c.track_of.ensures.counted

pub unreachable-requires : goal.unreachable-requires
unreachable-requires c =
    let many : length c.loop-axis.tracks.items ≡ vec_len c.loop-axis.tracks = search rules in
    omega (arith, many, c.loop-axis.invariant.0.many, c.loop-axis.invariant.1, c.in_default.ensures.full, c.loop-axis-test.true)

pub loop-axis-preserved : goal.loop-axis-preserved
loop-axis-preserved c =
    let origin = to_z-of_z w128 c.args.origin c.ranges.origin in
    let so_far = rw origin at c.loop-axis.invariant.0 in
    let places = rw origin at c.in_ok-track.ensures.places in (
      rw origin (tracks_next c.args.store.now c.loop-axis.store c.track_of.new.store c.args.axes.now c.args.positions.now c.args.origin c.loop-axis.tracks.items c.push.new.self.items c.loop-axis.axis c.len.result c.index-positions-axis.result c.in_ok-track.track so_far c.requires.axes c.loop-axis-test.true c.index-positions-axis.is c.len.ensures.value
          places c.in_ok-track.ensures.fits c.in-Ok.ensures.items c.track_of.ensures.counted c.track_of.ensures.store),
      omega (arith, c.loop-axis.invariant.1, c.in-Ok.ensures.capacity),
    )

pub returns-clause-places : goal.returns-clause-places
returns-clause-places c =
    let so_far = rw (to_z-of_z w128 c.args.origin c.ranges.origin) at c.loop-axis.invariant.0 in
    tracks_places c.args.store.now c.loop-axis.store c.args.axes.now c.args.positions.now c.args.origin c.loop-axis.tracks.items c.loop-axis.axis so_far c.requires.axes c.loop-axis-test.false

pub returns-clause-fits : goal.returns-clause-fits
returns-clause-fits c =
    let so_far = rw (to_z-of_z w128 c.args.origin c.ranges.origin) at c.loop-axis.invariant.0 in
    tracks_fit c.args.store.now c.loop-axis.store c.args.axes.now c.args.positions.now c.args.origin c.loop-axis.tracks.items c.loop-axis.axis so_far c.requires.axes c.loop-axis-test.false

pub returns-clause-counted : goal.returns-clause-counted
returns-clause-counted c = OnlyFetched-more c.args.store.now c.loop-axis.store _ _ (named_few c.args.positions.now c.loop-axis.axis) c.loop-axis.invariant.0.counted

pub returns-clause-store : goal.returns-clause-store
returns-clause-store c = c.loop-axis.invariant.0.store
