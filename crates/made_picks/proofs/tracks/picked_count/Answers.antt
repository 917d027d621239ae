use Rattle.std.proofs.Common.{◌+◌, ◌∙◌, map, ap, arith}
use Rattle.apl_base.specs.Array.{size_of}
use Rattle.made_picks.specs.Picks.{lengths_on}
use Rattle.made_picks.specs.Tracks.{places_on}
use Rattle.made_picks.proofs.TrackLemmas.{prefix_few, count_more, count_all}
use Rattle.made_picks.proofs.tracks.picked_count.Goals as goal

pub overflow_mul-count : goal.overflow_mul-count
overflow_mul-count c =
    let e = count_more c.args.tracks.now c.loop-track.track-index c.loop-track.count c.len-count.result c.track-item.result c.loop-track-test.true c.track-item.is c.len-count.ensures c.loop-track.invariant in
    omega (arith, e, prefix_few (lengths_on (map places_on c.args.tracks.now)) (c.loop-track.track-index + 1) c.requires.some, c.requires.few)

pub loop-track-preserved : goal.loop-track-preserved
loop-track-preserved c =
    count_more c.args.tracks.now c.loop-track.track-index c.loop-track.count c.len-count.result c.track-item.result c.loop-track-test.true c.track-item.is c.len-count.ensures c.loop-track.invariant

pub returns : goal.returns
returns c = c.loop-track.invariant ∙ ap size_of (count_all c.args.tracks.now c.loop-track.track-index c.loop-track-test.false)
