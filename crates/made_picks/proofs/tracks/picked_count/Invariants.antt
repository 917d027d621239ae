use Rattle.std.proofs.Common.{◌≡◌, map, take}
use Rattle.apl_base.specs.Array.{size_of}
use Rattle.made_picks.specs.Picks.{lengths_on}
use Rattle.made_picks.specs.Tracks.{places_on}
use Rattle.made_picks.proofs.tracks.picked_count.Given as goal

-- those of the tracks so far
abbrev pub invariant-loop-track : goal.invariant-loop-track
invariant-loop-track l = l.count ≡ size_of (take l.track-index (lengths_on (map places_on l.tracks)))
