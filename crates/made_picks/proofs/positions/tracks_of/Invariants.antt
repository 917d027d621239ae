use Rattle.std.proofs.Common.{◌≤◌, length, vec_capacity}
use Rattle.made_picks.proofs.PositionLemmas.{TracksTo}
use Rattle.made_picks.proofs.positions.tracks_of.Given as goal

-- the tracks so far, and room for the others
abbrev pub invariant-loop-axis : goal.invariant-loop-axis
invariant-loop-axis l = TracksTo l.fn.store l.store l.axes l.positions l.origin l.tracks.items l.axis × (length l.positions ≤ vec_capacity l.tracks)
