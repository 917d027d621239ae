use Rattle.std.proofs.Common.{◌≤◌, length, vec_capacity}
use Rattle.made_picks.proofs.TakeLemmas.{WindowsTo}
use Rattle.made_picks.proofs.takes.windows.Given as goal

-- the tracks so far, and room for the others
abbrev pub invariant-loop-axis : goal.invariant-loop-axis
invariant-loop-axis l = WindowsTo l.axes l.counts l.tracks.items l.axis × (length l.counts ≤ vec_capacity l.tracks)
