use Rattle.std.proofs.Common.{◌+◌, length, drop}
use Rattle.replacing_steps.specs.Writes.{value_by}
use Rattle.replacing_steps.proofs.WalkLemmas.{WroteTo}
use Rattle.replacing_steps.proofs.walks.+write_along.Given as goal

-- the tracks that are left
abbrev pub decreases-write_along : goal.decreases-write_along
decreases-write_along l = length l.tracks.now

-- the places of the numbers so far
abbrev pub invariant-loop-j : goal.invariant-loop-j
invariant-loop-j l = WroteTo l.fn.store l.store l.owner (value_by l.values) l.first l.stride (drop (l.axis + 1) l.desc.strides) l.track l.rest l.at l.j l.number
