use Rattle.std.proofs.Common.{◌≡◌, ◌+◌, ◌*◌, ◌≤◌, length, map, drop, vec_len, vec_capacity}
use Rattle.apl_base.specs.Array.{size_of}
use Rattle.made_picks.specs.Picks.{lengths_on}
use Rattle.made_picks.specs.Tracks.{places_on}
use Rattle.made_picks.proofs.WalkLemmas.{PickedTo}
use Rattle.made_picks.proofs.walks.+pick.Given as goal

-- the tracks that are left
abbrev pub decreases-pick : goal.decreases-pick
decreases-pick l = length l.tracks.now

-- the elements of the numbers so far
abbrev pub invariant-loop-j : goal.invariant-loop-j
invariant-loop-j l =
    PickedTo l.fn.store l.store l.leaf l.blank l.stride (drop (l.axis + 1) l.desc.strides) l.track l.rest l.at l.fn.cells.items l.cells.items l.j
    × (vec_len l.cells ≡ vec_len l.fn.cells + l.j * size_of (lengths_on (map places_on l.rest)))
    × (vec_capacity l.fn.cells ≤ vec_capacity l.cells)
