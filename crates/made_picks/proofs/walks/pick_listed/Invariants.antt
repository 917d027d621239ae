use Rattle.std.proofs.Common.{◌+◌, ◌-◌, ◌≤◌, length, vec_len, vec_capacity}
use Rattle.made_picks.proofs.WalkLemmas.{ListedTo}
use Rattle.made_picks.proofs.walks.pick_listed.Given as goal

-- the values so far were read, and the rest has room
abbrev pub invariant-loop-value : goal.invariant-loop-value
invariant-loop-value l =
    ListedTo l.fn.store l.store l.leaf l.at l.stride l.origin l.values l.fn.cells.items l.cells.items l.value-index
    × (vec_len l.cells + (length l.values - l.value-index) ≤ vec_capacity l.cells)
    × (vec_capacity l.fn.cells ≤ vec_capacity l.cells)
