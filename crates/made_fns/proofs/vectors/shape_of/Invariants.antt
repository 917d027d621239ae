use Rattle.std.proofs.Common.{◌≡◌, ◌≤◌, pos, map, take, length, vec_capacity}
use Rattle.made_fns.proofs.vectors.shape_of.Given as goal

abbrev pub invariant-loop-n : goal.invariant-loop-n
invariant-loop-n l = (l.cells.items ≡ map pos (take l.n-index l.lengths)) × (length l.lengths ≤ vec_capacity l.cells)
