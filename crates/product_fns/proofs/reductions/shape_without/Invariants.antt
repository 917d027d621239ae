use Rattle.std.proofs.Common.{◌≡◌, take}
use Rattle.product_fns.proofs.reductions.shape_without.Given as goal

-- the lengths so far
abbrev pub invariant-loop-n : goal.invariant-loop-n
invariant-loop-n l = (l.lengths.items ≡ take l.n-index l.n-items) × (l.lengths.capacity ≡ 8)
