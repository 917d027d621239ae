use Rattle.std.proofs.Common.{◌≡◌, ◌++◌, take}
use Rattle.product_fns.proofs.shapes.joined.Given as goal

-- the lengths so far
abbrev pub invariant-loop-n : goal.invariant-loop-n
invariant-loop-n l = (l.lengths.items ≡ take l.n-index l.first) × (l.lengths.capacity ≡ 16)

-- the first ones, and the second so far
abbrev pub invariant-loop-n-2 : goal.invariant-loop-n-2
invariant-loop-n-2 l = (l.lengths.items ≡ l.first ++ take l.n-index l.second) × (l.lengths.capacity ≡ 16)
