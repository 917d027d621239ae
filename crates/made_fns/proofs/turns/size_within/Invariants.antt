use Rattle.std.proofs.Common.{◌≡◌, ◌+◌, ◌^◌, min, take}
use Rattle.apl_base.specs.Array.{size_of}
use Rattle.made_fns.proofs.turns.size_within.Given as goal

abbrev pub invariant-loop-n : goal.invariant-loop-n
invariant-loop-n l = l.size ≡ min (size_of (take l.n-index l.lengths)) (2 ^ 40 + 1)
