use Rattle.std.proofs.Common.{◌≡◌}
use Rattle.apl_base.proofs.Sizes.{Digits}
use Rattle.apl_base.proofs.shapes.Shape.index_of.Given as goal

abbrev pub invariant-loop-n : goal.invariant-loop-n
invariant-loop-n l = Digits l.n-items l.place l.n-index l.index.items l.rest l.size × (l.index.capacity ≡ 8)
