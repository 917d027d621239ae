use Rattle.std.proofs.Common.{◌-◌}
use Rattle.desc_use.proofs.WalkLemmas.{Taken}
use Rattle.desc_use.proofs.numbers_from.Given as goal

abbrev pub invariant-loop-place : goal.invariant-loop-place
invariant-loop-place l = Taken l.desc l.walk l.first l.place l.size l.numbers.items

abbrev pub decreases-loop-place : goal.decreases-loop-place
decreases-loop-place l = l.size - l.place
