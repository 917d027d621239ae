use Rattle.std.proofs.Common.{◌≡◌, map, take, is_some}
use Rattle.apl_compile.proofs.expressions.mask_of.Given as goal

abbrev pub invariant-loop-position : goal.invariant-loop-position
invariant-loop-position l = l.mask ≡ map is_some (take l.position-index l.positions)
