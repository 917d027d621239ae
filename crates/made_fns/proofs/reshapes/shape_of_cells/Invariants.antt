use Rattle.std.proofs.Common.{◌≡◌, ◌^◌, ◌+◌, min, map, take, length}
use Rattle.std.specs.Prelude.{unsigned_abs}
use Rattle.made_fns.proofs.reshapes.shape_of_cells.Given as goal

abbrev pub invariant-loop-axis : goal.invariant-loop-axis
invariant-loop-axis l = (take l.axis l.lengths ≡ map (λ z. min (unsigned_abs z) (2 ^ 40 + 1)) (take l.axis l.cells)) × (length l.lengths ≡ 8)
