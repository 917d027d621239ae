use Rattle.std.proofs.Common.{ℤ, pos, int_lt, arith}
use Rattle.value_fns.proofs.Encoded.{any_false}
use Rattle.value_fns.proofs.encodes.any_negative.Goals as goal

pub returns : goal.returns
returns c = any_false ((λ (z : ℤ). int_lt z (pos 0))) c.args.cells.now c.loop-cell.cell-index (omega arith) c.loop-cell.invariant
