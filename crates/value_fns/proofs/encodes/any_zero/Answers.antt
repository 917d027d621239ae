use Rattle.std.proofs.Common.{pos, arith}
use Rattle.std.specs.Ordering.{int_eq}
use Rattle.value_fns.proofs.Encoded.{any_false}
use Rattle.value_fns.proofs.encodes.any_zero.Goals as goal

pub returns : goal.returns
returns c = any_false (int_eq (pos 0)) c.args.cells.now c.loop-cell.cell-index (omega arith) c.loop-cell.invariant
