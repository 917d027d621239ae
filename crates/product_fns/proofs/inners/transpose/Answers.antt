use Rattle.std.proofs.Common.{length, arith}
use Rattle.product_fns.proofs.InnerLemmas.{transpose_within}
use Rattle.product_fns.proofs.inners.transpose.Goals as goal

pub bounds-cells-p : goal.bounds-cells-p
bounds-cells-p c = transpose_within c.loop-p.p c.args.n c.args.q (length c.args.cells.now) c.requires.many (omega (arith, c.loop-p-test.true, c.loop-p.auto.lines, c.requires.same))
