use Rattle.std.proofs.Common.{arith}
use Rattle.array_desc.proofs.Walks.{size_turn, cell_is}
use Rattle.array_desc.proofs.steps.size_behind.Goals as goal

pub loop-n-preserved : goal.loop-n-preserved
loop-n-preserved c =
    size_turn c.args.lengths.now c.loop-n.n-index _ _ _ _ (omega arith)
    (cell_is _ _ c.from.type_inv c.from.ensures)
    (cell_is _ _ c.wrapped_product-size.type_inv c.wrapped_product-size.ensures)
    c.loop-n.invariant
