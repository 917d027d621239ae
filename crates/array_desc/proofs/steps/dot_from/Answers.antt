use Rattle.std.proofs.Common.{pos, get_or, arith, rules}
use Rattle.std.proofs.lemmas.Int.{to_z-of_z}
use mir.Val.{SFits}
use mir.Syntax.{w128}
use Rattle.array_desc.proofs.Walks.{dot_turn, cell_is}
use Rattle.array_desc.proofs.steps.dot_from.Goals as goal

pub loop-axis-preserved : goal.loop-axis-preserved
loop-axis-preserved c =
    let s : SFits w128 (get_or c.args.strides.now c.loop-axis.axis (pos 0)) = search rules in
    dot_turn c.args.strides.now c.args.index.now c.loop-axis.axis _ _ _ _ _ _ (omega arith) (omega arith)
    (to_z-of_z w128 _ s)
    (cell_is _ _ c.from.type_inv c.from.ensures)
    (cell_is _ _ c.wrapped_product.type_inv c.wrapped_product.ensures)
    (cell_is _ _ c.wrapped_sum-sum.type_inv c.wrapped_sum-sum.ensures)
    c.loop-axis.invariant
