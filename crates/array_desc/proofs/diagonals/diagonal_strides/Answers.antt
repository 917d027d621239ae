use Rattle.std.proofs.Common.{◌+◌, length, ◌∙◌, ap, arith}
use Rattle.std.proofs.lemmas.List.{length_push}
use Rattle.std.specs.Int.{int_wrap}
use mir.Syntax.{w128}
use Rattle.array_desc.specs.Steps.{stride_at}
use Rattle.array_desc.proofs.Walks.{cell_is}
use Rattle.array_desc.proofs.Transposition.{over_turn}
use Rattle.array_desc.proofs.diagonals.diagonal_strides.Goals as goal

pub loop-axis-preserved : goal.loop-axis-preserved
loop-axis-preserved c = (
  over_turn (λ r. int_wrap w128 (stride_at r c.args.axes.now c.args.strides.now)) c.args.rank c.loop-axis.axis _ _ _ _ (omega arith)
      c.push_reserved.ensures.items
      (cell_is _ _ c.stride_sum.type_inv c.stride_sum.ensures)
      c.loop-axis.invariant.0,
  ap length c.push_reserved.ensures.items ∙ length_push _ _ ∙ ap (λ v. v + 1) c.loop-axis.invariant.1,
  omega arith,
)
