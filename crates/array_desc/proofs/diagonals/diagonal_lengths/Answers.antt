use Rattle.std.proofs.Common.{◌+◌, length, ◌∙◌, ap, arith}
use Rattle.std.proofs.lemmas.List.{length_push}
use Rattle.apl_base.specs.Selection.{least, lengths_at}
use Rattle.array_desc.proofs.Transposition.{over_turn}
use Rattle.array_desc.proofs.diagonals.diagonal_lengths.Goals as goal

pub loop-axis-preserved : goal.loop-axis-preserved
loop-axis-preserved c = (
  over_turn (λ r. least (lengths_at r c.args.axes.now c.args.lengths.now)) c.args.rank c.loop-axis.axis _ _ _ _ (omega arith)
      c.push_reserved.ensures.items
      (c.least_length.ensures)
      c.loop-axis.invariant.0,
  ap length c.push_reserved.ensures.items ∙ length_push _ _ ∙ ap (λ v. v + 1) c.loop-axis.invariant.1,
  omega arith,
)
