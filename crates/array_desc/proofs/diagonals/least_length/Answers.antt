use Rattle.std.proofs.Common.{◌∙◌, ap, refl, Some, arith}
use Rattle.array_desc.proofs.Transposition.{length_taken, length_left}
use Rattle.array_desc.proofs.diagonals.least_length.Goals as goal
use Rattle.array_desc.proofs.diagonals.least_length.Goals.{then-axis-becomes, else-axis-becomes}

pub loop-j-preserved : goal.loop-j-preserved
loop-j-preserved c =
    elim c.if-axis-becomes.branch [
      | then-axis-becomes w ↦
          length_taken c.args.axes.now c.args.lengths.now c.args.becomes c.loop-j.j _ _ _ _ c.loop-j-test.true (omega arith)
          w.if-axis-becomes.true refl (w.shortest-is ∙ ap Some w.shorter.ensures) c.loop-j.invariant
      | else-axis-becomes w ↦
          length_left c.args.axes.now c.args.lengths.now c.args.becomes c.loop-j.j _ _ _ c.loop-j-test.true (omega arith)
          w.if-axis-becomes.false w.shortest-is c.loop-j.invariant
    ]
