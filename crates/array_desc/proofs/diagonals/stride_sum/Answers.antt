use Rattle.std.proofs.Common.{pos, get_or, ◌∙◌, arith, rules}
use Rattle.std.proofs.lemmas.Int.{to_z-of_z}
use mir.Val.{SFits}
use mir.Syntax.{w128}
use Rattle.array_desc.proofs.Transposition.{stride_taken, stride_left}
use Rattle.array_desc.proofs.Walks.{cell_is}
use Rattle.array_desc.proofs.diagonals.stride_sum.Goals as goal
use Rattle.array_desc.proofs.diagonals.stride_sum.Goals.{then-axis-becomes, else-axis-becomes}

pub loop-j-preserved : goal.loop-j-preserved
loop-j-preserved c =
    elim c.if-axis-becomes.branch [
      | then-axis-becomes w ↦
          (let s : SFits w128 (get_or c.args.strides.now c.loop-j.j (pos 0)) = search rules in
          stride_taken c.args.axes.now c.args.strides.now c.args.becomes c.loop-j.j _ _ _ _ c.loop-j-test.true (omega arith)
          w.if-axis-becomes.true
          (to_z-of_z w128 _ s)
          (w.sum-is ∙ cell_is _ _ w.wrapped_sum-sum.type_inv w.wrapped_sum-sum.ensures)
          c.loop-j.invariant)
      | else-axis-becomes w ↦
          stride_left c.args.axes.now c.args.strides.now c.args.becomes c.loop-j.j _ _ _ c.loop-j-test.true (omega arith)
          w.if-axis-becomes.false w.sum-is c.loop-j.invariant
    ]
