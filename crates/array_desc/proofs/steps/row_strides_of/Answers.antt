use Rattle.std.proofs.Common.{◌+◌, length, pos, ◌∙◌, ap, arith}
use Rattle.std.specs.Int.{int_wrap}
use Rattle.std.proofs.lemmas.List.{length_push}
use mir.Syntax.{w128}
use Rattle.apl_base.specs.Array.{size_of}
use Rattle.array_desc.proofs.Walks.{row_turn, cell_is, rest_is}
use Rattle.array_desc.proofs.steps.row_strides_of.Goals as goal

pub loop-axis-preserved : goal.loop-axis-preserved
loop-axis-preserved c = (
  row_turn c.args.lengths.now c.loop-axis.axis _ _ _ _ (omega arith)
      c.push_reserved.ensures.items
      (cell_is _ _ c.size_behind.type_inv (c.size_behind.ensures ∙ ap (λ v. int_wrap w128 (pos (size_of v))) (rest_is c.args.lengths.now (c.loop-axis.axis + 1))))
      c.loop-axis.invariant.0,
  ap length c.push_reserved.ensures.items ∙ length_push _ _ ∙ ap (λ v. v + 1) c.loop-axis.invariant.1,
  omega arith,
)
