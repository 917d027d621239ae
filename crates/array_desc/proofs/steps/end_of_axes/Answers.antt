use Rattle.std.proofs.Common.{pos, ◌+◌, get_or, length, arith, rules, ◌∙◌, ap}
use Rattle.std.proofs.lemmas.Int.{to_z-of_z}
use Rattle.std.proofs.lemmas.List.{length_push}
use mir.Val.{SFits}
use mir.Syntax.{w128}
use Rattle.array_desc.specs.Steps.{end_index}
use Rattle.array_desc.proofs.Walks.{paired_turn}
use Rattle.array_desc.proofs.steps.end_of_axes.Goals as goal

pub loop-axis-preserved : goal.loop-axis-preserved
loop-axis-preserved c =
    let s : SFits w128 (get_or c.args.strides.now c.loop-axis.axis (pos 0)) = search rules in
    let n = get_or c.args.lengths.now c.loop-axis.axis 0 in (
      paired_turn (end_index c.args.upper) c.args.strides.now c.args.lengths.now c.loop-axis.axis (pos 0) 0 _ _ _ (omega arith) (omega arith)
          c.push_reserved.ensures.items
          ((c.end_of.ensures ∙ ap (λ v. end_index c.args.upper v n) (to_z-of_z w128 _ s)))
          c.loop-axis.invariant.0,
      ap length c.push_reserved.ensures.items ∙ length_push _ _ ∙ ap (λ v. v + 1) c.loop-axis.invariant.1,
      omega arith,
    )
