use Rattle.std.proofs.Common.{get_or, pos, ℤ, List, ap, ◌∙◌, rules}
use Rattle.std.proofs.lemmas.Int.{to_z-of_z}
use mir.Val.{SFits}
use mir.Syntax.{w128}
use Rattle.array_desc.specs.Desc.{DescView, number}
use Rattle.beating.proofs.RunLemmas.{run_of_desc}
use Rattle.beating.proofs.PositionLemmas.{are_positions}
use Rattle.beating.proofs.runs.run_of_numbers.Goals as goal

pub returns-clause-run : goal.returns-clause-run
returns-clause-run c =
    let s : SFits w128 c.desc.inside.base = search rules in
    let t : SFits w128 (get_or c.as_slice.result.now 0 (pos 0)) = search rules in
    run_of_desc c.args.desc.now _ _ _ c.size.ensures.lawful c.requires
    (to_z-of_z w128 c.desc.inside.base s ∙ ap (λ (d : DescView). d.base) c.desc.view_is)
    (to_z-of_z w128 _ t ∙ ap (λ (ss : List ℤ). get_or ss 0 (pos 0)) c.as_slice.ensures ∙ ap (λ (d : DescView). get_or d.strides 0 (pos 0)) c.desc.view_is)
    c.size.ensures.value

pub returns-clause-positions : goal.returns-clause-positions
returns-clause-positions c =
    let s : SFits w128 c.desc.inside.base = search rules in
    let t : SFits w128 (get_or c.as_slice.result.now 0 (pos 0)) = search rules in
    are_positions c.args.desc.now.shape (number c.args.desc.now) _
    (run_of_desc c.args.desc.now _ _ _ c.size.ensures.lawful c.requires
    (to_z-of_z w128 c.desc.inside.base s ∙ ap (λ (d : DescView). d.base) c.desc.view_is)
    (to_z-of_z w128 _ t ∙ ap (λ (ss : List ℤ). get_or ss 0 (pos 0)) c.as_slice.ensures ∙ ap (λ (d : DescView). get_or d.strides 0 (pos 0)) c.desc.view_is)
    c.size.ensures.value)
    c.size.ensures.lawful.numbers
