use mir.Syntax.{w128}
use Rattle.std.proofs.Common.{◌∙◌, ℤ, List, pos, get_or, ap, rules, to_z-of_z, FitsSigned}
use Rattle.array_desc.specs.Desc.{DescView}
use Rattle.made_picks.proofs.walks.stride_of.Goals as goal

pub returns : goal.returns
returns c =
    let fits : FitsSigned w128 (get_or c.as_slice.result.now c.args.axis (pos 0)) = search rules in
    to_z-of_z {w = w128} {z = get_or c.as_slice.result.now c.args.axis (pos 0)} fits
    ∙ ap (λ (ss : List ℤ). get_or ss c.args.axis (pos 0)) c.as_slice.ensures
    ∙ ap (λ (d : DescView). get_or d.strides c.args.axis (pos 0)) c.desc.view_is
