use Rattle.std.proofs.Common.{sym, ap, ◌∙◌, map, is_some, arith}
use Rattle.std.proofs.lemmas.List.{take_all}
use Rattle.apl_compile.proofs.Emitting.{mask-positions}
use Rattle.apl_compile.proofs.expressions.mask_of.Goals as goal

pub returns : goal.returns
returns c =
    let qs = c.args.positions.now in
    c.loop-position.invariant ∙ ap (map is_some) (take_all c.loop-position.position-index qs (omega arith)) ∙ sym (mask-positions qs)
