use Rattle.std.proofs.Common.{◌∙◌, sym, ap, subst, rules}
use mir.Val.{SFits}
use mir.Syntax.{w128}
use Rattle.array_desc.specs.Desc.{DescView, IsDesc, number}
use Rattle.beating.proofs.ScaleLemmas.{Shifts, shifted_parts, shifted_fits, shifted-lawful, number-shifted}
use Rattle.beating.proofs.scaling.shifted.Goals as goal

pub overflow_add-moved : goal.overflow_add-moved
overflow_add-moved c =
    let s : SFits w128 c.moved.inside.base = search rules in
    let shifts : Shifts c.args.desc.now c.args.by = record { each = c.requires.in_range; empty = c.requires.empty } in
    shifted_fits c.args.desc.now c.args.by c.moved.inside.base _ _ c.copy-moved.ensures.lawful shifts s c.ranges.by (c.moved.view_is ∙ c.copy-moved.ensures.same)

pub invariant_of-moved : goal.invariant_of-moved
invariant_of-moved c =
    let s : SFits w128 c.moved.inside.base = search rules in
    let shifts : Shifts c.args.desc.now c.args.by = record { each = c.requires.in_range; empty = c.requires.empty } in
    let made = shifted_parts c.args.desc.now c.args.by c.moved.inside.base _ _ c.copy-moved.ensures.lawful shifts s c.ranges.by (c.moved.view_is ∙ c.copy-moved.ensures.same) in
    (subst IsDesc (sym made) (shifted-lawful c.args.desc.now c.args.by c.copy-moved.ensures.lawful shifts), c.moved.invariant.1)

pub returns-clause-numbers : goal.returns-clause-numbers
returns-clause-numbers c = λ i q.
    let s : SFits w128 c.moved.inside.base = search rules in
    let shifts : Shifts c.args.desc.now c.args.by = record { each = c.requires.in_range; empty = c.requires.empty } in
    let made = shifted_parts c.args.desc.now c.args.by c.moved.inside.base _ _ c.copy-moved.ensures.lawful shifts s c.ranges.by (c.moved.view_is ∙ c.copy-moved.ensures.same) in
    ap (λ (d : DescView). number d i) made ∙ number-shifted c.args.desc.now c.args.by i

pub returns-clause-lawful : goal.returns-clause-lawful
returns-clause-lawful c = (invariant_of-moved c).0
