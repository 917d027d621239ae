use Rattle.std.proofs.Common.{◌≡◌, ℤ, to_z, of_z, sym, ap, subst, ◌∙◌, rules}
use Rattle.std.proofs.lemmas.Int.{to_z-of_z}
use mir.Val.{SFits}
use mir.Syntax.{w128}
use Rattle.array_desc.specs.Desc.{DescView, IsDesc, number}
use Rattle.beating.specs.Folds.{AllRest}
use Rattle.beating.proofs.ScaleLemmas.{Scales, scaled_desc, scaled_parts, scaled-lawful, number-scaled, rest-scaled, wrapped_times}
use Rattle.beating.proofs.scaling.scaled.Goals as goal

lawful : (c : goal.After-copy) → IsDesc c.args.desc.now
lawful c = subst IsDesc c.desc.view_is c.desc.invariant.0

scales : (c : goal.After-copy) → Scales c.args.desc.now c.args.by
scales c = record { each = c.requires }

abbrev made : goal.After-copy → DescView
made c = record { base = to_z w128 (of_z w128 c.wrapped_product.result); strides = c.strides_times.result.items; shape = c.copy.result }

strides_are : (c : goal.After-copy) → c.strides_times.result.items ≡ wrapped_times c.args.by c.args.desc.now.strides
strides_are c = c.strides_times.ensures.items ∙ ap (λ (x : ℤ). wrapped_times x c.args.desc.now.strides) (to_z-of_z w128 c.args.by c.ranges.by)

made_is : (c : goal.After-copy) → made c ≡ scaled_desc c.args.desc.now c.args.by
made_is c =
    let s : SFits w128 c.desc.inside.base = search rules in
    let strides = strides_are c in
    let p : SFits w128 c.wrapped_product.result = record { sfits = c.wrapped_product.type_inv } in
    scaled_parts c.args.desc.now c.args.by c.desc.inside.base c.desc.inside.strides.items c.desc.inside.shape _ _ _ s c.ranges.by p
    c.desc.view_is c.wrapped_product.ensures strides c.copy.ensures

pub invariant_of-result : goal.invariant_of-result
invariant_of-result c =
    (subst IsDesc (sym (made_is c)) (scaled-lawful c.args.desc.now c.args.by (lawful c) (scales c)), c.strides_times.ensures.capacity)

pub returns-clause-numbers : goal.returns-clause-numbers
returns-clause-numbers c = λ i q. ap (λ (d : DescView). number d i) (made_is c) ∙ number-scaled c.args.desc.now c.args.by (lawful c) (scales c) i q

pub returns-clause-constant : goal.returns-clause-constant
returns-clause-constant c = λ h. subst AllRest (sym (strides_are c)) (rest-scaled c.args.by c.args.desc.now.strides h)

pub returns-clause-lawful : goal.returns-clause-lawful
returns-clause-lawful c = (invariant_of-result c).0
