use Rattle.std.proofs.Common.{pos, get_or, ◌+ℤ◌, ◌*ℤ◌, ◌∙◌, ap, subst, rules}
use Rattle.std.specs.Prelude.{slice_set}
use Rattle.std.specs.Int.{int_wrap}
use Rattle.std.proofs.lemmas.Int.{to_z-of_z}
use mir.Val.{SFits, to_z, of_z}
use mir.Syntax.{w128}
use Rattle.array_desc.specs.Desc.{DescView, IsDesc}
use Rattle.array_desc.proofs.Walks.{cell_is}
use Rattle.array_desc.proofs.Maps.{run-made}
use Rattle.array_desc.proofs.Sums.{meets-makes}
use Rattle.array_desc.proofs.desc.Desc.run_on.Goals as goal

pub returns : goal.returns
returns c =
    let old = c.args.self.now in
    let P : DescView → Type 0 = IsDesc in
    let d = subst P c.self.view_is c.self.invariant.0 in
    let b = c.self.inside.base in
    let s : SFits w128 b = search rules in
    let base_is = to_z-of_z w128 b s ∙ ap (λ (v : DescView). v.base) c.self.view_is in
    let strides_are = ap (λ (v : DescView). v.strides) c.self.view_is in
    let shape_is = ap (λ (v : DescView). v.shape) c.self.view_is in
    let k = c.args.axis in
    let read = c.as_slice-strides.ensures ∙ strides_are in
    let stride : SFits w128 (get_or c.as_slice-strides.result.now k (pos 0)) = search rules in
    let ns = c.with_axis-2.ensures ∙ ap (λ v. slice_set v k c.args.n) (c.lengths.ensures.value ∙ shape_is) in
    let m = run-made old k c.args.from c.args.step c.args.n _ _ _ _ _ _ _ d c.requires.axis c.requires.places
    (to_z-of_z w128 _ stride ∙ ap (λ v. get_or v k (pos 0)) read)
    (cell_is _ _ c.from.type_inv c.from.ensures)
    (cell_is _ _ c.wrapped_product.type_inv c.wrapped_product.ensures)
    (cell_is _ _ c.wrapped_sum.type_inv (c.wrapped_sum.ensures ∙ ap (λ z. int_wrap w128 (z +ℤ to_z w128 (of_z w128 c.wrapped_product.result))) base_is))
    (cell_is _ _ c.wrapped_product-2.type_inv (c.wrapped_product-2.ensures
    ∙ ap (λ z. int_wrap w128 (to_z w128 (of_z w128 (get_or c.as_slice-strides.result.now k (pos 0))) *ℤ z)) (to_z-of_z w128 c.args.step c.ranges.step)))
    (c.with_axis.ensures ∙ ap (λ v. slice_set v k (to_z w128 (of_z w128 c.wrapped_product-2.result))) read)
    ns in
    meets-makes _ _ _ old _ _ d c.requires.lengths ns m
