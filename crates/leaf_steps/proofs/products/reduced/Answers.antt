use Rattle.std.proofs.Common.{ℤ, pos, ◌≤◌, length, subst, ◌∙◌}
use Rattle.std.proofs.lemmas.Int.{to_z-of_z}
use mir.Syntax.{w128}
use Rattle.array_desc.specs.Desc.{DescView}
use Rattle.drag_along.specs.Nodes.{leaf_shape}
use Rattle.apl_model.specs.Product.{reduce}
use Rattle.apl_model.specs.Whole.{Answer}
use Rattle.leaf_names.specs.Variables.{array_of}
use Rattle.leaf_steps.specs.Making.{IsMade}
use Rattle.leaf_steps.proofs.AxisLemmas.{IsSameAxis, reduced_along}
use Rattle.leaf_steps.proofs.ProductLemmas.{product_by}
use Rattle.leaf_steps.proofs.products.reduced.Goals as goal

pub returns : goal.returns
returns c =
    let b = array_of c.args.store.now c.args.b.now in
    let few : length (leaf_shape c.args.b.now) ≤ 8 = subst (λ (d : DescView). length d.shape ≤ 8) (c.behind-b.view_is ∙ c.desc.ensures) c.rank-rank.ensures.lawful.rank in
    let same = subst (λ (z : ℤ). IsSameAxis z c.args.axis c.counted_from_one.result) (to_z-of_z w128 c.args.origin c.ranges.origin) c.counted_from_one.ensures in
    subst (λ (answer : Answer). IsMade c.args.store.now c.reduce.new.store answer c.reduce.result) (reduced_along c.args.origin c.args.f c.args.axis c.counted_from_one.result b same few)
    (product_by _ c.args.store.now c.reduce.new.store _ _ (reduce (pos 1) c.args.f c.counted_from_one.result b) c.reduce.result c.reduce.ensures.answer)
