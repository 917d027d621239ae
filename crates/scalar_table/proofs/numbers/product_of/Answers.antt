use Rattle.std.proofs.Common.{◌≡◌, ap, ◌∙◌, to_z, of_z, ℤ, rules}
use Rattle.std.specs.Prelude.{◌*ℤ◌}
use mir.Syntax.{w128}
use Rattle.apl_base.specs.Scalar.{in_range}
use Rattle.scalar_table.proofs.Products.{small-fits, small-in_range}
use Rattle.scalar_table.proofs.numbers.product_of.Goals as goal

pub overflow_mul-result : goal.overflow_mul-result
overflow_mul-result c =
    small-fits (to_z w128 (of_z w128 c.args.a)) (to_z w128 (of_z w128 c.args.b))
    (c.is_small.ensures.0 c.if-is_small.true) (c.is_small-then-is_small.ensures.0 c.if-is_small-2.true)

pub returns-then-is_small-2 : goal.returns-then-is_small-2
returns-then-is_small-2 c =
    let a : to_z w128 (of_z w128 c.args.a) ≡ c.args.a = search rules in
    let b : to_z w128 (of_z w128 c.args.b) ≡ c.args.b = search rules in
    small-in_range (to_z w128 (of_z w128 c.args.a)) (to_z w128 (of_z w128 c.args.b))
    (c.is_small.ensures.0 c.if-is_small.true) (c.is_small-then-is_small.ensures.0 c.if-is_small-2.true)
    ∙ ap (λ (z : ℤ). in_range (z *ℤ to_z w128 (of_z w128 c.args.b))) a ∙ ap (λ (z : ℤ). in_range (c.args.a *ℤ z)) b
