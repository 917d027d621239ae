use Rattle.std.proofs.Common.{◌≡◌, ◌∙◌, ℤ, ◌+ℤ◌, ◌*ℤ◌, Some, Option, ap, arith, rules, to_z-of_z, to_z, of_z, FitsSigned}
use Rattle.std.specs.Int.{w128}
use Rattle.std.specs.Option.{option_and_then}
use Rattle.std.proofs.lemmas.Int.{ints}
use Rattle.apl_base.specs.Number.{IsNumber}
use Rattle.apl_base.specs.Scalar.{in_range}
use Rattle.value_fns.proofs.decodes.next_number.Goals as goal

pub returns-clause-value : goal.returns-clause-value
returns-clause-value c =
    let f : FitsSigned w128 c.args.number = c.ranges.number in
    let g : FitsSigned w128 c.args.base = c.ranges.base in
    let product = simp to_z-of_z at c.in_ok-checked_mul.ensures in
    let p : FitsSigned w128 c.in_ok-checked_mul.field-0 = search rules in
    let number : IsNumber c.in_ok-product.product = c.in_ok-product.ensures.number in
    let ranged : Some c.in_ok-product.product ≡ in_range (c.args.number *ℤ c.args.base) = (simp to_z-of_z at c.in_ok-product.ensures.value) ∙ ap in_range product.1 in
    let exact : to_z w128 (of_z w128 (to_z w128 (of_z w128 c.in_ok-product.product) +ℤ to_z w128 (of_z w128 c.args.digit))) ≡ c.in_ok-product.product +ℤ c.args.digit = omega (arith, ints, number.least, number.most, c.requires.least, c.requires.most) in
    let sum : c.in_language-2.result ≡ in_range (c.in_ok-product.product +ℤ c.args.digit) = c.in_language-2.ensures.value ∙ ap in_range exact in
    sum ∙ ap (λ (o : Option ℤ). option_and_then (λ m. in_range (m +ℤ c.args.digit)) o) ranged
