use Rattle.std.proofs.Common.{◌≡◌, ℕ, pos, ap, ◌∙◌, FitsSigned, ◌<◌, unsigned_abs, arith}
use Rattle.std.specs.Int.{w128}
use Rattle.std.proofs.lemmas.Int.{ints, to_z-of_z}
use Rattle.apl_base.specs.Scalar.{factorial}
use Rattle.value_range.proofs.Equal.{factorial-step, factorial_fits}
use Rattle.value_range.proofs.numbers.factorial.Goals as goal

pub overflow_mul-product : goal.overflow_mul-product
overflow_mul-product c =
    let f : FitsSigned w128 c.from-product.result = record { sfits = c.from-product.type_inv } in
    let l : c.loop-k.k < 32 = omega (arith, ints) in
    factorial_fits _ _ c.loop-k.k c.loop-k.invariant (to_z-of_z w128 c.from-product.result f ∙ c.from-product.ensures) l

pub loop-k-preserved : goal.loop-k-preserved
loop-k-preserved c =
    let f : FitsSigned w128 c.from-product.result = record { sfits = c.from-product.type_inv } in
    let l : c.loop-k.k < 32 = omega (arith, ints) in
    let e = to_z-of_z w128 c.from-product.result f ∙ c.from-product.ensures in
    to_z-of_z w128 _ (factorial_fits _ _ c.loop-k.k c.loop-k.invariant e l) ∙ factorial-step _ _ c.loop-k.k c.loop-k.invariant e

pub returns : goal.returns
returns c =
    let f = c.ranges.n in
    let a = c.loop-k.auto.k-end in
    let e : c.loop-k.k ≡ unsigned_abs c.args.n = omega (arith, ints) in
    c.loop-k.invariant ∙ ap (λ (k : ℕ). pos (factorial k)) e
