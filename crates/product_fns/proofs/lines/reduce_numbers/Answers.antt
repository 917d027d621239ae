use Rattle.std.proofs.Common.{◌≡◌, ◌+◌, ◌-◌, ℕ, ℤ, Some, length, take, get_or, pos, sym, ap, ◌∙◌, arith, rules}
use Rattle.std.proofs.lemmas.Int.{to_z-of_z}
use mir.Val.{SFits}
use mir.Syntax.{w128}
use Rattle.apl_base.specs.Scalar.{number}
use Rattle.product_fns.proofs.LineLemmas.{numbers_folded, folded_number}
use Rattle.product_fns.proofs.GroupLemmas.{some_if}
use Rattle.product_fns.proofs.lines.reduce_numbers.Goals as goal

pub returns-in-Some-clause-exact : goal.returns-in-Some-clause-exact
returns-in-Some-clause-exact c =
    let end : ℕ = length c.args.cells.now - 1 in
    let long : end + 1 ≡ length c.args.cells.now = omega (arith, some_if (length c.args.cells.now) c.if-is_empty.ensures) in
    let fits : SFits w128 (get_or c.args.cells.now end (pos 0)) = search rules in
    let whole = numbers_folded c.args.f c.args.cells.now end _ c.fold.result long (to_z-of_z w128 _ fits) c.fold.ensures.exact in
    let same : SFits w128 c.in-Some.value.cell = search rules in
    ap (λ (z : ℤ). Some (number z)) (to_z-of_z w128 _ same)
    ∙ folded_number c.args.f (take end c.args.cells.now) _ c.in-Some.value (sym c.in-Some.is ∙ c.fold.ensures.exact) c.in-Some.ensures.number
    ∙ sym c.in-Some.is ∙ whole

pub returns-in-None-clause-exact : goal.returns-in-None-clause-exact
returns-in-None-clause-exact c =
    let end : ℕ = length c.args.cells.now - 1 in
    let long : end + 1 ≡ length c.args.cells.now = omega (arith, some_if (length c.args.cells.now) c.if-is_empty.ensures) in
    let fits : SFits w128 (get_or c.args.cells.now end (pos 0)) = search rules in
    sym c.in-None.is ∙ numbers_folded c.args.f c.args.cells.now end _ c.fold.result long (to_z-of_z w128 _ fits) c.fold.ensures.exact
