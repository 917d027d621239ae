use Rattle.std.proofs.Common.{◌≡◌, pos, ◌+ℤ◌, ◌*ℤ◌, ap, sym, subst, ◌∙◌, FitsSigned, arith, rules}
use Rattle.std.proofs.lemmas.Int.{to_z-of_z}
use mir.Val.{SFits, to_z, of_z}
use mir.Syntax.{w128}
use Rattle.apl_base.specs.Number.{IsNumber}
use Rattle.desc_use.proofs.WalkLemmas.{along_turn, product_fits, first_is}
use Rattle.desc_use.proofs.push_row.Goals as goal
use Rattle.desc_use.proofs.push_row.Goals.{After-from}
use Rattle.apl_base.proofs.Fitting.{number_in_cell}

from_is : (c : After-from) → to_z w128 (of_z w128 c.args.row.from) ≡ c.args.row.from
from_is c = let s : SFits w128 c.args.row.from = search rules in to_z-of_z w128 c.args.row.from s

step_is : (c : After-from) → to_z w128 (of_z w128 c.args.row.step) ≡ c.args.row.step
step_is c = let s : SFits w128 c.args.row.step = search rules in to_z-of_z w128 c.args.row.step s

index_is : (c : After-from) → to_z w128 (of_z w128 c.from.result) ≡ pos c.loop-j.j
index_is c = let s : SFits w128 c.from.result = record { sfits = c.from.type_inv } in to_z-of_z w128 c.from.result s ∙ c.from.ensures

number : (c : After-from) → IsNumber (c.args.row.from +ℤ (c.args.row.step *ℤ pos c.loop-j.j))
number c = c.requires c.loop-j.j c.loop-j-test.true

first : (c : After-from) → IsNumber c.args.row.from
first c = first_is c.args.row.from c.args.row.step (c.requires 0 (omega (arith, c.loop-j-test.true)))

-- the sum as it is computed
sum_is : (c : After-from) → to_z w128 (of_z w128 c.args.row.from) +ℤ to_z w128 (of_z w128 (to_z w128 (of_z w128 c.args.row.step) *ℤ to_z w128 (of_z w128 c.from.result))) ≡ c.args.row.from +ℤ (c.args.row.step *ℤ pos c.loop-j.j)
sum_is c =
    let p = c.args.row.step *ℤ pos c.loop-j.j in
    let product = ap (λ z. z *ℤ to_z w128 (of_z w128 c.from.result)) (step_is c) ∙ ap (λ z. c.args.row.step *ℤ z) (index_is c) in
    let kept = ap (λ z. to_z w128 (of_z w128 z)) product ∙ to_z-of_z w128 p (product_fits c.args.row.from p (first c) (number c)) in
    ap (λ z. z +ℤ to_z w128 (of_z w128 (to_z w128 (of_z w128 c.args.row.step) *ℤ to_z w128 (of_z w128 c.from.result)))) (from_is c)
    ∙ ap (λ z. c.args.row.from +ℤ z) kept

pub overflow_add-row : goal.overflow_add-row
overflow_add-row c =
    let b = (goal.at.overflow_add-row c).After-from in
    subst (FitsSigned w128) (sym (sum_is b)) (number_in_cell _ (number b))

pub loop-j-preserved : goal.loop-j-preserved
loop-j-preserved c =
    let b = (goal.at.loop-j-preserved c).After-from in
    let e = c.in_ok-push.ensures.items in
    let n = c.args.row.from +ℤ (c.args.row.step *ℤ pos c.loop-j.j) in
    let x = ap (λ z. to_z w128 (of_z w128 z)) (sum_is b) ∙ to_z-of_z w128 n (number_in_cell n (number b)) in
    along_turn c.loop-j.numbers.items c.push.new.self.items c.args.numbers.now.items _ c.args.row.from c.args.row.step c.loop-j.j c.loop-j.invariant e x
