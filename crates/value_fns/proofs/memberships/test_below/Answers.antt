use Rattle.std.proofs.Common.{◌≡◌, Bool, true, false, refl, ◌∙◌, ℤ, pos, int_lt, get_or, ap, arith, rules, to_z-of_z, FitsSigned}
use Rattle.std.specs.Int.{w128}
use Rattle.apl_base.specs.Scalar.{truth}
use mir.Val.{bool_byte}
use Rattle.value_fns.proofs.Mapped.{mapped_more}
use Rattle.value_fns.proofs.memberships.test_below.Goals as goal

-- a test as a number
as_truth : (t : Bool) → pos (bool_byte t) ≡ truth t
as_truth true = refl
as_truth false = refl

pub loop-cell-preserved : goal.loop-cell-preserved
loop-cell-preserved c =
    let fits : FitsSigned w128 (get_or c.loop-cell.cells c.loop-cell.cell-index (pos 0)) = search rules in
    let bound_fits : FitsSigned w128 c.from.result = search rules in
    let test_fits : FitsSigned w128 c.from-in-loop-cell.result = search rules in
    let test = simp to_z-of_z at c.from-in-loop-cell.ensures in
    mapped_more (λ (z : ℤ). truth (int_lt z (pos c.args.bound))) c.args.cells.now c.loop-cell.cells c.loop-cell.cell-index _ (omega arith) (omega arith) c.loop-cell.invariant
    (to_z-of_z {w = w128} {z = c.from-in-loop-cell.result} test_fits ∙ test ∙ as_truth (int_lt (get_or c.loop-cell.cells c.loop-cell.cell-index (pos 0)) c.from.result) ∙ ap (λ (z : ℤ). truth (int_lt (get_or c.loop-cell.cells c.loop-cell.cell-index (pos 0)) z)) c.from.ensures)
