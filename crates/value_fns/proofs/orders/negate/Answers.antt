use Rattle.std.proofs.Common.{pos, neg_ℤ, get_or, arith, rules, FitsSigned}
use Rattle.std.specs.Int.{w128}
use Rattle.std.proofs.lemmas.Int.{ints}
use Rattle.apl_base.specs.Number.{IsNumber}
use Rattle.value_fns.proofs.Mapped.{mapped_more, still}
use Rattle.value_fns.proofs.orders.negate.Goals as goal

pub loop-cell-preserved : goal.loop-cell-preserved
loop-cell-preserved c =
    let fits : FitsSigned w128 (get_or c.loop-cell.cells c.loop-cell.cell-index (pos 0)) = search rules in
    let same = still neg_ℤ c.args.cells.now c.loop-cell.cells c.loop-cell.cell-index (pos 0) (omega arith) c.loop-cell.invariant in
    let number : IsNumber (get_or c.args.cells.now c.loop-cell.cell-index (pos 0)) = c.requires c.loop-cell.cell-index (pos 0) (omega arith) in
    mapped_more neg_ℤ c.args.cells.now c.loop-cell.cells c.loop-cell.cell-index _ (omega arith) (omega arith) c.loop-cell.invariant (omega (arith, ints, same, number.least, number.most))
