use Rattle.std.proofs.Common.{◌∙◌, ap, get_or, max, refl}
use Rattle.apl_print.proofs.ColumnWidths.{column_more, widened_more}
use Rattle.apl_print.proofs.widths.widen.Goals as goal

pub loop-cell-preserved : goal.loop-cell-preserved
loop-cell-preserved c =
    let g = c.args.grid in
    let cells = c.args.cells.now in
    let i = c.loop-cell.cell-index in record {
      widths = widened_more g c.args.column c.loop-cell.at c.args.widths.now c.loop-cell.widths _ c.max.result cells i c.loop-cell-test.true c.loop-cell.invariant.next c.loop-cell.invariant.widths (c.max.ensures ∙ ap (λ n. max (get_or c.loop-cell.widths c.loop-cell.at 0) n) c.width_of-width.ensures) refl;
      next = column_more g c.args.column c.loop-cell.at c.next_column-at.result cells i c.loop-cell-test.true c.loop-cell.invariant.next c.next_column-at.ensures.next;
      within = c.next_column-at.ensures.within;
    }
