use Rattle.std.proofs.Common.{◌≡◌, ◌<◌, take}
use Rattle.apl_print.specs.Layout.{column_after, widened}
use Rattle.apl_print.proofs.widths.widen.Given as goal

-- the columns were widened by the cells so far, and the next one stands behind them
abbrev pub invariant-loop-cell : goal.invariant-loop-cell
invariant-loop-cell l = record {
  widths : l.widths ≡ widened l.grid l.column l.fn.widths (take l.cell-index l.cells);
  next : l.at ≡ column_after l.grid l.column (take l.cell-index l.cells);
  within : l.at < l.grid.columns;
}
