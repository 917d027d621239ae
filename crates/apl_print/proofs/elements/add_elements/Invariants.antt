use Rattle.std.proofs.Common.{◌≡◌, ◌++◌, take, encode_utf8_all, string_bytes}
use Rattle.apl_print.specs.Layout.{elements_text, spot_after, IsSpot}
use Rattle.apl_print.proofs.elements.add_elements.Given as goal

-- the cells so far were added, and the next one stands behind them
abbrev pub invariant-loop-cell : goal.invariant-loop-cell
invariant-loop-cell l = record {
  text : string_bytes l.text ≡ string_bytes l.fn.text ++ encode_utf8_all (elements_text l.grid l.widths l.fn.at (take l.cell-index l.cells));
  next : l.spot ≡ spot_after l.grid l.fn.at (take l.cell-index l.cells);
  lawful : IsSpot l.grid l.spot;
}
