use Rattle.std.proofs.Common.{string_bytes}
use Rattle.apl_print.proofs.Layouts.{elements_more, spot_more}
use Rattle.apl_print.proofs.elements.add_elements.Goals as goal

pub loop-cell-preserved : goal.loop-cell-preserved
loop-cell-preserved c =
    let g = c.args.grid in
    let cells = c.args.cells.now in
    let i = c.loop-cell.cell-index in record {
      text = elements_more g c.args.widths.now c.args.at c.loop-cell.spot cells i _ (string_bytes c.loop-cell.text) _ c.loop-cell-test.true c.loop-cell.invariant.next c.loop-cell.invariant.text c.in_ok-add_element.ensures;
      next = spot_more g c.args.at c.loop-cell.spot c.next-spot.result cells i c.loop-cell-test.true c.loop-cell.invariant.next c.next-spot.ensures.next;
      lawful = c.next-spot.ensures.lawful;
    }
