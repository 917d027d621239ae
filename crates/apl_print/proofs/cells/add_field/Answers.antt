use Rattle.std.proofs.Common.{ap, arith, string_bytes, length, ◌-◌}
use Rattle.apl_model.specs.Printed.{cell_text}
use Rattle.apl_print.proofs.LineTexts.{blanks_are, justified_bytes, no_blanks}
use Rattle.apl_print.proofs.Utf8.{on-ok}
use Rattle.apl_print.proofs.cells.add_field.Goals as goal
use Rattle.apl_print.proofs.cells.add_field.Goals.{then-width-gt0+in_ok-add_blanks, else-width-gt0}

pub returns : goal.returns
returns c =
    on-ok c.add_cell.result _ _
    (justified_bytes c.args.width (cell_text c.args.kind c.args.cell.now) _ (string_bytes c.if-width-gt0.text) _
    (elim c.if-width-gt0.branch [
      | then-width-gt0+in_ok-add_blanks w ↦
          blanks_are w.from.result (c.args.width - length (cell_text c.args.kind c.args.cell.now)) _ (string_bytes w.add_blanks.new.text) _
          (omega (arith, w.from.ensures, w.saturating_sub.ensures, w.width_of.ensures)) (ap string_bytes w.text-is) w.in_ok-add_blanks.ensures
      | else-width-gt0 w ↦
          no_blanks (c.args.width - length (cell_text c.args.kind c.args.cell.now)) _ _ (omega arith) (ap string_bytes w.text-is)
    ]))
    c.add_cell.ensures
