use Rattle.std.proofs.Common.{◌++◌, subst, string_bytes}
use Rattle.apl_model.specs.Printed.{cell_text, right_justified}
use Rattle.apl_print.specs.Layout.{field_text, text_before, text_behind}
use Rattle.apl_print.proofs.Utf8.{Adds, adds-then, on-ok}
use Rattle.apl_print.proofs.elements.add_element.Goals as goal

pub returns : goal.returns
returns c =
    let g = c.args.grid in
    let at = c.args.at in
    let z = c.args.cell.now in
    let ws = c.args.widths.now in
    on-ok c.add_behind.result _ _
    (λ behind. adds-then _ (string_bytes c.add_before.new.text) _ (text_before g at) (field_text g ws at z ++ text_behind g at) c.in_ok-add_before.ensures
    (adds-then (string_bytes c.add_before.new.text) (string_bytes c.add_field.new.text) _ (field_text g ws at z) (text_behind g at)
    (subst (λ w. Adds (string_bytes c.add_before.new.text) (string_bytes c.add_field.new.text) (right_justified w (cell_text g.kind z))) c.width_at.ensures c.in_ok-add_field.ensures)
    behind))
    c.add_behind.ensures
