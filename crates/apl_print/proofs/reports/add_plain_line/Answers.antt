use Rattle.std.proofs.Common.{string_bytes}
use Rattle.std.specs.Str.{chars}
use Rattle.apl_model.specs.Printed.{plain_prefix}
use Rattle.apl_print.proofs.ReportTexts.{plain_bytes, pointed_bytes}
use Rattle.apl_print.proofs.Utf8.{on-ok}
use Rattle.apl_print.proofs.reports.add_plain_line.Goals as goal

pub returns : goal.returns
returns c =
    on-ok c.add_caret.result _ _
    (pointed_bytes plain_prefix (chars c.args.line.now) c.args.column _ _ (string_bytes c.add_blanks.new.text) _ (plain_bytes c.args.line.now _ _ c.utf8.line c.in_ok-write.ensures.bytes) c.in_ok-add_blanks.ensures)
    c.add_caret.ensures
