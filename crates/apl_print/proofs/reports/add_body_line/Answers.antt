use Rattle.std.proofs.Common.{◌≡◌, ◌+◌, ◌∙◌, ap, arith, decimal, length, suc, string_bytes}
use Rattle.std.proofs.lemmas.Str.{encodes-IsAscii}
use Rattle.std.specs.Str.{chars}
use Rattle.apl_model.specs.Printed.{body_prefix}
use Rattle.apl_print.proofs.ReportTexts.{body_bytes, body_blanks, pointed_bytes}
use Rattle.apl_print.proofs.Utf8.{on-ok}
use Rattle.apl_print.proofs.reports.add_body_line.Goals as goal

pub returns : goal.returns
returns c =
    let number : c.args.before + 1 ≡ suc c.args.before = omega arith in
    let shown : c.format-number.result.now ≡ decimal (suc c.args.before) = c.format-number.ensures.text ∙ ap decimal number in
    on-ok c.add_caret.result _ _
    (pointed_bytes (body_prefix c.args.f.now (suc c.args.before)) (chars c.args.line.now) c.args.column _ (string_bytes c.write.new.self) (string_bytes c.add_blanks-2.new.text) _
    (body_bytes c.args.f.now (suc c.args.before) c.as_str-name.result.now c.format-number.result.now c.args.line.now _ _ c.as_str-name.ensures.bytes shown (record { same = encodes-IsAscii _ c.format-number.ensures.ascii }) c.utf8.line c.in_ok-write.ensures.bytes)
    (body_blanks c.args.f.now (suc c.args.before) c.character_count.result (length c.format-number.result.now) _ (string_bytes c.add_blanks.new.text) _
    (c.character_count.ensures ∙ ap length c.as_str-name.ensures.characters) (ap length shown) c.in_ok-add_blanks.ensures c.in_ok-add_blanks-2.ensures))
    c.add_caret.ensures
