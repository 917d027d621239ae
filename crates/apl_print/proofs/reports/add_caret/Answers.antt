use Rattle.std.proofs.Common.{◌≡◌, ◌-◌, arith, string_bytes}
use Rattle.apl_print.proofs.ReportTexts.{caret_bytes}
use Rattle.apl_print.proofs.reports.add_caret.Goals as goal

pub returns : goal.returns
returns c =
    let before : c.from.result ≡ c.args.column - 1 = omega (arith, c.from.ensures, c.saturating_sub.ensures) in
    caret_bytes _ (string_bytes c.add_blanks.new.text) _ c.from.result c.args.column before c.in_ok-add_blanks.ensures c.in_ok-push_str.ensures.bytes
