use Rattle.std.proofs.Common.{◌∙◌, ap, string_bytes, suc}
use Rattle.apl_model.specs.Printed.{body_prefix, plain_prefix}
use Rattle.apl_print.proofs.ReportTexts.{report_in_bytes}
use Rattle.apl_print.proofs.reports.text_of_report.Goals as goal
use Rattle.apl_print.proofs.reports.text_of_report.Goals.{in-Some+in_ok-add_body_line-in-Some, in-None+in_ok-add_plain_line-in-None}

pub returns : goal.returns
returns c =
    elim c.match-function_with.branch [
      | in-Some+in_ok-add_body_line-in-Some w ↦
          report_in_bytes c.args.program.now.outline c.args.kind c.args.place (body_prefix w.in-Some.f.now (suc w.in-Some.before)) c.text-line.result.now (string_bytes c.in_ok-text.text) (string_bytes c.push_str.new.self) _
          w.in-Some.ensures c.text-line.ensures (c.in_ok-text.ensures.ok ∙ c.name_of.ensures) c.in_ok-push_str.ensures.bytes (ap string_bytes w.text-is ∙ w.in_ok-add_body_line-in-Some.ensures)
      | in-None+in_ok-add_plain_line-in-None w ↦
          report_in_bytes c.args.program.now.outline c.args.kind c.args.place plain_prefix c.text-line.result.now (string_bytes c.in_ok-text.text) (string_bytes c.push_str.new.self) _
          w.in-None.ensures c.text-line.ensures (c.in_ok-text.ensures.ok ∙ c.name_of.ensures) c.in_ok-push_str.ensures.bytes (ap string_bytes w.text-is ∙ w.in_ok-add_plain_line-in-None.ensures)
    ]
