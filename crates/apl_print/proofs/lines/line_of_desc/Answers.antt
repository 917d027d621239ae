use Rattle.std.proofs.Common.{◌++◌, string_bytes, subst}
use Rattle.std.specs.List.{flat_map}
use Rattle.array_desc.specs.Desc.{DescView}
use Rattle.apl_model.specs.Printed.{blank}
use Rattle.apl_print.specs.Lines.{view_fields}
use Rattle.apl_print.proofs.LineTexts.{desc_bytes}
use Rattle.apl_print.proofs.Utf8.{Adds}
use Rattle.apl_print.proofs.lines.line_of_desc.Goals as goal

pub returns : goal.returns
returns c =
    desc_bytes c.args.name.now c.args.leaf.now c.as_str.result.now (string_bytes c.in_ok-text.text) (string_bytes c.push_str.new.self) (string_bytes c.add_source.new.text) (string_bytes c.add_view.new.text) _
    c.as_str.ensures.bytes c.in_ok-text.ensures.ok c.in_ok-push_str.ensures.bytes c.in_ok-add_source.ensures
    (subst (λ (d : DescView). Adds (string_bytes c.add_source.new.text) (string_bytes c.add_view.new.text) (flat_map (λ field. blank ++ field) (view_fields d))) c.desc.ensures c.in_ok-add_view.ensures)
    c.in_ok-push.ensures.bytes
