use Rattle.std.proofs.Common.{◌∙◌, ap, map, pos, string_bytes, subst}
use Rattle.array_desc.specs.Desc.{DescView}
use Rattle.apl_model.specs.Printed.{number_text}
use Rattle.apl_print.specs.Lines.{numbers_field}
use Rattle.apl_print.proofs.LineTexts.{view_bytes}
use Rattle.apl_print.proofs.Utf8.{Adds, on-ok}
use Rattle.apl_print.proofs.lines.add_view.Goals as goal

pub returns : goal.returns
returns c =
    on-ok c.add_numbers-2.result _ _
    (view_bytes c.args.desc.now c.as_slice-2.result.now _ (string_bytes c.push.new.self) (string_bytes c.add_number.new.text) (string_bytes c.push-2.new.self) (string_bytes c.add_numbers.new.text) (string_bytes c.push-3.new.self) _
    (c.as_slice-2.ensures.value ∙ c.in_ok-lengths.ensures ∙ ap (map pos) (c.lengths.ensures.value ∙ ap (λ (d : DescView). d.shape) c.desc.view_is))
    c.in_ok-push.ensures.bytes
    (subst (λ (d : DescView). Adds (string_bytes c.push.new.self) (string_bytes c.add_number.new.text) (number_text d.base)) c.desc.view_is c.in_ok-add_number.ensures)
    c.in_ok-push-2.ensures.bytes
    (subst (λ zs. Adds (string_bytes c.push-2.new.self) (string_bytes c.add_numbers.new.text) (numbers_field zs)) (c.as_slice.ensures ∙ ap (λ (d : DescView). d.strides) c.desc.view_is) c.in_ok-add_numbers.ensures)
    c.in_ok-push-3.ensures.bytes)
    c.add_numbers-2.ensures
