use Rattle.std.proofs.Common.{◌∙◌, ◌++◌, ap, subst, string_bytes}
use Rattle.std.proofs.lemmas.Str.{encodes-IsAscii}
use Rattle.std.specs.Str.{IsAscii}
use Rattle.apl_print.proofs.Utf8.{adds-own}
use Rattle.apl_print.proofs.cells.add_digits.Goals as goal

pub returns : goal.returns
returns c =
    adds-own _ _ _ (c.in_ok-push_str.ensures.bytes ∙ ap (λ bs. string_bytes c.args.text.now ++ bs) c.format.ensures.text)
    (record { same = encodes-IsAscii _ (subst IsAscii c.format.ensures.text c.format.ensures.ascii) })
