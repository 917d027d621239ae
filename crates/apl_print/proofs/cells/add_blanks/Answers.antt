use Rattle.std.proofs.Common.{◌≡◌, ◌++◌, ◌∙◌, ap, arith, replicate, string_bytes}
use Rattle.apl_print.proofs.Utf8.{adds-own, own-blanks}
use Rattle.apl_print.proofs.cells.add_blanks.Goals as goal

pub returns : goal.returns
returns c =
    let all : c.loop-blank._blank ≡ c.args.count = omega arith in
    adds-own _ _ _ (c.loop-blank.invariant ∙ ap (λ n. string_bytes c.args.text.now ++ replicate n 32) all) (own-blanks c.args.count)
