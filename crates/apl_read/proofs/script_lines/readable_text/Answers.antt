use Rattle.std.proofs.Common.{take, ap, sym, ◌∙◌}
use Rattle.std.proofs.Math.Seq.{take-length}
use Rattle.std.proofs.lemmas.Str.{utf8_valid_len-IsUtf8}
use Rattle.apl_read.proofs.script_lines.readable_text.Goals as goal

pub returns-in-Ok : goal.returns-in-Ok
returns-in-Ok c =
    let s = c.args.script.now in
    c.in-Ok.ensures.cases.0 ∙ sym (ap (λ n. take n s) (utf8_valid_len-IsUtf8 s c.in-Ok.ensures.cases.1) ∙ take-length s)
