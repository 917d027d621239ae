use Rattle.std.proofs.Common.{rules, refl, ap, ◌==◌, ◌∙◌, encode_utf8_all, string_bytes}
use Rattle.std.specs.Char.{encode_utf8}
use Rattle.std.proofs.lemmas.List.{take_all}
use Rattle.command_steps.proofs.Joins.{joined, joined_line, joined_more}
use Rattle.command_steps.proofs.lines.names_line.Goals as goal

pub loop-at-preserved : goal.loop-at-preserved
loop-at-preserved c =
    joined_more c.args.names.now c.loop-at.at (string_bytes c.loop-at.line) (string_bytes c.add_name.new.line) (c.loop-at.at == 0) c.index-names-at.result c.index-names-at.result
    (search rules) (search rules) refl c.loop-at.invariant c.in_ok-add_name.ensures

pub returns : goal.returns
unfolding encode_utf8
returns c =
    joined_line c.args.names.now (string_bytes c.loop-at.line) _
    (c.loop-at.invariant ∙ ap (λ ns. encode_utf8_all (joined ns)) (take_all c.loop-at.at c.args.names.now (search rules))) c.in_ok-push.ensures.bytes
