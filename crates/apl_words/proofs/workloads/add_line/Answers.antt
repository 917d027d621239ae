use Rattle.std.proofs.Common.{refl, codes, string_bytes, ℕ, ◌/◌, ◌%◌}
use Rattle.apl_words.specs.Workload.{statement}
use Rattle.std.specs.Char.{encode_utf8}
use Rattle.apl_words.proofs.Texts.{adds_then}
use Rattle.apl_words.proofs.workloads.add_line.Goals as goal

pub returns : goal.returns
unfolding encode_utf8
returns c =
    let r : ℕ = c.args.seed / 65536 in
    adds_then (string_bytes c.args.text.now) _ _ (statement (r % 8) ((r / 8) % 1000)) (codes "\n") _ refl c.in_ok-add_statement.ensures c.in_ok-push.ensures.bytes
