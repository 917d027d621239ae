use Rattle.std.proofs.Common.{◌≡◌, ◌+◌, ◌∷◌, drop, get_or, take, ap, ◌∙◌}
use Rattle.std.specs.List.{prefix_len}
use Rattle.std.specs.Str.{chars}
use Rattle.apl_model.specs.Characters.{is_name_part}
use Rattle.apl_read.proofs.WordLemmas.{name_begins, word_at, rest_at}
use Rattle.apl_read.proofs.pieces.begin_name.Goals as goal

pub returns-clause-same : goal.returns-clause-same
returns-clause-same c =
    let line = c.args.line.now in
    let more = c.name_length-more.result in
    let e : more ≡ prefix_len is_name_part (drop (c.args.at + 1) line) = c.name_length-more.ensures.same ∙ ap (prefix_len is_name_part) (rest_at line c.args.at) in
    let w : c.in_ok-name.name ≡ get_or line c.args.at 0 ∷ take more (drop (c.args.at + 1) line) =
    c.in_ok-name.ensures ∙ ap chars c.as_str.ensures.value ∙ c.in_ok-text.ensures ∙ word_at line c.args.at more c.requires in
    name_begins (get_or line c.args.at 0) (drop (c.args.at + 1) line) c.in_ok-name.name more e w
