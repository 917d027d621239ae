use Rattle.std.proofs.Common.{◌≡◌, ◌+◌, ◌∷◌, drop, get_or, take, refl, ap, ◌∙◌}
use Rattle.std.specs.List.{prefix_len}
use Rattle.apl_model.specs.Characters.{is_number_part}
use Rattle.apl_read.proofs.WordLemmas.{number_begins, word_at, rest_at}
use Rattle.apl_read.specs.Pieces.{found_of, number_found}
use Rattle.apl_read.proofs.pieces.begin_number.Goals as goal

pub returns-clause-same : goal.returns-clause-same
returns-clause-same c =
    let line = c.args.line.now in
    let at = c.args.at in
    let more = c.number_length-more.result in
    let rest = drop (at + 1) line in
    let w = get_or line at 0 ∷ take more rest in
    let e : more ≡ prefix_len is_number_part rest = c.number_length-more.ensures.same ∙ ap (prefix_len is_number_part) (rest_at line at) in
    let f : found_of c.found_number-found.result ≡ number_found w = c.found_number-found.ensures ∙ ap number_found (word_at line at more c.requires) in
    number_begins (get_or line at 0) rest w more (found_of c.found_number-found.result) f e refl
