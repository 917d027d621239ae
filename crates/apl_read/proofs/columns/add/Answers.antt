use Rattle.std.proofs.Common.{◌≡◌, ◌∷◌, ap, sym, subst, ◌∙◌}
use Rattle.std.specs.Prelude.{map, pos}
use Rattle.apl_model.specs.Tokens.{tokens_of_pieces}
use Rattle.apl_model.specs.declared.tokens.Word.TheVariants as word
use Rattle.apl_read.proofs.StepLemmas.{text_token}
use Rattle.apl_read.specs.Pieces.{found_of, made_before}
use Rattle.apl_read.proofs.columns.add.Goals as goal

-- the cells are those of the characters
pub returns-in_ok-add_token-in-Text-clause-tokens : goal.returns-in_ok-add_token-in-Text-clause-tokens
returns-in_ok-add_token-in-Text-clause-tokens c = λ ps.
    let cs = c.in-Text.characters.items in
    let from = c.args.from in
    let past = c.args.past in
    let rest = tokens_of_pieces ps in
    let cells : c.from_vec-cells.result ≡ map pos cs = c.from_vec-cells.ensures ∙ c.in_ok-cells_of-in-Text.ensures ∙ ap (map pos) c.as_slice.ensures.value in
    subst (λ f. made_before c.args.made.now (tokens_of_pieces (record { from = from; past = past; found = found_of f } ∷ ps)) ≡ made_before c.add_token.new.self rest) (sym c.in-Text.is)
    (ap (made_before c.args.made.now) (text_token from past cs ps ∙ ap (λ zs. record { from = from; past = past; word = word.Chars zs } ∷ rest) (sym cells))
    ∙ c.in_ok-add_token-in-Text.ensures rest)
