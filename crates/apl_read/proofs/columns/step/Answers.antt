use Rattle.std.proofs.Common.{◌≡◌, ◌+◌, ◌∷◌, false, get_or, ap, sym, subst, ◌∙◌, arith}
use Rattle.std.proofs.lemmas.Grind.{get_or_default_zero}
use Rattle.std.proofs.lemmas.Result.{err_from_is_err_and}
use Rattle.std.specs.Option.{option_map}
use Rattle.apl_model.specs.Characters.{is_blank}
use Rattle.apl_model.specs.Tokens.{tokens_of_pieces}
use Rattle.apl_read.proofs.StepLemmas.{at_piece}
use Rattle.apl_read.specs.Pieces.{beginning_of, made_before, pieces_from}
use Rattle.apl_model.specs.ReadFaults.{IsRefusedAs}
use Rattle.apl_read.specs.Refusals.{first_fault, refusal_of_fault}
use Rattle.apl_read.proofs.columns.step.Goals as goal

pub returns-in_err-add-clause-refused : goal.returns-in_err-add-clause-refused
returns-in_err-add-clause-refused c =
    let line = c.args.text.now in
    let at = c.args.at in
    let item : c.index-text-at.result ≡ get_or line at 0 = c.index-text-at.is ∙ get_or_default_zero line at c.index-text-at.result c.requires.inside in
    let solid : is_blank (get_or line at 0) ≡ false = ap is_blank (sym item) ∙ sym c.blank.ensures ∙ c.if-blank.false in
    let b = beginning_of c.in_ok-begun.begun in
    let ps = pieces_from (at + 1 + b.more) line in
    let same = at_piece line at c.requires.inside solid (λ f. c.if-c-eq9053.false (item ∙ f)) b c.in_ok-begun.ensures.same c.in_ok-begun.ensures.within in
    let p = err_from_is_err_and c.from_residual-in_err-add.result c.from_residual-in_err-add.ensures.1 in
    rw (p.1, p.2) (subst (λ v. IsRefusedAs c.in_err-add.field-0.0 (option_map (refusal_of_fault c.args.number) (first_fault v))) (sym same)
    (c.in_err-add.ensures.refused ps (at + 1 + b.more + 1)))

pub returns-clause-fault : goal.returns-clause-fault
returns-clause-fault c =
    let line = c.args.text.now in
    let at = c.args.at in
    let item : c.index-text-at.result ≡ get_or line at 0 = c.index-text-at.is ∙ get_or_default_zero line at c.index-text-at.result c.requires.inside in
    let solid : is_blank (get_or line at 0) ≡ false = ap is_blank (sym item) ∙ sym c.blank.ensures ∙ c.if-blank.false in
    let b = beginning_of c.in_ok-begun.begun in
    let ps = pieces_from (at + 1 + b.more) line in
    let same = at_piece line at c.requires.inside solid (λ f. c.if-c-eq9053.false (item ∙ f)) b c.in_ok-begun.ensures.same c.in_ok-begun.ensures.within in
    ap first_fault same ∙ c.in_ok-add.ensures.fault ps (at + 1 + b.more + 1)

pub returns-clause-tokens : goal.returns-clause-tokens
returns-clause-tokens c = λ short.
    let line = c.args.text.now in
    let at = c.args.at in
    let item : c.index-text-at.result ≡ get_or line at 0 = c.index-text-at.is ∙ get_or_default_zero line at c.index-text-at.result c.requires.inside in
    let solid : is_blank (get_or line at 0) ≡ false = ap is_blank (sym item) ∙ sym c.blank.ensures ∙ c.if-blank.false in
    let b = beginning_of c.in_ok-begun.begun in
    let ps = pieces_from (at + 1 + b.more) line in
    let same = at_piece line at c.requires.inside solid (λ f. c.if-c-eq9053.false (item ∙ f)) b c.in_ok-begun.ensures.same c.in_ok-begun.ensures.within in
    let inside = c.in_ok-begun.ensures.within in
    let past : at + 1 + b.more + 1 ≡ c.column_of.result = sym (c.column_of.ensures (omega arith)) in
    ap (λ v. made_before c.args.made.now (tokens_of_pieces v)) same
    ∙ ap (λ q. made_before c.args.made.now (tokens_of_pieces (record { from = at + 1; past = q; found = b.found } ∷ ps))) past
    ∙ c.in_ok-add.ensures.tokens ps
