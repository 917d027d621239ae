use Rattle.std.proofs.Common.{List, drop, sym, subst, ◌∙◌}
use Rattle.apl_model.specs.Refusal.{names_in, IsFirstIfAny}
use Rattle.apl_model.specs.declared.tokens.Token.{Token}
use Rattle.apl_defn.proofs.AssignedLemmas.{left_from}
use Rattle.apl_defn.proofs.PlaceLemmas.{erased_here, erases, two_first}
use Rattle.apl_defn.specs.NameRules.{IsHeading}
use Rattle.apl_defn.specs.Occurrences.{IsWrong}
use Rattle.apl_defn.proofs.names.erased_name.Goals as goal

pub returns-in-len2-up : goal.returns-in-len2-up
returns-in-len2-up c =
    let hs = c.args.lookup.now in
    let l = c.args.line.now in
    let ts = c.as_slice.result.now in
    let t = c.close-item.result in
    let u = c.command-item.result in
    let split = sym c.as_slice.ensures ∙ two_first ts t u c.in-len2-up.len_at_least c.close-item.is c.command-item.is in
    let names = erases l.number l.tokens (drop 2 ts) t u split (sym c.is_glyph.ensures ∙ c.if-is_glyph.true) (sym c.is_erase.ensures ∙ c.if-is_erase.true) in
    erased_here hs l c.heading_among.result
    (subst (λ os. IsFirstIfAny (IsWrong (IsHeading hs) os) c.heading_among.result) (sym names)
    (subst (λ (v : List Token). IsFirstIfAny (IsWrong (IsHeading hs) (names_in l.number v)) c.heading_among.result) (left_from ts 2) c.heading_among.ensures))
