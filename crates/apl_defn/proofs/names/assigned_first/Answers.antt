use Rattle.std.proofs.Common.{drop, subst, sym, ◌∙◌}
use Rattle.apl_defn.proofs.PlaceLemmas.{assigned_here, two_first}
use Rattle.apl_defn.specs.NameRules.{IsHeading}
use Rattle.apl_defn.specs.Occurrences.{IsWrong}
use Rattle.apl_model.specs.Refusal.{IsFirstIfAny}
use Rattle.apl_defn.proofs.names.assigned_first.Goals as goal

pub returns-in-len2-up : goal.returns-in-len2-up
returns-in-len2-up c =
    let ts = c.args.tokens.now in
    let t = c.name-item.result in
    let u = c.arrow-item.result in
    assigned_here c.args.lookup.now c.args.line ts (drop 2 ts) t u c.heading_at.result (two_first ts t u c.in-len2-up.len_at_least c.name-item.is c.arrow-item.is)
    (sym c.is_glyph.ensures ∙ c.if-is_glyph.true)
    (subst (λ os. IsFirstIfAny (IsWrong (IsHeading c.args.lookup.now) os) c.heading_at.result) c.name_at.ensures c.heading_at.ensures)
