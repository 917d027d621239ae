use Rattle.std.proofs.Common.{sym, ◌∙◌}
use Rattle.apl_defn.proofs.PartLemmas.{parts-closed, parts-open}
use Rattle.apl_defn.proofs.parts.part_from.Goals as goal

pub returns-in-Some-clause-parts : goal.returns-in-Some-clause-parts
returns-in-Some-clause-parts c =
    parts-closed c.args.line.now c.args.after.now c.in-Some.at c.index-after-at.result c.requires (sym c.opens_definition.ensures ∙ c.if-not-opens_definition.false)
    (sym c.in-Some.is ∙ c.closing_line.ensures) c.index-after-at.is

pub returns-in-None-clause-parts : goal.returns-in-None-clause-parts
returns-in-None-clause-parts c =
    parts-open c.args.line.now c.args.after.now c.requires (sym c.opens_definition.ensures ∙ c.if-not-opens_definition.false) (sym c.in-None.is ∙ c.closing_line.ensures)
