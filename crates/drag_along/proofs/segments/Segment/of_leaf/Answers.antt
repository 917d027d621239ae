use Rattle.std.proofs.Common.{rules, sym, ap, ◌∙◌, subst}
use Rattle.drag_along.specs.Meaning.{entry}
use Rattle.drag_along.specs.Lawful.{IsLawful}
use Rattle.drag_along.proofs.LeafLemmas.{IsLawful-leaf, entry-leaf}
use Rattle.drag_along.proofs.segments.Segment.of_leaf.Goals as goal

pub returns-clause-exact : goal.returns-clause-exact
returns-clause-exact c = search rules

pub returns-clause-lawful : goal.returns-clause-lawful
returns-clause-lawful c =
    λ store lawful within. subst (IsLawful store) (sym (returns-clause-exact c)) (IsLawful-leaf store c.args.leaf c.args.range lawful within)

pub returns-clause-meaning : goal.returns-clause-meaning
returns-clause-meaning c =
    λ store. ap (entry store) (returns-clause-exact c) ∙ entry-leaf store c.args.leaf c.args.range
