use Rattle.std.proofs.Common.{◌∙◌, subst}
use Rattle.value_range.specs.declared.sides.Ranged.{Ranged}
use Rattle.value_range.specs.Interval.{row1}
use Rattle.value_range.specs.Sound.{IsSharper}
use Rattle.value_range.specs.Laws.Functions.{alone}
use Rattle.value_range.proofs.calls.range1.Goals as goal

pub returns-clause-exact : goal.returns-clause-exact
returns-clause-exact c = c.dispatch1.ensures.exact ∙ alone (row1 c.args.f) c.args.a.kind c.args.a.interval

pub returns-clause-sharper : goal.returns-clause-sharper
returns-clause-sharper c =
    λ wide h i. let P : Ranged → Type 0 = λ r. IsSharper c.dispatch1.result r in
    subst P (alone (row1 c.args.f) wide.kind wide.interval) (c.dispatch1.ensures.sharper wide wide h h i i)
