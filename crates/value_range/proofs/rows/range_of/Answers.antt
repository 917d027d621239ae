use Rattle.std.proofs.Common.{subst, sym}
use Rattle.apl_base.specs.Interval.{IsInterval}
use Rattle.value_range.specs.declared.sides.Ranged.{Ranged}
use Rattle.value_range.specs.Interval.{at_sides}
use Rattle.value_range.specs.Sound.{IsSound2, IsSharpAt}
use Rattle.value_range.proofs.rows.range_of.Goals as goal

pub returns-clause-interval : goal.returns-clause-interval
returns-clause-interval g c =
    let P : Ranged → Type 0 = λ r. IsInterval r.range in
    subst P (sym c.at_sides.ensures) (g.met.R.RangeRow.interval c.args.left c.args.right c.requires.left c.requires.right)

pub returns-clause-sound : goal.returns-clause-sound
returns-clause-sound g c =
    let P : Ranged → Type 0 = λ r. IsSound2 g.R.RangeRow.value c.args.left c.args.right r in
    subst P (sym c.at_sides.ensures) (g.met.R.RangeRow.sound c.args.left c.args.right c.requires.left c.requires.right)

pub returns-clause-sharper : goal.returns-clause-sharper
returns-clause-sharper g c =
    let P : Ranged → Type 0 = IsSharpAt (at_sides g.R.RangeRow.CHARACTERS g.R.RangeRow.rule) c.args.left c.args.right in
    subst P (sym c.at_sides.ensures) (g.met.R.RangeRow.sharper c.args.left c.args.right c.requires.left c.requires.right)
