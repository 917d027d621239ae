use Rattle.std.proofs.Common.{◌≡◌, ℤ, map, unsigned_abs, sym, subst, ◌∙◌}
use Rattle.std.proofs.lemmas.Int.{to_z-of_z}
use mir.Syntax.{w128}
use Rattle.beating.specs.declared.selections.Selection.TheVariants as select
use Rattle.apl_model.specs.Made.{are_axes}
use Rattle.selection_choices.proofs.AxisLemmas.{less, axes_choose}
use Rattle.selection_choices.proofs.twos.transposition.Goals as goal

pub returns-clause-chooses : goal.returns-clause-chooses
returns-clause-chooses c a lists =
    let same = to_z-of_z w128 c.args.origin c.ranges.origin in
    let test : c.are_axes.result ≡ are_axes (less c.args.origin c.args.numbers.now) =
    subst (λ (o : ℤ). c.are_axes.result ≡ are_axes (less o c.args.numbers.now)) same c.are_axes.ensures in
    let sends : c.axes_from.result.items ≡ map unsigned_abs (less c.args.origin c.args.numbers.now) =
    subst (λ (o : ℤ). c.axes_from.result.items ≡ map unsigned_abs (less o c.args.numbers.now)) same c.axes_from.ensures in
    axes_choose c.args.origin c.args.numbers.now c.args.shape.now a lists c.requires.count (select.Transpose c.axes_from.result) (sym test ∙ c.if-not-are_axes.false) sends
