use Rattle.std.proofs.Common.{◌<ℤ◌, sym, ◌∙◌, arith}
use Rattle.std.proofs.lemmas.Int.{ints}
use Rattle.selection_choices.proofs.AxisLemmas.{above_origin}
use Rattle.selection_choices.proofs.axes.is_axis.Goals as goal

pub returns-then-number-origin-2 : goal.returns-then-number-origin-2
returns-then-number-origin-2 c =
    let above : c.args.origin <ℤ c.args.number = grind (arith, ints) in
    c.contains.ensures.value ∙ sym (above_origin c.args.origin c.args.number _ c.args.numbers.now above (omega (arith, ints)))
