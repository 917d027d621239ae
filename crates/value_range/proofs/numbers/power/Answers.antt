use Rattle.std.proofs.Common.{ap, ◌∙◌, Some, arith}
use Rattle.std.proofs.lemmas.Int.{ints, to_z-of_z}
use Rattle.value_range.specs.Laws.Powers.{low_base, high_exponent}
use Rattle.value_range.proofs.numbers.power.Goals as goal

pub returns-then-base-le1 : goal.returns-then-base-le1
returns-then-base-le1 c =
    let f = c.ranges.base in
    let g = c.ranges.exponent in
    ap Some (to_z-of_z _ c.args.base f) ∙ low_base c.args.base c.args.exponent c.requires.base_least (omega (arith, ints)) c.requires.exponent_least (λ e. c.if-exponent-eq0.false (omega (arith, ints, e)))

pub returns-then-exponent-gt-LAST_EXPONENT : goal.returns-then-exponent-gt-LAST_EXPONENT
returns-then-exponent-gt-LAST_EXPONENT c =
    let f = c.ranges.base in
    let g = c.ranges.exponent in
    high_exponent c.args.base c.args.exponent (omega (arith, ints)) (omega (arith, ints))
