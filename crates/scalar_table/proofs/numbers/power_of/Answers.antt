use Rattle.std.proofs.Common.{◌≤◌, unsigned_abs, sym, arith}
use Rattle.std.proofs.lemmas.Int.{ints}
use Rattle.scalar_table.proofs.Powers.{power-far, power-none}
use Rattle.scalar_table.proofs.numbers.power_of.Goals as goal

pub returns-then-exponent-lt0 : goal.returns-then-exponent-lt0
returns-then-exponent-lt0 c =
    let big : 2 ≤ unsigned_abs c.args.base = omega (arith, ints) in
    sym (power-none c.args.base c.args.exponent big (omega (arith, ints)))

pub returns-else-exponent-lt120 : goal.returns-else-exponent-lt120
returns-else-exponent-lt120 c =
    let big : 2 ≤ unsigned_abs c.args.base = omega (arith, ints) in
    sym (power-far c.args.base c.args.exponent big (omega (arith, ints)))
