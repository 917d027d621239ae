use Rattle.std.proofs.Common.{sym, arith}
use Rattle.std.proofs.lemmas.Int.{ints}
use Rattle.scalar_table.proofs.Powers.{power-zero}
use Rattle.scalar_table.proofs.numbers.power_of_zero.Goals as goal

pub returns-else-exponent-eq0 : goal.returns-else-exponent-eq0
returns-else-exponent-eq0 c = sym (power-zero c.args.exponent (omega (arith, ints)))
