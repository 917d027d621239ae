use Rattle.std.proofs.Common.{pos, arith, ◌≤ℤ◌}
use Rattle.std.proofs.lemmas.Int.{ints}
use Rattle.scalar_table.proofs.Factorials.{entry-at}
use Rattle.scalar_table.proofs.numbers.factorial_of.Goals as goal

pub returns-then-z-le32 : goal.returns-then-z-le32
returns-then-z-le32 c =
    let low : pos 0 ≤ℤ c.args.z = omega (arith, ints) in
    let high : c.args.z ≤ℤ pos 32 = omega (arith, ints) in
    entry-at c.args.z low high
