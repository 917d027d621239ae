use Rattle.std.proofs.Common.{◌+◌, ◌*◌, arith}
use Rattle.apl_base.proofs.Numbers.{IsNumber-small}
use Rattle.product_fns.proofs.tests.numbers.Goals as goal

pub line-requires-clause-numbers : goal.line-requires-clause-numbers
line-requires-clause-numbers c = λ j below. IsNumber-small (2 + 3 * j) (omega (arith, below, c.requires))
