-- Numbers in the bits that hold them.
use Rattle.std.proofs.Common.{ℤ, arith}
use Rattle.std.specs.Int.RustNames.{FitsSigned}
use Rattle.std.proofs.lemmas.Int.{ints}
use mir.Syntax.{w128}
use Rattle.apl_base.specs.Number.{IsNumber}

-- a number is kept in 128 bits
pub number_in_cell : (z : ℤ) → IsNumber z → FitsSigned w128 z
number_in_cell z n = omega (arith, ints, n.least, n.most)
