use Rattle.std.proofs.Common.{◌+ℤ◌, FitsSigned, arith}
use Rattle.std.specs.Int.{w128}
use Rattle.std.proofs.lemmas.Int.{ints, to_z-of_z}
use Rattle.value_range.proofs.rows.two.AddRowRangeRow.at.Goals as goal

pub returns : goal.returns
returns c =
    let l = c.requires.left.least in
    let m = c.requires.left.most in
    let n = c.requires.right.least in
    let o = c.requires.right.most in
    let p : FitsSigned w128 c.args.left.lo = omega (arith, ints) in
    let q : FitsSigned w128 c.args.left.hi = omega (arith, ints) in
    let r : FitsSigned w128 c.args.right.lo = omega (arith, ints) in
    let s : FitsSigned w128 c.args.right.hi = omega (arith, ints) in
    let t : FitsSigned w128 (c.args.left.lo +ℤ c.args.right.lo) = omega (arith, ints) in
    let u : FitsSigned w128 (c.args.left.hi +ℤ c.args.right.hi) = omega (arith, ints) in
    simp to_z-of_z at c.safe_within.ensures
