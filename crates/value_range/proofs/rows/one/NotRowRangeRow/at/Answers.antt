use Rattle.std.proofs.Common.{pos, ◌-ℤ◌, FitsSigned, ap, ◌∙◌, Bool, arith}
use Rattle.std.specs.Int.{w128}
use Rattle.std.proofs.lemmas.Int.{ints, to_z-of_z}
use Rattle.value_range.specs.Interval.{safe_where}
use Rattle.value_range.proofs.rows.one.NotRowRangeRow.at.Goals as goal

pub returns : goal.returns
returns c =
    let l = c.requires.right.least in
    let m = c.requires.right.most in
    let lo = pos 1 -ℤ c.args.right.hi in
    let hi = pos 1 -ℤ c.args.right.lo in
    let r : FitsSigned w128 c.args.right.lo = omega (arith, ints) in
    let s : FitsSigned w128 c.args.right.hi = omega (arith, ints) in
    let p : FitsSigned w128 (pos 1 -ℤ c.args.right.hi) = omega (arith, ints) in
    let q : FitsSigned w128 (pos 1 -ℤ c.args.right.lo) = omega (arith, ints) in
    let e = simp to_z-of_z at c.safe_where.ensures in
    let f = simp to_z-of_z at c.are_truths.ensures in
    e ∙ ap (λ (t : Bool). safe_where t lo hi) f
