use Rattle.std.proofs.Common.{◌≡◌, pos, ◌-ℤ◌, ◌≤ℤ◌, FitsSigned, not, ap, refl, arith}
use Rattle.std.specs.Int.{w128}
use Rattle.std.proofs.lemmas.Int.{ints, clamps, to_z-of_z}
use Rattle.value_range.specs.Interval.{has_zero, most_of}
use Rattle.value_range.proofs.Equal.{safe_where-same}
use Rattle.value_range.proofs.rows.two.ResidueRowRangeRow.at.Goals as goal

pub returns : goal.returns
returns c =
    let l = c.requires.left.least in
    let m = c.requires.left.most in
    let a = c.args.left in
    let r : FitsSigned w128 c.args.left.lo = omega (arith, ints) in
    let s : FitsSigned w128 c.args.left.hi = omega (arith, ints) in
    let z : c.has_zero.result ≡ has_zero a.lo a.hi = simp to_z-of_z at c.has_zero.ensures in
    let n : c.most_of.result ≡ most_of a.lo a.hi = simp to_z-of_z at c.most_of.ensures in
    let f : FitsSigned w128 c.most_of.result = record { sfits = c.most_of.type_inv } in
    let p : pos 0 ≤ℤ most_of a.lo a.hi = omega (arith, ints, clamps) in
    let q : FitsSigned w128 (c.most_of.result -ℤ pos 1) = omega (arith, ints, n, p) in
    safe_where-same c.safe_where.result _ _ _ _ _ _ c.safe_where.ensures (ap not z) refl (omega (arith, ints, n))
