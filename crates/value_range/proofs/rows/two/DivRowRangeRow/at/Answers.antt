use Rattle.std.proofs.Common.{◌≡◌, pos, negsuc, neg_ℤ, FitsSigned, sym, ◌∙◌, arith}
use Rattle.std.specs.Int.{w128}
use Rattle.std.proofs.lemmas.Int.{ints, to_z-of_z}
use Rattle.value_range.specs.Interval.{is_only}
use Rattle.value_range.proofs.Equal.{second-same, safe_where-same}
use Rattle.value_range.proofs.rows.two.DivRowRangeRow.at.Goals as goal

pub returns-else-is_only : goal.returns-else-is_only
returns-else-is_only c =
    let l = c.requires.left.least in
    let m = c.requires.left.most in
    let n = c.requires.right.least in
    let o = c.requires.right.most in
    let a = c.args.left in
    let d = c.args.right in
    let r : FitsSigned w128 c.args.right.lo = omega (arith, ints) in
    let s : FitsSigned w128 c.args.right.hi = omega (arith, ints) in
    let z : is_only (pos 1) d.lo d.hi ≡ c.is_only.result = sym (simp to_z-of_z at c.is_only.ensures) in
    let t : c.is_only-else-is_only.result ≡ is_only (negsuc 0) d.lo d.hi = simp to_z-of_z at c.is_only-else-is_only.ensures in
    second-same (is_only (pos 1) d.lo d.hi) (is_only (negsuc 0) d.lo d.hi) c.safe_where.result a.lo a.hi (neg_ℤ a.hi) (neg_ℤ a.lo)
    (z ∙ c.if-is_only.false)
    (safe_where-same c.safe_where.result _ _ _ _ _ _ c.safe_where.ensures t (omega (arith, ints)) (omega (arith, ints)))
