use Rattle.std.proofs.Common.{◌≡◌, Bool, true, false, pos, ◌≤ℤ◌, FitsSigned, sym, ap, ◌∙◌, arith}
use Rattle.std.specs.Int.{w128}
use Rattle.std.proofs.lemmas.Int.{ints, to_z-of_z}
use Rattle.apl_base.specs.Scalar.{in_range}
use Rattle.value_range.specs.Interval.{low_power, high_power, safe_where}
use Rattle.value_range.specs.Laws.Dyadic.{powers_tested, pow_span}
use Rattle.value_range.specs.Laws.Tests.{number_test, number_tested}
use Rattle.value_range.proofs.Equal.{always-same, none_number, some_number}
use Rattle.value_range.proofs.rows.two.PowRowRangeRow.at.Goals as goal

-- the lower power is a number where the higher is
pub returns-in_default-low_power : goal.returns-in_default-low_power
returns-in_default-low_power c =
    let l = c.requires.left.least in
    let m = c.requires.left.most in
    let n = c.requires.right.least in
    let o = c.requires.right.most in
    let a = c.args.left.lo in
    let b = c.args.left.hi in
    let d = c.args.right.lo in
    let e = c.args.right.hi in
    let fa : FitsSigned w128 c.args.left.lo = omega (arith, ints) in
    let fb : FitsSigned w128 c.args.left.hi = omega (arith, ints) in
    let fc : FitsSigned w128 c.args.right.lo = omega (arith, ints) in
    let fd : FitsSigned w128 c.args.right.hi = omega (arith, ints) in
    let high : c.high_power.result ≡ in_range (high_power b e) = simp to_z-of_z at c.high_power.ensures in
    let low : c.low_power.result ≡ in_range (low_power a d) = simp to_z-of_z at c.low_power.ensures in
    let h = some_number (high_power b e) c.in-Some.high (sym c.in-Some.is ∙ high) in
    let za : pos 0 ≤ℤ a = omega (arith, ints) in
    let zd : pos 0 ≤ℤ d = omega (arith, ints) in
    let n = number_test (high_power b e) h.0 in
    let s = pow_span a b d e za zd c.requires.left.order c.requires.right.order n in
    let f : false ≡ true = sym (none_number (low_power a d) (sym c.in_default-low_power.is ∙ low)) ∙ number_tested (low_power a d) s.least in
    cc

pub returns : goal.returns
returns c =
    let l = c.requires.left.least in
    let m = c.requires.left.most in
    let n = c.requires.right.least in
    let o = c.requires.right.most in
    let a = c.args.left.lo in
    let b = c.args.left.hi in
    let d = c.args.right.lo in
    let e = c.args.right.hi in
    let fa : FitsSigned w128 c.args.left.lo = omega (arith, ints) in
    let fb : FitsSigned w128 c.args.left.hi = omega (arith, ints) in
    let fc : FitsSigned w128 c.args.right.lo = omega (arith, ints) in
    let fd : FitsSigned w128 c.args.right.hi = omega (arith, ints) in
    let high : c.high_power.result ≡ in_range (high_power b e) = simp to_z-of_z at c.high_power.ensures in
    let low : c.low_power.result ≡ in_range (low_power a d) = simp to_z-of_z at c.low_power.ensures in
    let h = some_number (high_power b e) c.in-Some.high (sym c.in-Some.is ∙ high) in
    let za : pos 0 ≤ℤ a = omega (arith, ints) in
    let zd : pos 0 ≤ℤ d = omega (arith, ints) in
    let n = number_test (high_power b e) h.0 in
    let s = pow_span a b d e za zd c.requires.left.order c.requires.right.order n in
    let k = some_number (low_power a d) c.in-Some-low_power.low (sym c.in-Some-low_power.is ∙ low) in
    always-same c.always.result _ _ (low_power a d) (high_power b e) c.always.ensures (to_z-of_z w128 _ k.2 ∙ k.1) (to_z-of_z w128 _ h.2 ∙ h.1)
    ∙ sym (ap (λ (t : Bool). safe_where t (low_power a d) (high_power b e)) (powers_tested a b d e za zd n))
