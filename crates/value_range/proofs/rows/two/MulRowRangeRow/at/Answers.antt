use Rattle.std.proofs.Common.{◌≡◌, ◌*ℤ◌, FitsSigned, sym, ◌∙◌, arith}
use Rattle.std.specs.Int.{w128}
use Rattle.std.proofs.lemmas.Int.{ints, to_z-of_z}
use Rattle.apl_base.specs.Scalar.{in_range}
use Rattle.value_range.specs.Interval.{least_of, greatest_of}
use Rattle.value_range.proofs.Equal.{box_second, box_third, box_fourth, box_all, some_number, least_of-same, greatest_of-same}
use Rattle.value_range.proofs.rows.two.MulRowRangeRow.at.Goals as goal

pub returns-in_default-product : goal.returns-in_default-product
returns-in_default-product c =
    let l = c.requires.left.least in
    let m = c.requires.left.most in
    let n = c.requires.right.least in
    let o = c.requires.right.most in
    let x = c.args.left in
    let y = c.args.right in
    let fa : FitsSigned w128 c.args.left.lo = omega (arith, ints) in
    let fb : FitsSigned w128 c.args.left.hi = omega (arith, ints) in
    let fc : FitsSigned w128 c.args.right.lo = omega (arith, ints) in
    let fd : FitsSigned w128 c.args.right.hi = omega (arith, ints) in
    let e : c.product-2.result ≡ in_range (x.lo *ℤ y.hi) = simp to_z-of_z at c.product-2.ensures in
    box_second c.not_safe-in_default-product.result (x.lo *ℤ y.lo) (x.lo *ℤ y.hi) (x.hi *ℤ y.lo) (x.hi *ℤ y.hi) c.not_safe-in_default-product.ensures (sym c.in_default-product.is ∙ e)

pub returns-in_default-product-2 : goal.returns-in_default-product-2
returns-in_default-product-2 c =
    let l = c.requires.left.least in
    let m = c.requires.left.most in
    let n = c.requires.right.least in
    let o = c.requires.right.most in
    let x = c.args.left in
    let y = c.args.right in
    let fa : FitsSigned w128 c.args.left.lo = omega (arith, ints) in
    let fb : FitsSigned w128 c.args.left.hi = omega (arith, ints) in
    let fc : FitsSigned w128 c.args.right.lo = omega (arith, ints) in
    let fd : FitsSigned w128 c.args.right.hi = omega (arith, ints) in
    let e : c.product-3.result ≡ in_range (x.hi *ℤ y.lo) = simp to_z-of_z at c.product-3.ensures in
    box_third c.not_safe-in_default-product-2.result (x.lo *ℤ y.lo) (x.lo *ℤ y.hi) (x.hi *ℤ y.lo) (x.hi *ℤ y.hi) c.not_safe-in_default-product-2.ensures (sym c.in_default-product-2.is ∙ e)

pub returns-in_default-product-3 : goal.returns-in_default-product-3
returns-in_default-product-3 c =
    let l = c.requires.left.least in
    let m = c.requires.left.most in
    let n = c.requires.right.least in
    let o = c.requires.right.most in
    let x = c.args.left in
    let y = c.args.right in
    let fa : FitsSigned w128 c.args.left.lo = omega (arith, ints) in
    let fb : FitsSigned w128 c.args.left.hi = omega (arith, ints) in
    let fc : FitsSigned w128 c.args.right.lo = omega (arith, ints) in
    let fd : FitsSigned w128 c.args.right.hi = omega (arith, ints) in
    let e : c.product-4.result ≡ in_range (x.hi *ℤ y.hi) = simp to_z-of_z at c.product-4.ensures in
    box_fourth c.not_safe-in_default-product-3.result (x.lo *ℤ y.lo) (x.lo *ℤ y.hi) (x.hi *ℤ y.lo) (x.hi *ℤ y.hi) c.not_safe-in_default-product-3.ensures (sym c.in_default-product-3.is ∙ e)

pub returns : goal.returns
returns c =
    let l = c.requires.left.least in
    let m = c.requires.left.most in
    let n = c.requires.right.least in
    let o = c.requires.right.most in
    let x = c.args.left in
    let y = c.args.right in
    let fa : FitsSigned w128 c.args.left.lo = omega (arith, ints) in
    let fb : FitsSigned w128 c.args.left.hi = omega (arith, ints) in
    let fc : FitsSigned w128 c.args.right.lo = omega (arith, ints) in
    let fd : FitsSigned w128 c.args.right.hi = omega (arith, ints) in
    let ep : c.product.result ≡ in_range (x.lo *ℤ y.lo) = simp to_z-of_z at c.product.ensures in
    let eq : c.product-2.result ≡ in_range (x.lo *ℤ y.hi) = simp to_z-of_z at c.product-2.ensures in
    let er : c.product-3.result ≡ in_range (x.hi *ℤ y.lo) = simp to_z-of_z at c.product-3.ensures in
    let es : c.product-4.result ≡ in_range (x.hi *ℤ y.hi) = simp to_z-of_z at c.product-4.ensures in
    let p = some_number (x.lo *ℤ y.lo) c.in-Some.p (sym c.in-Some.is ∙ ep) in
    let q = some_number (x.lo *ℤ y.hi) c.in-Some-product.q (sym c.in-Some-product.is ∙ eq) in
    let r = some_number (x.hi *ℤ y.lo) c.in-Some-product-2.r (sym c.in-Some-product-2.is ∙ er) in
    let s = some_number (x.hi *ℤ y.hi) c.in-Some-product-3.s (sym c.in-Some-product-3.is ∙ es) in
    let fp = p.2 in
    let fq = q.2 in
    let fr = r.2 in
    let fs = s.2 in
    let fl : FitsSigned w128 c.least_of.result = record { sfits = c.least_of.type_inv } in
    let fg : FitsSigned w128 c.greatest_of.result = record { sfits = c.greatest_of.type_inv } in
    let low : c.least_of.result ≡ least_of c.in-Some.p c.in-Some-product.q c.in-Some-product-2.r c.in-Some-product-3.s = simp to_z-of_z at c.least_of.ensures in
    let high : c.greatest_of.result ≡ greatest_of c.in-Some.p c.in-Some-product.q c.in-Some-product-2.r c.in-Some-product-3.s = simp to_z-of_z at c.greatest_of.ensures in
    box_all c.always.result (x.lo *ℤ y.lo) (x.lo *ℤ y.hi) (x.hi *ℤ y.lo) (x.hi *ℤ y.hi) _ _ c.always.ensures
    (to_z-of_z w128 c.least_of.result fl ∙ least_of-same c.least_of.result _ _ _ _ _ _ _ _ low p.1 q.1 r.1 s.1)
    (to_z-of_z w128 c.greatest_of.result fg ∙ greatest_of-same c.greatest_of.result _ _ _ _ _ _ _ _ high p.1 q.1 r.1 s.1)
    p.0 q.0 r.0 s.0
