-- Products of numbers that are near 0.
use Rattle.std.proofs.Common.{◌≡◌, ◌*◌, ◌^◌, ◌≤◌, Bool, cond, true, ◌&&◌, ℤ, ◌≤ℤ◌, neg_ℤ, int_le, unsigned_abs, to_z, of_z, FitsSigned, Some, None, sym, ap, ◌∙◌, arith}
use Rattle.std.specs.Prelude.{◌*ℤ◌}
use Rattle.std.proofs.Math.Nat.{mul-le-mul}
use Rattle.std.proofs.lemmas.Int.{ints, unsigned_abs-mul, to_z-of_z}
use mir.Syntax.{w128}
use Rattle.apl_base.specs.declared.cells.TheConstants.{M}
use Rattle.apl_base.specs.Number.{IsNumber}
use Rattle.apl_base.specs.Scalar.{in_range}
use Rattle.apl_base.proofs.Numbers.{IsNumber-magnitude}

tested : (a b : ℤ) → a ≤ℤ b → int_le a b ≡ true
tested a b h = sym (omega (arith, ints))

in_range-number : (z : ℤ) → IsNumber z → in_range z ≡ Some z
in_range-number z n =
    ap (λ (t : Bool). cond (t && int_le z M) (Some z) None) (tested (neg_ℤ M) z n.least)
    ∙ ap (λ (t : Bool). cond t (Some z) None) (tested z M n.most)

-- the product of two numbers up to 10^18 is one up to 10^36
small-product : (a b : ℤ) → unsigned_abs a ≤ 10 ^ 18 → unsigned_abs b ≤ 10 ^ 18 → unsigned_abs (a *ℤ b) ≤ 10 ^ 36
small-product a b h k =
    let most : unsigned_abs a * unsigned_abs b ≤ 10 ^ 18 * 10 ^ 18 = mul-le-mul h k in
    omega (arith, unsigned_abs-mul a b, most)

pub small-fits : (a b : ℤ) → unsigned_abs a ≤ 10 ^ 18 → unsigned_abs b ≤ 10 ^ 18 → FitsSigned w128 (a *ℤ b)
small-fits a b h k = omega (arith, ints, small-product a b h k)

-- what the machine computes of small factors
pub small-in_range : (a b : ℤ) → unsigned_abs a ≤ 10 ^ 18 → unsigned_abs b ≤ 10 ^ 18 → Some (to_z w128 (of_z w128 (a *ℤ b))) ≡ in_range (a *ℤ b)
small-in_range a b h k =
    ap (λ (z : ℤ). Some z) (to_z-of_z w128 (a *ℤ b) (small-fits a b h k))
    ∙ sym (in_range-number (a *ℤ b) (IsNumber-magnitude (a *ℤ b) (small-product a b h k)))
