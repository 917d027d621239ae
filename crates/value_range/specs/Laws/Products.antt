-- Products of integers: their order, and that over a box they lie between the four products of its ends.
use Rattle.std.proofs.Common.{ℤ, pos, negsuc, ◌*ℤ◌, arith}
use Rattle.std.proofs.Common.{subst}
use Rattle.std.proofs.Math.IntN.{*ℤ_comm}
use Rattle.std.proofs.lemmas.Int.{ints, clamps}
use Rattle.apl_base.proofs.Integers.{times_positive, times_negative}
use Rattle.value_range.specs.Interval.{least_of, greatest_of}
use Rattle.value_range.specs.Laws.Shown.{Holds, Inside}

-- where lo..hi holds the products at both ends, it holds those between
pub along_left : (lo hi a b x y : ℤ) → Holds a b x → Holds lo hi (a *ℤ y) → Holds lo hi (b *ℤ y) → Holds lo hi (x *ℤ y)
along_left lo hi a b x (pos n) h p q =
    let u = times_positive a x n h.least in
    let v = times_positive x b n h.most in
    record { least = omega (arith, ints); most = omega (arith, ints) }
along_left lo hi a b x (negsuc n) h p q =
    let u = times_negative a x n h.least in
    let v = times_negative x b n h.most in
    record { least = omega (arith, ints); most = omega (arith, ints) }

pub along_right : (lo hi c d x y : ℤ) → Holds c d y → Holds lo hi (x *ℤ c) → Holds lo hi (x *ℤ d) → Holds lo hi (x *ℤ y)
along_right lo hi c d x y h p q =
    let P : ℤ → Type 0 = λ z. Holds lo hi z in
    subst P (*ℤ_comm y x) (along_left lo hi c d y x h (subst P (*ℤ_comm x c) p) (subst P (*ℤ_comm x d) q))

-- where lo..hi holds the products of the ends of a box, it holds each product in it
pub over_box : (lo hi a b c d x y : ℤ) → Holds a b x → Holds c d y → Holds lo hi (a *ℤ c) → Holds lo hi (a *ℤ d) → Holds lo hi (b *ℤ c) → Holds lo hi (b *ℤ d) → Holds lo hi (x *ℤ y)
over_box lo hi a b c d x y h k ac ad bc bd =
    along_left lo hi a b x y h (along_right lo hi c d a y k ac ad) (along_right lo hi c d b y k bc bd)

-- the least and the greatest of four hold each of them
pub record HoldsFour (lo hi p q r s : ℤ) : Type 0 where
  pub first : Holds lo hi p
  pub second : Holds lo hi q
  pub third : Holds lo hi r
  pub fourth : Holds lo hi s

pub four_held : (p q r s : ℤ) → HoldsFour (least_of p q r s) (greatest_of p q r s) p q r s
four_held p q r s = record {
  first = record { least = omega (arith, ints, clamps); most = omega (arith, ints, clamps) };
  second = record { least = omega (arith, ints, clamps); most = omega (arith, ints, clamps) };
  third = record { least = omega (arith, ints, clamps); most = omega (arith, ints, clamps) };
  fourth = record { least = omega (arith, ints, clamps); most = omega (arith, ints, clamps) };
}

-- and nothing beyond: what holds all four holds their least and their greatest
pub four_inside : (lo hi p q r s : ℤ) → HoldsFour lo hi p q r s → Inside (least_of p q r s) (greatest_of p q r s) lo hi
four_inside lo hi p q r s h = record { least = omega (arith, ints, clamps); most = omega (arith, ints, clamps) }
