-- Small facts for the trees of the examples: that a literal has elements, and not too many; that an origin is 0 or 1.
use Rattle.std.proofs.Common.{◌≡◌, ◌≤◌, ◌<◌, ◌^◌, ◌⊎◌, inl, inr, refl, arith, pos}

pub nothing_fits : 0 ≤ 2 ^ 40
nothing_fits = omega arith

pub one_fits : 1 ≤ 2 ^ 40
one_fits = omega arith

pub two_fit : 2 ≤ 2 ^ 40
two_fit = omega arith

pub three_fit : 3 ≤ 2 ^ 40
three_fit = omega arith

pub four_fit : 4 ≤ 2 ^ 40
four_fit = omega arith

pub five_fit : 5 ≤ 2 ^ 40
five_fit = omega arith

pub eight_fit : 8 ≤ 2 ^ 40
eight_fit = omega arith

pub one_is_some : 0 < 1
one_is_some = omega arith

pub two_are_some : 0 < 2
two_are_some = omega arith

pub three_are_some : 0 < 3
three_are_some = omega arith

pub four_are_some : 0 < 4
four_are_some = omega arith

pub five_are_some : 0 < 5
five_are_some = omega arith

pub eight_are_some : 0 < 8
eight_are_some = omega arith

pub from_0 : (pos 0 ≡ pos 0) ⊎ (pos 0 ≡ pos 1)
from_0 = inl refl

pub from_1 : (pos 1 ≡ pos 0) ⊎ (pos 1 ≡ pos 1)
from_1 = inr refl
