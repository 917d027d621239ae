-- What is to be shown of a row: its range is an interval, it is sound where it is safe, and it is sharper over less.
-- And that it is enough to show this of the test, the least and the greatest value that make up the row.
use Rattle.std.proofs.Common.{◌≡◌, Bool, true, false, IsTrue, ℤ, neg_ℤ, ◌≤ℤ◌, Option, Some, refl, arith}
use Rattle.std.proofs.lemmas.Int.{ints}
use Rattle.apl_base.specs.declared.cells.TheConstants.{M}
use Rattle.apl_base.specs.Interval.{IsSpan, IsInterval, InInterval}
use Rattle.value_range.specs.Interval.{safe_where}
use Rattle.value_range.specs.Sound.{IsSharper}

-- lo..hi holds z
pub record Holds (lo hi z : ℤ) : Type 0 where
  pub least : lo ≤ℤ z
  pub most : z ≤ℤ hi

-- a..b lies in p..q
pub record Inside (a b p q : ℤ) : Type 0 where
  pub least : p ≤ℤ a
  pub most : b ≤ℤ q

-- there is a value, and lo..hi holds it
pub record Valued (lo hi : ℤ) (value : Option ℤ) : Type 0 where
  pub number : ℤ
  pub is : value ≡ Some number
  pub holds : Holds lo hi number

-- a number that depends on four ends
abbrev pub OfEnds : Type 0 → Type 0
OfEnds X = ℤ → ℤ → ℤ → ℤ → X

pub record IsRow (test : OfEnds Bool) (lo hi : OfEnds ℤ) (value : ℤ → ℤ → Option ℤ) : Type 0 where
  pub span : (a b c d : ℤ) → IsSpan a b → IsSpan c d → IsTrue (test a b c d) → IsSpan (lo a b c d) (hi a b c d)
  pub sound : (a b c d x y : ℤ) → IsSpan a b → IsSpan c d → Holds a b x → Holds c d y → IsTrue (test a b c d) → Valued (lo a b c d) (hi a b c d) (value x y)
  pub smaller : (a b c d p q r s : ℤ) → IsSpan a b → IsSpan c d → IsSpan p q → IsSpan r s → Inside a b p q → Inside c d r s → IsTrue (test p q r s) → IsTrue (test a b c d) × Inside (lo a b c d) (hi a b c d) (lo p q r s) (hi p q r s)

pub all_numbers : IsSpan (neg_ℤ M) M
all_numbers = record { least = record { least = omega (arith, ints); most = omega (arith, ints) }; order = omega (arith, ints); most = record { least = omega (arith, ints); most = omega (arith, ints) } }

pub where_interval : (t : Bool) (lo hi : ℤ) → (IsTrue t → IsSpan lo hi) → IsInterval (safe_where t lo hi).range
where_interval true lo hi h = h refl
where_interval false lo hi h = all_numbers

pub where_sound : (t : Bool) (lo hi : ℤ) (value : Option ℤ) → IsTrue (safe_where t lo hi).safe → (IsTrue t → Valued lo hi value) → (z : ℤ) × (value ≡ Some z) × InInterval (safe_where t lo hi).range z
where_sound true lo hi value s h = let v = h refl in (v.number, v.is, (v.holds.least, v.holds.most))
where_sound false lo hi value s h = cc

pub where_sharper : (t u : Bool) (lo hi least most : ℤ) → (IsTrue t → IsSpan lo hi) → (IsTrue u → IsTrue t × Inside lo hi least most) → IsSharper (safe_where t lo hi) (safe_where u least most)
where_sharper true true lo hi least most s h = let i = (h refl).1 in record { range = (i.least, i.most); safe = λ e. e }
where_sharper true false lo hi least most s h = let i = s refl in record { range = (i.least.least, i.most.most); safe = λ e. refl }
where_sharper false true lo hi least most s h = let e : false ≡ true = (h refl).0 in cc
where_sharper false false lo hi least most s h = record { range = (omega (arith, ints), omega (arith, ints)); safe = λ e. e }
