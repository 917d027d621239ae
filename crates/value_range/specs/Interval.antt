-- The interval rules of the scalar functions: from what the cells of the arguments lie in, whether the function is
-- safe there, and what its values then lie in.
use Rattle.std.specs.Prelude.{ℤ, pos, negsuc, ◌+ℤ◌, ◌-ℤ◌, ◌*ℤ◌, neg_ℤ, int_le, unsigned_abs, Bool, true, false, not, ◌&&◌, ◌||◌, if◌then◌else◌}
use Rattle.std.specs.Int.{int_max, int_min, int_signum, int_pow}
use Rattle.std.specs.Ordering.{int_eq}
use Rattle.apl_base.specs.declared.cells.Kind.{Kind}
use Rattle.apl_base.specs.declared.cells.Kind.TheVariants.{Num, Char}
use Rattle.apl_base.specs.declared.cells.Interval.{Interval}
use Rattle.apl_base.specs.declared.cells.Interval.TheVariants.{Empty, Span}
use Rattle.apl_base.specs.declared.rows.Mon.{Mon}
use Rattle.apl_base.specs.declared.rows.Mon.TheVariants as mon
use Rattle.apl_base.specs.declared.rows.Dya.{Dya}
use Rattle.apl_base.specs.declared.rows.Dya.TheVariants as dya
use Rattle.apl_base.specs.declared.cells.TheConstants.{M}
use Rattle.apl_base.specs.Number.{is_number}
use Rattle.apl_base.specs.Scalar.{magnitude, factorial}
use Rattle.value_range.specs.declared.sides.Side.{Side}
use Rattle.value_range.specs.declared.sides.Ranged.{Ranged}

-- ---- answers

-- no argument, so no value: this is safe
abbrev pub nothing : Ranged
nothing = record { range = Empty; safe = true }

-- not safe, and any number
abbrev pub not_safe : Ranged
not_safe = record { range = Span (neg_ℤ M) M; safe = false }

-- safe, with values from lo to hi
abbrev pub always : ℤ → ℤ → Ranged
always lo hi = record { range = Span lo hi; safe = true }

-- the same where a test holds
abbrev pub safe_where : Bool → ℤ → ℤ → Ranged
safe_where test lo hi = if test then always lo hi else not_safe

-- ---- words of the rows

-- both ends are n
abbrev pub is_only : ℤ → ℤ → ℤ → Bool
is_only n a b = int_eq a n && int_eq b n

-- both ends are 1, or both are -1
abbrev pub are_units : ℤ → ℤ → Bool
are_units a b = is_only (pos 1) a b || is_only (negsuc 0) a b

-- 0 lies in a..b
abbrev pub has_zero : ℤ → ℤ → Bool
has_zero a b = int_le a (pos 0) && int_le (pos 0) b

-- both ends are 0 or 1
abbrev pub are_truths : ℤ → ℤ → Bool
are_truths a b = int_le (pos 0) a && int_le b (pos 1)

-- each of four is a number of the language
abbrev pub are_numbers : ℤ → ℤ → ℤ → ℤ → Bool
are_numbers p q r s = (is_number p && is_number q) && (is_number r && is_number s)

-- the least and the greatest of four
abbrev pub least_of : ℤ → ℤ → ℤ → ℤ → ℤ
least_of p q r s = int_min (int_min p q) (int_min r s)

abbrev pub greatest_of : ℤ → ℤ → ℤ → ℤ → ℤ
greatest_of p q r s = int_max (int_max p q) (int_max r s)

-- the greatest magnitude in a..b
abbrev pub most_of : ℤ → ℤ → ℤ
most_of a b = int_max (magnitude a) (magnitude b)

-- the least magnitude in a..b: 0 where 0 lies there
abbrev pub low_of : ℤ → ℤ → ℤ
low_of a b = if has_zero a b then pos 0 else int_min (magnitude a) (magnitude b)

-- a to the power n, where n is not negative
abbrev pub to_the : ℤ → ℤ → ℤ
to_the a n = int_pow a (unsigned_abs n)

-- the least power: a to the power c where a is 1 or more, else 0
abbrev pub low_power : ℤ → ℤ → ℤ
low_power a c = if int_le (pos 1) a then to_the a c else pos 0

-- the greatest power: the greater of 1 and b to the power d
abbrev pub high_power : ℤ → ℤ → ℤ
high_power b d = int_max (pos 1) (to_the b d)

-- ---- the rows

-- a function of one number in a..b
abbrev pub row1 : Mon → ℤ → ℤ → Ranged
row1 mon.Plus a b = always a b
row1 mon.Minus a b = always (neg_ℤ b) (neg_ℤ a)
row1 mon.Sign a b = always (int_signum a) (int_signum b)
row1 mon.Recip a b = safe_where (are_units a b) a b
row1 mon.Ceil a b = always a b
row1 mon.Floor a b = always a b
row1 mon.Abs a b = always (low_of a b) (most_of a b)
row1 mon.Not a b = safe_where (are_truths a b) (pos 1 -ℤ b) (pos 1 -ℤ a)
row1 mon.Fact a b =
    safe_where (int_le (pos 0) a && int_le b (pos 32))
    (pos (factorial (unsigned_abs a)))
    (pos (factorial (unsigned_abs b)))

-- a function of two numbers, the left in a..b and the right in c..d
abbrev pub row2 : Dya → ℤ → ℤ → ℤ → ℤ → Ranged
row2 dya.Add a b c d = safe_where (is_number (a +ℤ c) && is_number (b +ℤ d)) (a +ℤ c) (b +ℤ d)
row2 dya.Sub a b c d = safe_where (is_number (a -ℤ d) && is_number (b -ℤ c)) (a -ℤ d) (b -ℤ c)
row2 dya.Mul a b c d =
    safe_where (are_numbers (a *ℤ c) (a *ℤ d) (b *ℤ c) (b *ℤ d))
    (least_of (a *ℤ c) (a *ℤ d) (b *ℤ c) (b *ℤ d))
    (greatest_of (a *ℤ c) (a *ℤ d) (b *ℤ c) (b *ℤ d))
row2 dya.Div a b c d =
    safe_where (are_units c d)
    (if is_only (pos 1) c d then a else neg_ℤ b)
    (if is_only (pos 1) c d then b else neg_ℤ a)
row2 dya.Pow a b c d =
    safe_where ((int_le (pos 0) a && int_le (pos 0) c) && is_number (high_power b d))
    (low_power a c)
    (high_power b d)
row2 dya.Max a b c d = always (int_max a c) (int_max b d)
row2 dya.Min a b c d = always (int_min a c) (int_min b d)
row2 dya.Residue a b c d = safe_where (not (has_zero a b)) (pos 0) (most_of a b -ℤ pos 1)
row2 dya.And a b c d = safe_where (are_truths a b && are_truths c d) (pos 0) (pos 1)
row2 dya.Or a b c d = safe_where (are_truths a b && are_truths c d) (pos 0) (pos 1)
row2 dya.Nand a b c d = safe_where (are_truths a b && are_truths c d) (pos 0) (pos 1)
row2 dya.Nor a b c d = safe_where (are_truths a b && are_truths c d) (pos 0) (pos 1)
row2 dya.Lt a b c d = always (pos 0) (pos 1)
row2 dya.Le a b c d = always (pos 0) (pos 1)
row2 dya.Eq a b c d = always (pos 0) (pos 1)
row2 dya.Ge a b c d = always (pos 0) (pos 1)
row2 dya.Gt a b c d = always (pos 0) (pos 1)
row2 dya.Ne a b c d = always (pos 0) (pos 1)

-- ---- the rules

-- `=` and `≠` alone are safe at characters
abbrev pub takes_characters : Dya → Bool
takes_characters dya.Eq = true
takes_characters dya.Ne = true
takes_characters f = false

-- an argument of kind character, where the row takes numbers alone, is not safe
abbrev pub at_kinds : Bool → Kind → Kind → Ranged → Ranged
at_kinds true left right row = row
at_kinds false Num Num row = row
at_kinds false Num Char row = not_safe
at_kinds false Char right row = not_safe

-- a row at two kinds and intervals: an empty interval comes before all else, then the kinds, then the row
abbrev pub at_intervals : Bool → (ℤ → ℤ → ℤ → ℤ → Ranged) → Kind → Interval → Kind → Interval → Ranged
at_intervals characters row left Empty right q = nothing
at_intervals characters row left (Span a b) right Empty = nothing
at_intervals characters row left (Span a b) right (Span c d) = at_kinds characters left right (row a b c d)

-- a row at two sides
abbrev pub at_sides : Bool → (ℤ → ℤ → ℤ → ℤ → Ranged) → Side → Side → Ranged
at_sides characters row a b = at_intervals characters row a.kind a.interval b.kind b.interval

-- a row at one side: an empty side comes before all else, then the kind, then the row
abbrev pub at_side : (ℤ → ℤ → Ranged) → Kind → Interval → Ranged
at_side row kind Empty = nothing
at_side row Num (Span a b) = row a b
at_side row Char (Span a b) = not_safe

-- what is known of `f B`, B being of the side
abbrev pub ranged1 : Mon → Side → Ranged
ranged1 f b = at_side (row1 f) b.kind b.interval

-- what is known of `A f B`, A and B being of the sides
abbrev pub ranged2 : Dya → Side → Side → Ranged
ranged2 f = at_sides (takes_characters f) (row2 f)
