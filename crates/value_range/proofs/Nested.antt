-- Intervals within intervals, and the elements of sides.
use Rattle.std.proofs.Common.{ℤ, ◌∙◌, arith}
use Rattle.std.proofs.lemmas.Int.{ints}
use Rattle.apl_base.specs.declared.cells.Elem.{Elem}
use Rattle.apl_base.specs.declared.cells.Interval.{Interval}
use Rattle.apl_base.specs.declared.cells.Interval.TheVariants.{Empty, Span}
use Rattle.apl_base.specs.Interval.{IsInterval, InInterval, IsWithin}
use Rattle.apl_base.specs.Number.{IsNumber}
use Rattle.value_range.specs.declared.sides.Side.{Side}
use Rattle.value_range.specs.Sound.{IsMember, IsPart}

pub within_itself : (p : Interval) → IsWithin p p
within_itself Empty = tt
within_itself (Span a b) = (omega (arith, ints), omega (arith, ints))

pub within_within : (p q r : Interval) → IsWithin p q → IsWithin q r → IsWithin p r
within_within Empty q r h k = tt
within_within (Span a b) Empty r h k = absurd h
within_within (Span a b) (Span c d) Empty h k = absurd k
within_within (Span a b) (Span c d) (Span e f) h k = (omega (arith, ints, h.0, k.0), omega (arith, ints, h.1, k.1))

in_wider : (p q : Interval) (z : ℤ) → IsWithin p q → InInterval p z → InInterval q z
in_wider Empty q z h i = absurd i
in_wider (Span a b) Empty z h i = absurd h
in_wider (Span a b) (Span c d) z h i = (omega (arith, ints, h.0, i.0), omega (arith, ints, h.1, i.1))

pub in_whole : (side wide : Side) (e : Elem) → IsPart side wide → IsMember side e → IsMember wide e
in_whole side wide e h m = record { kind = m.kind ∙ h.kind; cell = in_wider side.interval wide.interval e.cell h.interval m.cell }

in_numbers : (p : Interval) (z : ℤ) → IsInterval p → InInterval p z → IsNumber z
in_numbers Empty z h i = absurd i
in_numbers (Span a b) z h i =
    let l = h.least in
    let m = h.most in
    record { least = omega (arith, ints, i.0); most = omega (arith, ints, i.1) }

pub member_number : (side : Side) (e : Elem) → IsInterval side.interval → IsMember side e → IsNumber e.cell
member_number side e h m = in_numbers side.interval e.cell h m.cell
