-- What the interval rules are good for: a safe range is sound, and less known of the arguments is never more of the value.
use Rattle.std.specs.Prelude.{◌≡◌, IsTrue, Option, Some}
use Rattle.apl_base.specs.declared.cells.Kind.TheVariants.{Num}
use Rattle.apl_base.specs.declared.cells.Elem.{Elem}
use Rattle.apl_base.specs.declared.cells.Interval.{Interval}
use Rattle.value_range.specs.declared.sides.Side.{Side}
use Rattle.value_range.specs.declared.sides.Ranged.{Ranged}
use Rattle.apl_base.specs.Interval.{IsInterval, InInterval, IsWithin}

-- an element of a side: of its kind, with a cell in its interval
pub record IsMember (s : Side) (e : Elem) : Type 0 where
  pub kind : e.kind ≡ s.kind
  pub cell : InInterval s.interval e.cell

-- there is a value, and it is a number of the interval
abbrev pub GivesWithin : Interval → Option Elem → Type 0
GivesWithin range value = (v : Elem) × (value ≡ Some v) × IsMember (record { kind = Num; interval = range }) v

-- where the answer is safe, a function of one argument is defined at all elements of the side, with values in the range
abbrev pub IsSound1 : (Elem → Option Elem) → Side → Ranged → Type 0
IsSound1 f b answer = IsTrue answer.safe → (y : Elem) → IsMember b y → GivesWithin answer.range (f y)

-- the same of a function of two arguments
abbrev pub IsSound2 : (Elem → Elem → Option Elem) → Side → Side → Ranged → Type 0
IsSound2 f a b answer = IsTrue answer.safe → (x y : Elem) → IsMember a x → IsMember b y → GivesWithin answer.range (f x y)

-- a side that has the same kind, and an interval within the other's
pub record IsPart (s larger : Side) : Type 0 where
  pub kind : s.kind ≡ larger.kind
  pub interval : IsWithin s.interval larger.interval

-- an answer that says as much or more: a range within the other's, and safe where that is
pub record IsSharper (answer larger : Ranged) : Type 0 where
  pub range : IsWithin answer.range larger.range
  pub safe : IsTrue larger.safe → IsTrue answer.safe

-- ---- laws of a rule, which says of two sides what is known of the values there

-- the range of the rule is an interval
abbrev pub IsIntervalRule : (Side → Side → Ranged) → Type 0
IsIntervalRule rule = (a b : Side) → IsInterval a.interval → IsInterval b.interval → IsInterval (rule a b).range

-- the rule is sound for a function of two arguments
abbrev pub IsSoundRule : (Side → Side → Ranged) → (Elem → Elem → Option Elem) → Type 0
IsSoundRule rule f = (a b : Side) → IsInterval a.interval → IsInterval b.interval → IsSound2 f a b (rule a b)

-- the answer at two sides is sharper than that of the rule at all sides of which they are parts
abbrev pub IsSharpAt : (Side → Side → Ranged) → Side → Side → Ranged → Type 0
IsSharpAt rule a b answer =
    (p q : Side) → IsInterval p.interval → IsInterval q.interval → IsPart a p → IsPart b q → IsSharper answer (rule p q)

-- the rule is sharper over less
abbrev pub IsMonotoneRule : (Side → Side → Ranged) → Type 0
IsMonotoneRule rule = (a b : Side) → IsInterval a.interval → IsInterval b.interval → IsSharpAt rule a b (rule a b)
