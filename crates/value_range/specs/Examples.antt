-- What the worked examples are written in.
use Rattle.std.specs.Prelude.{ℤ}
use Rattle.apl_base.specs.declared.cells.Kind.{Kind}
use Rattle.apl_base.specs.declared.cells.Kind.TheVariants.{Num, Char}
use Rattle.apl_base.specs.declared.cells.Interval.TheVariants.{Empty, Span}
use Rattle.value_range.specs.declared.sides.Side.{Side}

-- numbers from lo to hi
abbrev pub numbers : ℤ → ℤ → Side
numbers lo hi = record { kind = Num; interval = Span lo hi }

-- characters with codes from lo to hi
abbrev pub characters : ℤ → ℤ → Side
characters lo hi = record { kind = Char; interval = Span lo hi }

-- no element, of a kind
abbrev pub empty : Kind → Side
empty kind = record { kind = kind; interval = Empty }
