-- The first element of a line.
use Rattle.std.specs.Prelude.{◌≡◌, ℤ, pos}
use Rattle.apl_base.specs.declared.cells.Kind.{Kind}
use Rattle.apl_base.specs.declared.cells.Kind.TheVariants.{Num, Char}

abbrev pub FirstOf : Kind → ℤ → Type 0
FirstOf Num z = z ≡ pos 2
FirstOf Char z = z ≡ pos 66
