-- The kind of a column, by whether it is one of characters.
use Rattle.std.specs.Prelude.{Bool, true, false}
use Rattle.apl_base.specs.declared.cells.Kind.{Kind}
use Rattle.apl_base.specs.declared.cells.Kind.TheVariants.{Num, Char}

-- characters where it says so, else numbers
abbrev pub kind_where : Bool → Kind
kind_where true = Char
kind_where false = Num
