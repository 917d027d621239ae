-- The scalar functions of one argument and of two under one name, at a list of as many elements.
use Rattle.std.specs.Prelude.{◌≡◌, List, [], ◌∷◌, Option, None}
use Rattle.apl_base.specs.declared.cells.Kind.TheVariants.{Num}
use Rattle.apl_base.specs.declared.cells.Elem.{Elem}
use Rattle.apl_base.specs.declared.rows.Mon.{Mon}
use Rattle.apl_base.specs.declared.rows.Dya.{Dya}
use Rattle.apl_base.specs.Number.{IsNumber, IsCell}
use Rattle.apl_base.specs.Scalar.{scalar1, scalar2}

-- one of the 27: of one argument, or of two
pub data Row : Type 0 where
  One : Mon → Row
  Two : Dya → Row

-- its value at one element, or at two of which the left stands first
abbrev pub scalar : Row → List Elem → Option Elem
scalar (One f) (b ∷ []) = scalar1 f b
scalar (Two f) (a ∷ b ∷ []) = scalar2 f a b
scalar row elements = None

-- an element whose cell is lawful for its kind
abbrev pub IsElement : Elem → Type 0
IsElement e = IsCell e.kind e.cell

-- an element that is a number of the language
pub record IsNumberElement (e : Elem) : Type 0 where
  pub kind : e.kind ≡ Num
  pub cell : IsNumber e.cell
