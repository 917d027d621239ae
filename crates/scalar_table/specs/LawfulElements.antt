-- What a scalar function gives at lawful elements is a number of the language.
use Rattle.std.proofs.Common.{Bool, not, ℤ, Option, Some, None, IfSome, refl}
use Rattle.std.specs.Option.{option_map}
use Rattle.apl_base.specs.declared.cells.Kind.{Kind}
use Rattle.apl_base.specs.declared.cells.Kind.TheVariants.{Num, Char}
use Rattle.apl_base.specs.declared.cells.Elem.{Elem}
use Rattle.apl_base.specs.declared.rows.Mon.{Mon}
use Rattle.apl_base.specs.declared.rows.Dya.{Dya}
use Rattle.apl_base.specs.declared.rows.Dya.TheVariants as dya
use Rattle.apl_base.specs.Number.{IsNumber, IsCell}
use Rattle.apl_base.specs.Scalar.{truth, is_same, number, on_number, of_number, of_numbers, scalar1, scalar2}
use Rattle.scalar_table.specs.Row.{IsElement, IsNumberElement}
use Rattle.scalar_table.specs.LawfulNumbers.{truth-lawful, of_number-lawful, of_numbers-lawful}

from_number : (o : Option ℤ) → IfSome o IsNumber → IfSome (option_map number o) IsNumberElement
from_number None h = tt
from_number (Some z) h = record { kind = refl; cell = h }

at_one : (f : Mon) (k : Kind) (z : ℤ) → IsCell k z → IfSome (option_map number (on_number k (of_number f z))) IsNumberElement
at_one f Num z h = from_number (of_number f z) (of_number-lawful f z h)
at_one f Char z h = tt

pub scalar1-lawful : (f : Mon) (b : Elem) → IsElement b → IfSome (scalar1 f b) IsNumberElement
scalar1-lawful f b h = at_one f b.kind b.cell h

at_two : (f : Dya) (k l : Kind) (x y : ℤ) → IsCell k x → IsCell l y → IfSome (option_map number (on_number k (on_number l (of_numbers f x y)))) IsNumberElement
at_two f Num Num x y g h = from_number (of_numbers f x y) (of_numbers-lawful f x y g h)
at_two f Num Char x y g h = tt
at_two f Char l x y g h = tt

from_truth : (b : Bool) → IsNumberElement (number (truth b))
from_truth b = record { kind = refl; cell = truth-lawful b }

pub scalar2-lawful : (f : Dya) (a b : Elem) → IsElement a → IsElement b → IfSome (scalar2 f a b) IsNumberElement
scalar2-lawful dya.Eq a b g h = from_truth (is_same a b)
scalar2-lawful dya.Ne a b g h = from_truth (not (is_same a b))
scalar2-lawful f a b g h = at_two f a.kind b.kind a.cell b.cell g h
