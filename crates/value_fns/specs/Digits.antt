-- The digits of numbers in bases, as rows: one for each base.
use Rattle.std.specs.Prelude.{ℤ, pos, int_lt, Bool, ◌&&◌, ◌||◌, List, [], ◌∷◌, ◌++◌, map, unwrap_or}
use Rattle.std.specs.List.{list_any, flat_map}
use Rattle.apl_base.specs.declared.cells.Kind.TheVariants.{Num}
use Rattle.apl_base.specs.declared.faults.ErrorKind.TheVariants as error
use Rattle.apl_base.specs.Array.{Array}
use Rattle.apl_base.specs.Selection.{upward}
use Rattle.apl_model.specs.Whole.{Answer, count, error_if, is_text, or_domain}
use Rattle.std.specs.Ordering.{int_eq}
use Rattle.apl_base.specs.Scalar.{residue}
use Rattle.apl_model.specs.Made.{carried, columns_of, digit_rows}

-- the digit in a base, 0 where there is none
abbrev pub digit_of : ℤ → ℤ → ℤ
digit_of a z = unwrap_or (residue a z) (pos 0)

-- what is left of a number for the bases before these
abbrev pub left_over : List ℤ → ℤ → ℤ
left_over [] z = z
left_over (a ∷ bases) z = carried a (left_over bases z)

-- a row for each base, with the digit of each number in it
abbrev pub digit_table : List ℤ → List ℤ → List ℤ
digit_table [] zs = []
digit_table (a ∷ bases) zs = map (λ z. digit_of a (left_over bases z)) zs ++ digit_table bases zs

-- a negative number has no digit in the base 0
abbrev pub is_undefined : List ℤ → List ℤ → Bool
is_undefined bases zs = list_any (int_eq (pos 0)) bases && list_any (λ z. int_lt z (pos 0)) zs

-- the digits of B in the bases A, with the shape of A and then of B, or the error where a digit is undefined
abbrev pub encoded : Array → Array → Answer
encoded a b = or_domain (columns_of a b) (λ columns. record { kind = Num; shape = a.shape ++ b.shape; cells = flat_map (digit_rows a.cells columns) (upward 0 (count a)) })

-- the same where no argument is text
abbrev pub shaped : Array → Array → Answer
shaped a b = error_if error.Domain (is_text a || is_text b) (encoded a b)
