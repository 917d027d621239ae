-- The numbers of the language, and which cells an element may have.
use Rattle.std.specs.Prelude.{ℤ, pos, negsuc, neg_ℤ, ◌≤ℤ◌, int_le, Bool, ◌&&◌}
use Rattle.std.specs.Char.{IsScalar}
use Rattle.apl_base.specs.declared.cells.TheConstants.{M}
use Rattle.apl_base.specs.declared.cells.Kind.{Kind}
use Rattle.apl_base.specs.declared.cells.Kind.TheVariants.{Num, Char}

-- a number of the language: one in -M..M
pub record IsNumber (z : ℤ) : Type 0 where
  pub least : neg_ℤ M ≤ℤ z
  pub most : z ≤ℤ M

-- the same as a test
abbrev pub is_number : ℤ → Bool
is_number z = int_le (neg_ℤ M) z && int_le z M

-- a character: a Unicode scalar value
abbrev pub IsCharacter : ℤ → Type 0
IsCharacter (pos c) = IsScalar c
IsCharacter (negsuc n) = ⊥

-- a cell that an element of this kind may have
abbrev pub IsCell : Kind → ℤ → Type 0
IsCell Num z = IsNumber z
IsCell Char z = IsCharacter z
