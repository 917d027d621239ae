-- The lists that the calls build, axis by axis.
use Rattle.std.specs.Prelude.{◌≡◌, ℕ, ◌+◌, ◌-◌, ◌≤◌, min, ℤ, pos, ◌+ℤ◌, unsigned_abs, int_lt, nat_le, ◌==◌, ◌||◌, Bool, false, Option, Some, None, List, [], ◌∷◌, length, if◌then◌else◌}
use Rattle.apl_base.specs.Number.{IsNumber}
use Rattle.apl_base.specs.Array.{IsShape, IsIndex, size_of}
use Rattle.array_desc.specs.Desc.{DescView, dot, number}
use Rattle.apl_base.specs.Selection.{taken, dropped, least}

-- a base, strides and lengths that make a descriptor
pub record IsSound (b : ℤ) (ss : List ℤ) (ns : List ℕ) : Type 0 where
  pub shape : IsShape ns
  pub axes : length ss ≡ length ns
  pub numbers : (i : List ℕ) → IsIndex ns i → IsNumber (b +ℤ dot ss i)

-- they give at each index the number that the old descriptor has at the index read
pub record Makes (b : ℤ) (ss : List ℤ) (ns : List ℕ) (old : DescView) (lengths : List ℕ) (read : List ℕ → List ℕ) : Type 0 where
  pub sound : IsSound b ss ns
  pub shape : ns ≡ lengths
  pub index : (i : List ℕ) → IsIndex lengths i → IsIndex old.shape (read i)
  pub same : (i : List ℕ) → IsIndex lengths i → b +ℤ dot ss i ≡ number old (read i)

-- f of the elements of two lists, place by place
abbrev pub paired : {A B C : Type 0} → (A → B → C) → List A → List B → List C
paired f (x ∷ xs) (y ∷ ys) = f x y ∷ paired f xs ys
paired f xs ys = []

-- the stride kept for an axis: 0 where no index moves along it
abbrev pub stride_kept : Bool → ℤ → ℕ → ℤ
stride_kept empty s n = if empty || nat_le n 1 then pos 0 else s

-- how far the strides of the axes behind reach: in row-major order the stride of an axis
abbrev pub row_strides : List ℕ → List ℤ
row_strides [] = []
row_strides (n ∷ ns) = pos (size_of ns) ∷ row_strides ns

-- the strides that the whole of a shape keeps, where it has an element
abbrev pub whole_strides : List ℕ → List ℤ
whole_strides [] = []
whole_strides (n ∷ ns) = stride_kept false (pos (size_of ns)) n ∷ whole_strides ns

-- part of each axis, from a start on, fits the lengths
abbrev pub WindowFits : List ℕ → List ℕ → List ℕ → Type 0
WindowFits [] [] [] = Unit {0}
WindowFits (n ∷ ns) (a ∷ starts) (m ∷ lengths) = (a + m ≤ n) × WindowFits ns starts lengths
WindowFits ns starts lengths = ⊥

-- the last index of an axis where the sign of the stride asks for it, else the first
abbrev pub end_index : Bool → ℤ → ℕ → ℕ
end_index upper s n = if upper then (if int_lt (pos 0) s then n - 1 else 0) else (if int_lt s (pos 0) then n - 1 else 0)

-- the sum of the strides of the axes that become axis r
abbrev pub stride_at : ℕ → List ℕ → List ℤ → ℤ
stride_at r (a ∷ axes) (s ∷ ss) = if a == r then s +ℤ stride_at r axes ss else stride_at r axes ss
stride_at r axes ss = pos 0

-- where the part of an axis that take or skip leaves begins, and how long it is
abbrev pub window_start : Bool → ℕ → ℤ → ℕ
window_start taking n a = if taking then taken n a 0 else dropped n a 0

abbrev pub window_length : Bool → ℕ → ℤ → ℕ
window_length taking n a = if taking then unsigned_abs a else n - unsigned_abs a

-- the lesser of the least number so far, if there is one, and another
abbrev pub lesser : Option ℕ → ℕ → ℕ
lesser None n = n
lesser (Some m) n = min m n

-- the least of the number so far, if there is one, and those of a list
abbrev pub least_with : Option ℕ → List ℕ → ℕ
least_with None ns = least ns
least_with (Some m) ns = least (m ∷ ns)
