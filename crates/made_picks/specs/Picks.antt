-- Elements that are picked along the axes of an array. Along each axis a track has for each number of the result the
-- number that is read, or none where the result is filled.
use Rattle.std.specs.Prelude.{ℕ, ◌+◌, ◌<◌, ℤ, pos, ◌+ℤ◌, ◌*ℤ◌, ◌≤ℤ◌, ◌<ℤ◌, unsigned_abs, List, [], ◌∷◌, length, map, replicate, slice_index_or, Option, Some, None}
use Rattle.std.specs.List.{flat_map}
use Rattle.std.specs.Option.{option_map}
use Rattle.apl_base.specs.Array.{Array, IsIndex, size_of}
use Rattle.apl_base.specs.Number.{IsNumber}
use Rattle.array_desc.specs.Desc.{DescView, dot}
use Rattle.array_store.specs.Stores.{StoreView, cell_of, cells_of, holders_of}
use Rattle.drag_along.specs.declared.leaves.Leaf.{Leaf}
use Rattle.drag_along.specs.declared.leaves.Leaf.TheVariants.{Stored, Gen}
use Rattle.drag_along.specs.Nodes.{leaf_shape}
use Rattle.leaf_names.specs.Variables.{array_of}

-- ---- a leaf by the numbers of its descriptor

-- the cell at a number: of a stored leaf that of its owner, of any other the number itself
abbrev pub cell_by : StoreView → Leaf → ℤ → ℤ
cell_by store (Stored owner desc kind) z = cell_of store owner (unsigned_abs z)
cell_by store (Gen desc kind) z = z

-- a stored leaf's owner is live, and has a cell at this number
abbrev pub HasCellAt : StoreView → Leaf → ℤ → Type 0
HasCellAt store (Stored owner desc kind) z =
    (0 < holders_of store owner) × (pos 0 ≤ℤ z) × (z <ℤ pos (length (cells_of store owner)))
HasCellAt store (Gen desc kind) z = Unit {0}

-- the leaf can be read at this number
pub record IsReadable (store : StoreView) (leaf : Leaf) (z : ℤ) : Type 0 where
  pub number : IsNumber z
  pub cell : HasCellAt store leaf z

-- it can be read at each index of these lengths, by these strides from this number on
abbrev pub IsReached : StoreView → Leaf → List ℕ → List ℤ → ℤ → Type 0
IsReached store leaf ns ss at = (is : List ℕ) → IsIndex ns is → IsReadable store leaf (at +ℤ dot ss is)

-- the stride of an axis
abbrev pub stride_on : DescView → ℕ → ℤ
stride_on desc axis = slice_index_or desc.strides axis (pos 0)

-- ---- elements by tracks

-- what is read, or what stands for none
abbrev pub read_or : {X : Type 0} → X → (ℤ → X) → Option ℤ → X
read_or other read None = other
read_or other read (Some z) = read z

-- how many elements each track has
abbrev pub lengths_on : List (List (Option ℤ)) → List ℕ
lengths_on ts = map length ts

-- the elements of all combinations of the tracks in row-major order, by a stride for each of them: blanks where one has
-- none
abbrev pub picked : (ℤ → ℤ) → ℤ → List ℤ → List (List (Option ℤ)) → ℤ → List ℤ
picked cell blank ss [] at = cell at ∷ []
picked cell blank [] (t ∷ ts) at = []
picked cell blank (s ∷ ss) (t ∷ ts) at =
    flat_map (read_or (replicate (size_of (lengths_on ts)) blank) (λ z. picked cell blank ss ts (at +ℤ (s *ℤ z)))) t

-- ---- positions

-- the arrays that positions stand for
abbrev pub positions_of : StoreView → List (Option Leaf) → List (Option Array)
positions_of store positions = map (option_map (array_of store)) positions

-- how many elements a position has that is not left out
abbrev pub elements_at : Option Leaf → ℕ
elements_at None = 0
elements_at (Some leaf) = size_of (leaf_shape leaf)

-- how many they have together
abbrev pub elements_named : List (Option Leaf) → ℕ
elements_named [] = 0
elements_named (p ∷ ps) = elements_at p + elements_named ps
