-- Entries that mean arrays, of the shapes that they show, and how many functions they have pending.
use Rattle.std.specs.Prelude.{◌≡◌, ◌≤◌, ◌-◌, ℕ, List, [], length, map, slice_index_or}
use Rattle.std.specs.List.{AllByRecursion, AllZip}
use Rattle.apl_base.specs.Array.{Array, size_of}
use Rattle.array_store.specs.Stores.{StoreView}
use Rattle.drag_along.specs.Nodes.{functions_in}
use Rattle.drag_along.specs.Segments.{SegmentView}
use Rattle.drag_along.specs.Meaning.{Means, entry}

-- the shapes of the entries
abbrev pub shapes_of : List SegmentView → List (List ℕ)
shapes_of stack = map (λ s. s.shape) stack

-- an entry means an array of its shape, with a cell for each element
pub record IsArrayEntry (store : StoreView) (s : SegmentView) : Type 0 where
  pub array : Array
  pub means : entry store s ≡ Means array
  pub shape : array.shape ≡ s.shape
  pub complete : length array.cells ≡ size_of array.shape

-- so does each
abbrev pub AreArrays : StoreView → List SegmentView → Type 0
AreArrays store stack = AllByRecursion (IsArrayEntry store) stack

-- no entry has more functions pending than it had
abbrev pub AreFewer : List SegmentView → List SegmentView → Type 0
AreFewer before after = AllZip (λ b a. functions_in a.nodes ≤ functions_in b.nodes) before after

-- the shape of the newest entry, and of the one below it
abbrev pub newest_shape : List SegmentView → List ℕ
newest_shape stack = slice_index_or (shapes_of stack) (length stack - 1) []

abbrev pub second_shape : List SegmentView → List ℕ
second_shape stack = slice_index_or (shapes_of stack) (length stack - 2) []
