-- Leaves that read a whole owner, and what is so of a leaf that is answered.
use Rattle.std.specs.Prelude.{◌≡◌, ℕ, ◌<◌, length, List, Option, Some, None, [], ◌∷◌}
use Rattle.apl_base.specs.declared.cells.Kind.{Kind}
use Rattle.apl_base.specs.declared.cells.Kind.TheVariants.{Num}
use Rattle.apl_base.specs.Array.{Array, size_of}
use Rattle.array_desc.specs.Desc.{DescView, IsWhole}
use Rattle.array_store.specs.Stores.{StoreView, holders_of, cells_of, kind_of}
use Rattle.drag_along.specs.declared.leaves.Leaf.{Leaf}
use Rattle.drag_along.specs.declared.leaves.Leaf.TheVariants.{Stored, Gen}
use Rattle.drag_along.specs.declared.nodes.Node.{Node}
use Rattle.drag_along.specs.declared.nodes.Node.TheVariants.{Operand}
use Rattle.drag_along.specs.Nodes.{leaf_kind}
use Rattle.drag_along.specs.Segments.{HasShape}
use Rattle.drag_along.specs.Lawful.{IsLawfulLeaf}
use Rattle.drag_along.specs.Meaning.{leaf_array}

-- a leaf that reads all cells of an owner, as an array of this shape and kind
pub record IsWholeView (owner : ℕ) (lengths : List ℕ) (kind : Kind) (leaf : Leaf) : Type 0 where
  pub desc : DescView
  pub whole : IsWhole lengths desc
  pub is : leaf ≡ Stored owner desc kind

-- somebody holds the owner, and it has just as many cells as the shape has places
pub record FillsShape (store : StoreView) (owner : ℕ) (lengths : List ℕ) : Type 0 where
  pub live : 0 < holders_of store owner
  pub count : length (cells_of store owner) ≡ size_of lengths

-- all cells of an owner, as an array of this shape
abbrev pub owner_array : StoreView → ℕ → List ℕ → Array
owner_array store owner lengths = record {
  kind = kind_of store owner;
  shape = lengths;
  cells = cells_of store owner;
}

-- over a store a leaf is lawful and stands for this array
pub record StandsForArray (store : StoreView) (leaf : Leaf) (a : Array) : Type 0 where
  pub lawful : IsLawfulLeaf store leaf
  pub shape : HasShape a.shape leaf
  pub kind : leaf_kind leaf ≡ a.kind
  pub array : leaf_array store a.shape leaf ≡ a

-- the leaf that is all of the nodes, where one is
abbrev pub only_leaf : List Node → Option Leaf
only_leaf (Operand leaf ∷ []) = Some leaf
only_leaf nodes = None

-- the descriptor of a leaf of numbers that are not stored, where that is all of the nodes
abbrev pub only_numbers : List Node → Option DescView
only_numbers (Operand (Gen desc Num) ∷ []) = Some desc
only_numbers nodes = None
