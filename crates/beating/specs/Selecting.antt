-- What a selection keeps of an array, when it may be made, and what becomes of a pending expression.
use Rattle.std.specs.Prelude.{◌≡◌, ℕ, ◌<◌, List, [], ◌∷◌, ◌++◌, length, map}
use Rattle.apl_base.specs.Array.{Array, IsShape, size_of}
use Rattle.apl_base.specs.Elements.{gathered}
use Rattle.apl_base.specs.Selection.{Position, whole, one, run, CountsFit, take_shape, take_index, drop_shape, drop_index, reverse_index, AreAxes, axes_rank, transpose_shape, transpose_index, subscript_shape, subscript_index, only_index, outer_left_index, outer_right_index}
use Rattle.array_desc.specs.Desc.{DescView, Selects, RunFits}
use Rattle.drag_along.specs.declared.leaves.Leaf.{Leaf}
use Rattle.drag_along.specs.declared.leaves.Leaf.TheVariants.{Stored, Gen}
use Rattle.drag_along.specs.declared.nodes.Node.{Node}
use Rattle.drag_along.specs.declared.nodes.Node.TheVariants.{Operand, One, Two}
use Rattle.drag_along.specs.Meaning.{Meaning, Means, Faults}
use Rattle.beating.specs.declared.selections.Item.{Item}
use Rattle.beating.specs.declared.selections.Item.TheVariants as item
use Rattle.beating.specs.declared.selections.Selection.{Selection}
use Rattle.beating.specs.declared.selections.Selection.TheVariants as select

-- the position that an item of a subscript is
abbrev pub position_of : Item → Position
position_of item.All = whole
position_of (item.At i) = one i
position_of (item.Run from step n) = run from step n

-- an item for each axis, whose places are on it
abbrev pub ItemsFit : List Item → List ℕ → Type 0
ItemsFit [] [] = Unit {0}
ItemsFit (item.All ∷ items) (n ∷ ns) = ItemsFit items ns
ItemsFit (item.At i ∷ items) (n ∷ ns) = (i < n) × ItemsFit items ns
ItemsFit (item.Run from step count ∷ items) (n ∷ ns) = RunFits n from step count × ItemsFit items ns
ItemsFit [] (n ∷ ns) = ⊥
ItemsFit (i ∷ items) [] = ⊥

-- the selection may be made from an array of this shape. For a subscript only the final shape must be one
abbrev pub Fits : Selection → List ℕ → Type 0
Fits (select.Take counts) ns = CountsFit ns counts.items
Fits (select.Skip counts) ns = CountsFit ns counts.items
Fits (select.Reverse axis) ns = axis < length ns
Fits (select.Transpose axes) ns = (length axes.items ≡ length ns) × AreAxes (axes_rank axes.items) axes.items
Fits (select.Index items) ns = ItemsFit items.items ns × IsShape (subscript_shape (map position_of items.items) ns)
Fits (select.Extend to) ns = size_of ns ≡ 1
Fits (select.OuterLeft right) ns = IsShape (ns ++ right)
Fits (select.OuterRight left) ns = IsShape (left ++ ns)

-- the lengths of the result
abbrev pub selected_shape : Selection → List ℕ → List ℕ
selected_shape (select.Take counts) ns = take_shape counts.items
selected_shape (select.Skip counts) ns = drop_shape ns counts.items
selected_shape (select.Reverse axis) ns = ns
selected_shape (select.Transpose axes) ns = transpose_shape axes.items ns
selected_shape (select.Index items) ns = subscript_shape (map position_of items.items) ns
selected_shape (select.Extend to) ns = to
selected_shape (select.OuterLeft right) ns = ns ++ right
selected_shape (select.OuterRight left) ns = left ++ ns

-- the index of the argument that is read for an index of the result
abbrev pub selected_index : Selection → List ℕ → List ℕ → List ℕ
selected_index (select.Take counts) ns is = take_index ns counts.items is
selected_index (select.Skip counts) ns is = drop_index ns counts.items is
selected_index (select.Reverse axis) ns is = reverse_index ns axis is
selected_index (select.Transpose axes) ns is = transpose_index axes.items is
selected_index (select.Index items) ns is = subscript_index (map position_of items.items) is
selected_index (select.Extend to) ns is = only_index ns
selected_index (select.OuterLeft right) ns is = outer_left_index ns is
selected_index (select.OuterRight left) ns is = outer_right_index left is

-- the selection of an array
abbrev pub selected : Selection → Array → Array
selected by a = gathered (selected_shape by a.shape) (selected_index by a.shape) a

-- and of what an expression means
abbrev pub selected_meaning : Selection → Meaning → Meaning
selected_meaning by (Means a) = Means (selected by a)
selected_meaning by (Faults place) = Faults place

-- the descriptor is the selection of the old one
abbrev pub SelectsBy : Selection → DescView → DescView → Type 0
SelectsBy by old new = Selects old new (selected_shape by old.shape) (selected_index by old.shape)

-- a leaf of the same owner and kind, or of numbers of the same kind, whose descriptor is the selection of the old one
abbrev pub SelectsLeaf : Selection → Leaf → Leaf → Type 0
SelectsLeaf by (Stored owner old kind) (Stored named new what) = (named ≡ owner) × (what ≡ kind) × SelectsBy by old new
SelectsLeaf by (Gen old kind) (Gen new what) = (what ≡ kind) × SelectsBy by old new
SelectsLeaf by (Stored owner old kind) (Gen new what) = ⊥
SelectsLeaf by (Gen old kind) (Stored named new what) = ⊥

-- every function stays, and every leaf is the selection of the old one
abbrev pub SelectsNodes : Selection → List Node → List Node → Type 0
SelectsNodes by [] [] = Unit {0}
SelectsNodes by (Operand old ∷ olds) (Operand new ∷ news) = SelectsLeaf by old new × SelectsNodes by olds news
SelectsNodes by (One f place ∷ olds) (One g at ∷ news) = (g ≡ f) × (at ≡ place) × SelectsNodes by olds news
SelectsNodes by (Two f place ∷ olds) (Two g at ∷ news) = (g ≡ f) × (at ≡ place) × SelectsNodes by olds news
SelectsNodes by olds news = ⊥
