-- What a segment means over a store: an array, or the place of its first fault. It depends on the cells of the
-- owners that its leaves name, and on nothing else of the store.
use Rattle.std.specs.Prelude.{◌≡◌, ℕ, zero, suc, ◌<◌, ℤ, unsigned_abs, Bool, false, IsTrue, is_none, List, [], ◌∷◌, length, map, slice_get, Option, Some, None}
use Rattle.std.specs.Option.{option_map, option_and_then}
use Rattle.std.specs.List.{zip}
use Rattle.apl_base.specs.declared.cells.Kind.TheVariants.{Num}
use Rattle.apl_base.specs.declared.cells.Elem.{Elem}
use Rattle.apl_base.specs.declared.faults.Place.{Place}
use Rattle.apl_base.specs.declared.rows.Mon.{Mon}
use Rattle.apl_base.specs.declared.rows.Dya.{Dya}
use Rattle.apl_base.specs.Array.{Array, IsIndex, size_of, cell_at}
use Rattle.apl_base.specs.Elements.{element, elements, numbers, all_defined, tabulated}
use Rattle.apl_base.specs.Scalar.{scalar1, scalar2}
use Rattle.array_desc.specs.Desc.{number}
use Rattle.array_store.specs.Stores.{StoreView, cell_of}
use Rattle.drag_along.specs.declared.leaves.Leaf.{Leaf}
use Rattle.drag_along.specs.declared.leaves.Leaf.TheVariants.{Stored, Gen}
use Rattle.drag_along.specs.declared.nodes.Node.{Node}
use Rattle.drag_along.specs.declared.nodes.Node.TheVariants.{Operand, One, Two}
use Rattle.drag_along.specs.Nodes.{leaf_kind, node_place}
use Rattle.drag_along.specs.Segments.{SegmentView}

-- ---- at one index

-- a stored leaf has at an index the cell at its descriptor's number; any other has that number
abbrev pub leaf_cell : StoreView → Leaf → List ℕ → ℤ
leaf_cell store (Stored owner desc kind) i = cell_of store owner (unsigned_abs (number desc i))
leaf_cell store (Gen desc kind) i = number desc i

abbrev pub leaf_element : StoreView → Leaf → List ℕ → Elem
leaf_element store leaf i = element (leaf_kind leaf) (leaf_cell store leaf i)

-- a node takes its operands from the values pending, the newest first, and leaves its own: that of the leaf, or
-- that of the function on its operands; None where an operand or the function has none
abbrev pub value_at : StoreView → List ℕ → Node → List (Option Elem) → List (Option Elem)
value_at store i (Operand leaf) stack = Some (leaf_element store leaf i) ∷ stack
value_at store i (One f place) (b ∷ stack) = option_and_then (scalar1 f) b ∷ stack
value_at store i (Two f place) (a ∷ b ∷ stack) = option_and_then (λ x. option_and_then (scalar2 f x) b) a ∷ stack
value_at store i node stack = stack

-- the values pending after the nodes
abbrev pub values_at : StoreView → List ℕ → List Node → List (Option Elem) → List (Option Elem)
values_at store i [] stack = stack
values_at store i (node ∷ nodes) stack = values_at store i nodes (value_at store i node stack)

-- a function fails where its operands are defined and it is not
abbrev pub fails_on : Node → List (Option Elem) → Bool
fails_on (One f place) (Some b ∷ stack) = is_none (scalar1 f b)
fails_on (Two f place) (Some a ∷ Some b ∷ stack) = is_none (scalar2 f a b)
fails_on node stack = false

-- whether node number k fails at an index
abbrev pub fails_at : StoreView → List ℕ → List Node → ℕ → List (Option Elem) → Bool
fails_at store i [] k stack = false
fails_at store i (node ∷ nodes) zero stack = fails_on node stack
fails_at store i (node ∷ nodes) (suc k) stack = fails_at store i nodes k (value_at store i node stack)

-- ---- over all indices

-- node number k of a segment fails at some index
abbrev pub Fails : StoreView → SegmentView → ℕ → Type 0
Fails store segment k = (i : List ℕ) × IsIndex segment.shape i × IsTrue (fails_at store i segment.nodes k [])

-- the first fault: the least node in postfix order that fails at any index
pub record IsFirstFault (store : StoreView) (segment : SegmentView) (k : ℕ) : Type 0 where
  pub fails : Fails store segment k
  pub least : (j : ℕ) → j < k → ¬ (Fails store segment j)

-- no node fails, and the array has at each index the value there
pub record IsItsArray (store : StoreView) (segment : SegmentView) (a : Array) : Type 0 where
  pub none : (k : ℕ) → ¬ (Fails store segment k)
  pub kind : a.kind ≡ segment.kind
  pub shape : a.shape ≡ segment.shape
  pub count : length a.cells ≡ size_of segment.shape
  pub cells : (i : List ℕ) → IsIndex segment.shape i → values_at store i segment.nodes [] ≡ Some (element a.kind (cell_at a i)) ∷ []

-- what a pending expression means: an array, or the place of the function that fails first
pub data Meaning : Type 0 where
  Means : Array → Meaning
  Faults : Place → Meaning

-- this is what the segment means
abbrev pub IsMeaning : StoreView → SegmentView → Meaning → Type 0
IsMeaning store segment (Means a) = IsItsArray store segment a
IsMeaning store segment (Faults place) = (k : ℕ) × IsFirstFault store segment k × (option_map node_place (slice_get segment.nodes k) ≡ Some place)

-- ---- the same, computed by whole arrays, node after node

-- an array of these numbers, where all are defined
abbrev pub numbers_or : Place → List ℕ → Option (List Elem) → Meaning
numbers_or place shape (Some es) = Means (numbers shape es)
numbers_or place shape None = Faults place

-- a function of arrays of one shape, element by element
abbrev pub applied1 : Mon → Place → Array → Meaning
applied1 f place b = numbers_or place b.shape (all_defined (map (scalar1 f) (elements b)))

abbrev pub applied2 : Dya → Place → Array → Array → Meaning
applied2 f place a b = numbers_or place b.shape (all_defined (map (λ p. scalar2 f p.0 p.1) (zip (elements a) (elements b))))

-- what `f B` means by what B means: the fault of B, else that of the function, if there is one
abbrev pub combined1 : Mon → Place → Meaning → Meaning
combined1 f place (Faults q) = Faults q
combined1 f place (Means b) = applied1 f place b

-- what `A f B` means by what A and B mean: the fault of B, else that of A, else that of the function
abbrev pub combined2 : Dya → Place → Meaning → Meaning → Meaning
combined2 f place left (Faults q) = Faults q
combined2 f place (Faults q) (Means b) = Faults q
combined2 f place (Means a) (Means b) = applied2 f place a b

-- what a leaf means in a segment of this shape
abbrev pub leaf_array : StoreView → List ℕ → Leaf → Array
leaf_array store shape leaf = tabulated (leaf_kind leaf) shape (leaf_cell store leaf)

-- the arrays pending, the newest first, or the first fault
pub data Pending : Type 0 where
  pending : List Array → Pending
  stopped : Place → Pending

abbrev pub put : Meaning → List Array → Pending
put (Means a) arrays = pending (a ∷ arrays)
put (Faults place) arrays = stopped place

abbrev pub after_node : StoreView → List ℕ → Node → Pending → Pending
after_node store shape node (stopped place) = stopped place
after_node store shape (Operand leaf) (pending arrays) = pending (leaf_array store shape leaf ∷ arrays)
after_node store shape (One f place) (pending (b ∷ arrays)) = put (applied1 f place b) arrays
after_node store shape (Two f place) (pending (a ∷ b ∷ arrays)) = put (applied2 f place a b) arrays
after_node store shape node (pending arrays) = pending arrays

abbrev pub after_nodes : StoreView → List ℕ → List Node → Pending → Pending
after_nodes store shape [] state = state
after_nodes store shape (node ∷ nodes) state = after_nodes store shape nodes (after_node store shape node state)

-- the newest of the arrays; a segment leaves one
abbrev pub newest : Pending → Meaning
newest (stopped place) = Faults place
newest (pending (a ∷ arrays)) = Means a
newest (pending []) = Means (record { kind = Num; shape = []; cells = [] })

-- what a segment means over a store
unfoldable pub entry : StoreView → SegmentView → Meaning
entry store segment = newest (after_nodes store segment.shape segment.nodes (pending []))
