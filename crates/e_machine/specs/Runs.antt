-- What is answered on the way to a segment's elements: for a node and for all nodes over a block of places, and over all
-- blocks.
use Rattle.std.specs.Prelude.{◌≡◌, ℕ, ◌+◌, ◌*◌, ◌<◌, ◌≤◌, ℤ, Bool, true, false, IsTrue, All, List, [], ◌∷◌, ◌++◌, length, map, Option, None, Some}
use Rattle.apl_base.specs.declared.cells.Kind.TheVariants.{Num}
use Rattle.apl_base.specs.declared.cells.Elem.{Elem}
use Rattle.apl_base.specs.Array.{size_of, index_at}
use Rattle.apl_base.specs.Number.{IsCell}
use Rattle.array_store.specs.Stores.{StoreView}
use Rattle.array_store.specs.Counting.{ComputedJust}
use Rattle.drag_along.specs.declared.leaves.Leaf.{Leaf}
use Rattle.drag_along.specs.declared.nodes.Node.{Node}
use Rattle.drag_along.specs.Nodes.{leaf_shape, AllLeaves, functions_in, stored_in, pending_after}
use Rattle.drag_along.specs.Segments.{SegmentView}
use Rattle.drag_along.specs.Meaning.{value_at, values_at, fails_on, fails_at, IsItsArray}
use Rattle.drag_along.specs.Lawful.{IsLawfulLeaf}
use Rattle.scalar_table.specs.Columns.{element_in}
use Rattle.e_machine.specs.declared.columns.Columns.{Columns}
use Rattle.e_machine.specs.Columns.{pending_in, AreColumns}
use Rattle.e_machine.specs.Forced.{applications, fetches}

-- a lawful leaf that has so many places from a first one on
pub record IsReadable (store : StoreView) (first n : ℕ) (leaf : Leaf) : Type 0 where
  pub lawful : IsLawfulLeaf store leaf
  pub places : first + n ≤ size_of (leaf_shape leaf)

-- each leaf among the nodes has this index at a place of its row-major order
abbrev pub HaveIndex : ℕ → List ℕ → List Node → Type 0
HaveIndex place index nodes = AllLeaves (λ leaf. index ≡ index_at (leaf_shape leaf) place) nodes

-- values pending that are all defined, the newest first
abbrev pub defined : List Elem → List (Option Elem)
defined values = map (λ v. Some v) values

-- ---- one node

-- a node passes at an index, and leads from these values pending to those
pub record Goes (store : StoreView) (index : List ℕ) (node : Node) (old new : List Elem) : Type 0 where
  pub passes : fails_on node (defined old) ≡ false
  pub leaves : value_at store index node (defined old) ≡ defined new

-- a node passes at each place of a block, and leads from some columns to others
pub record Passes (store : StoreView) (first n : ℕ) (node : Node) (old new : Columns) : Type 0 where
  pub columns : AreColumns n new
  pub kinds : pending_after (node ∷ []) (length old.kinds) ≡ Some (length new.kinds)
  pub goes : (q : ℕ) → q < n → (index : List ℕ) → HaveIndex (first + q) index (node ∷ []) → Goes store index node (pending_in n old q) (pending_in n new q)

-- it fails at one of the places
pub record FailsAt (n : ℕ) (node : Node) (old : Columns) : Type 0 where
  pub place : ℕ
  pub within : place < n
  pub fails : IsTrue (fails_on node (defined (pending_in n old place)))

-- which of the two, by what is answered
abbrev pub IsStep : StoreView → ℕ → ℕ → Node → Columns → Columns → Bool → Type 0
IsStep store first n node old new true = Passes store first n node old new
IsStep store first n node old new false = FailsAt n node old

-- ---- the nodes over a block of places

-- no node fails, and they leave these columns
pub record HasValues (store : StoreView) (first n : ℕ) (nodes : List Node) (columns : Columns) : Type 0 where
  pub columns_are : AreColumns n columns
  pub kinds : pending_after nodes 0 ≡ Some (length columns.kinds)
  pub none : (q : ℕ) → q < n → (index : List ℕ) → HaveIndex (first + q) index nodes → (k : ℕ) → fails_at store index nodes k [] ≡ false
  pub leaves : (q : ℕ) → q < n → (index : List ℕ) → HaveIndex (first + q) index nodes → values_at store index nodes [] ≡ defined (pending_in n columns q)

-- node number k fails at one of the places, and none before it does at any
pub record FailsFirst (store : StoreView) (first n : ℕ) (nodes : List Node) (k : ℕ) : Type 0 where
  pub there : k < length nodes
  pub place : ℕ
  pub within : place < n
  pub fails : (index : List ℕ) → HaveIndex (first + place) index nodes → IsTrue (fails_at store index nodes k [])
  pub before : (q : ℕ) → q < n → (index : List ℕ) → HaveIndex (first + q) index nodes → (j : ℕ) → j < k → fails_at store index nodes j [] ≡ false

-- what a run over the nodes answers: no failure, all having their values, or the first node that fails
abbrev pub IsRun : StoreView → StoreView → ℕ → ℕ → List Node → Columns → Option ℕ → Type 0
IsRun old new first n nodes columns None = HasValues old first n nodes columns × ComputedJust old new (n * functions_in nodes) (n * stored_in nodes)
IsRun old new first n nodes columns (Some k) = FailsFirst old first n nodes k

-- ---- a segment over a block of places

-- whether node number j of a segment fails at a place of its row-major order, and the values pending after all nodes
abbrev pub fails_in : StoreView → SegmentView → ℕ → ℕ → Bool
fails_in store segment place j = fails_at store (index_at segment.shape place) segment.nodes j []

-- the values pending at a place after all nodes
abbrev pub values_in : StoreView → SegmentView → ℕ → List (Option Elem)
values_in store segment place = values_at store (index_at segment.shape place) segment.nodes []

-- the cells of n elements, from a first place on, were put behind the others, and each function was applied at each place
pub record GainsCells (old new : StoreView) (segment : SegmentView) (first n : ℕ) (before after : List ℤ) : Type 0 where
  pub column : List ℤ
  pub count : length column ≡ n
  pub gained : after ≡ before ++ column
  pub lawful : All (IsCell Num) column
  pub leaves : (q : ℕ) → q < n → values_in old segment (first + q) ≡ defined (element_in Num column q ∷ [])
  pub just : ComputedJust old new (n * functions_in segment.nodes) (n * stored_in segment.nodes)

-- none of the nodes before `limit` fails at any of n places, and where these are all nodes cells are gained
pub record PassesAll (old new : StoreView) (segment : SegmentView) (limit first n : ℕ) (before after : List ℤ) : Type 0 where
  pub none : (q : ℕ) → q < n → (j : ℕ) → j < limit → fails_in old segment (first + q) j ≡ false
  pub all : limit ≡ length segment.nodes → GainsCells old new segment first n before after

-- node number k is before `limit` and fails at one of n places, and none before it does at any
pub record FailsBefore (store : StoreView) (segment : SegmentView) (limit first n k : ℕ) : Type 0 where
  pub below : k < limit
  pub place : ℕ
  pub within : place < n
  pub fails : IsTrue (fails_in store segment (first + place) k)
  pub none : (q : ℕ) → q < n → (j : ℕ) → j < k → fails_in store segment (first + q) j ≡ false

-- what a visit of a block of places answers: none of the nodes before `limit` fails, or this is the least that does
abbrev pub IsVisit : StoreView → StoreView → SegmentView → ℕ → ℕ → ℕ → List ℤ → List ℤ → Option ℕ → Type 0
IsVisit old new segment limit first n before after None = PassesAll old new segment limit first n before after
IsVisit old new segment limit first n before after (Some k) = FailsBefore old segment limit first n k

-- ---- all places

-- these are the cells of the array that a segment means, and each of its functions was applied at each element
pub record HasElements (old new : StoreView) (segment : SegmentView) (cells : List ℤ) : Type 0 where
  pub array : IsItsArray old segment (record { kind = Num; shape = segment.shape; cells = cells })
  pub lawful : All (IsCell Num) cells
  pub just : ComputedJust old new (applications segment) (fetches segment)
