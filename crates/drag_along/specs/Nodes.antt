-- What is asked of leaves and of nodes in postfix order.
use Rattle.std.specs.Prelude.{ℕ, zero, suc, ◌+◌, List, [], ◌∷◌, Option, Some, None}
use Rattle.apl_base.specs.declared.cells.Kind.{Kind}
use Rattle.apl_base.specs.declared.cells.Kind.TheVariants.{Num}
use Rattle.apl_base.specs.declared.faults.Place.{Place}
use Rattle.array_desc.specs.Desc.{DescView}
use Rattle.array_store.specs.Follows.{one_of}
use Rattle.drag_along.specs.declared.leaves.Leaf.{Leaf}
use Rattle.drag_along.specs.declared.leaves.Leaf.TheVariants.{Stored, Gen}
use Rattle.drag_along.specs.declared.nodes.Node.{Node}
use Rattle.drag_along.specs.declared.nodes.Node.TheVariants.{Operand, One, Two}

-- ---- leaves

abbrev pub leaf_desc : Leaf → DescView
leaf_desc (Stored owner desc kind) = desc
leaf_desc (Gen desc kind) = desc

abbrev pub leaf_kind : Leaf → Kind
leaf_kind (Stored owner desc kind) = kind
leaf_kind (Gen desc kind) = kind

abbrev pub leaf_shape : Leaf → List ℕ
leaf_shape leaf = (leaf_desc leaf).shape

-- how many times a leaf names an owner: a stored leaf names its own once
abbrev pub named_by_leaf : Leaf → ℕ → ℕ
named_by_leaf (Stored owner desc kind) key = one_of owner key
named_by_leaf (Gen desc kind) key = 0

-- ---- nodes

-- each leaf among the nodes is of this kind
abbrev pub AllLeaves : (Leaf → Type 0) → List Node → Type 0
AllLeaves P [] = Unit {0}
AllLeaves P (Operand leaf ∷ nodes) = P leaf × AllLeaves P nodes
AllLeaves P (One f place ∷ nodes) = AllLeaves P nodes
AllLeaves P (Two f place ∷ nodes) = AllLeaves P nodes

-- how many leaves among the nodes name an owner
abbrev pub named_by_nodes : List Node → ℕ → ℕ
named_by_nodes [] key = 0
named_by_nodes (Operand leaf ∷ nodes) key = named_by_leaf leaf key + named_by_nodes nodes key
named_by_nodes (One f place ∷ nodes) key = named_by_nodes nodes key
named_by_nodes (Two f place ∷ nodes) key = named_by_nodes nodes key

-- how many nodes are functions
abbrev pub functions_in : List Node → ℕ
functions_in [] = 0
functions_in (Operand leaf ∷ nodes) = functions_in nodes
functions_in (One f place ∷ nodes) = suc (functions_in nodes)
functions_in (Two f place ∷ nodes) = suc (functions_in nodes)

abbrev pub stored_of_leaf : Leaf → ℕ
stored_of_leaf (Stored owner desc kind) = 1
stored_of_leaf (Gen desc kind) = 0

-- how many nodes are stored operands
abbrev pub stored_in : List Node → ℕ
stored_in [] = 0
stored_in (Operand leaf ∷ nodes) = stored_of_leaf leaf + stored_in nodes
stored_in (One f place ∷ nodes) = stored_in nodes
stored_in (Two f place ∷ nodes) = stored_in nodes

-- how many values are pending after the nodes, where n were pending before them; None where a function lacks
-- an operand
abbrev pub pending_after : List Node → ℕ → Option ℕ
pending_after [] n = Some n
pending_after (Operand leaf ∷ nodes) n = pending_after nodes (suc n)
pending_after (One f place ∷ nodes) zero = None
pending_after (One f place ∷ nodes) (suc n) = pending_after nodes (suc n)
pending_after (Two f place ∷ nodes) zero = None
pending_after (Two f place ∷ nodes) (suc zero) = None
pending_after (Two f place ∷ nodes) (suc (suc n)) = pending_after nodes (suc n)

-- the kind of what the nodes mean: that of the one leaf, and else, there being a function, number
abbrev pub kind_of_nodes : List Node → Kind
kind_of_nodes (Operand leaf ∷ []) = leaf_kind leaf
kind_of_nodes nodes = Num

-- where a function stands; an operand has no place
abbrev pub node_place : Node → Place
node_place (Operand leaf) = record { line = 0; column = 0 }
node_place (One f place) = place
node_place (Two f place) = place
