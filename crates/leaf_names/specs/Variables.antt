-- Variables that are bound to leaves: how often they name each owner, and what they mean over a store.
use Rattle.std.specs.Prelude.{◌+◌, ◌≤◌, ℤ, length, Option, Some, None, sum_by}
use Rattle.std.specs.List.{AllByRecursion}
use Rattle.std.specs.Option.{ForSome}
use Rattle.apl_base.specs.Array.{Array, size_of}
use Rattle.array_store.specs.Stores.{StoreView, cells_of}
use Rattle.array_store.specs.Follows.{LeafCounts, none}
use Rattle.drag_along.specs.declared.leaves.Leaf.{Leaf}
use Rattle.drag_along.specs.declared.leaves.Leaf.TheVariants.{Stored, Gen}
use Rattle.drag_along.specs.Nodes.{leaf_shape, named_by_leaf}
use Rattle.drag_along.specs.Meaning.{leaf_array}
use Rattle.drag_along.specs.Lawful.{IsLawfulLeaf}
use Rattle.apl_model.specs.Environment.{Bindings, Environment, mapped, with_origin}

-- ---- how often they name an owner

-- what a name is bound to, or nothing
abbrev pub named_by_option : Option Leaf → LeafCounts
named_by_option None = none
named_by_option (Some leaf) = named_by_leaf leaf

-- the leaves of bindings
abbrev pub named_by_bindings : Bindings Leaf → LeafCounts
named_by_bindings bindings key = sum_by (λ b. named_by_option b.1 key) bindings

-- the leaves of all variables
abbrev pub named_by_names : Environment Leaf → LeafCounts
named_by_names names key = named_by_bindings names.globals key + sum_by (λ f. named_by_bindings f key) names.frames

-- ---- what is so of each leaf

-- each leaf of bindings is so
abbrev pub AllBound : (Leaf → Type 0) → Bindings Leaf → Type 0
AllBound P bindings = AllByRecursion (λ b. ForSome b.1 P) bindings

-- each leaf of all variables is so
pub record EachLeaf (P : Leaf → Type 0) (names : Environment Leaf) : Type 0 where
  pub globals : AllBound P names.globals
  pub frames : AllByRecursion (AllBound P) names.frames

-- each is lawful over the store
abbrev pub AreLawfulNames : StoreView → Environment Leaf → Type 0
AreLawfulNames store names = EachLeaf (IsLawfulLeaf store) names

-- a stored leaf has at least as many elements as its owner has cells
abbrev pub FillsOwner : StoreView → Leaf → Type 0
FillsOwner store (Stored owner desc kind) = length (cells_of store owner) ≤ size_of desc.shape
FillsOwner store (Gen desc kind) = Unit {0}

-- so does each
abbrev pub FillOwners : StoreView → Environment Leaf → Type 0
FillOwners store names = EachLeaf (FillsOwner store) names

-- ---- what they mean

-- the array that a leaf stands for
abbrev pub array_of : StoreView → Leaf → Array
array_of store leaf = leaf_array store (leaf_shape leaf) leaf

-- the variables that names bound to leaves stand for, beside the origin
abbrev pub variables_of : StoreView → ℤ → Environment Leaf → Environment Array
variables_of store origin names = with_origin origin (mapped (array_of store) names)
