-- Operands that go into hand as leaves, once no entry may fail.
use Rattle.std.specs.Prelude.{◌≡◌, List, [], ◌∷◌, ◌++◌, map}
use Rattle.apl_base.specs.Array.{Array}
use Rattle.array_store.specs.Stores.{StoreView}
use Rattle.array_store.specs.Follows.{LeafCounts, both, none}
use Rattle.drag_along.specs.declared.leaves.Leaf.{Leaf}
use Rattle.drag_along.specs.Nodes.{named_by_leaf}
use Rattle.drag_along.specs.Segments.{SegmentView}
use Rattle.drag_along.specs.Meaning.{Means}
use Rattle.drag_along.specs.Lawful.{IsLawfulLeaf}
use Rattle.value_stack.specs.Stacks.{entries}
use Rattle.leaf_names.specs.Variables.{array_of}
use Rattle.pending_steps.specs.declared.halts.Halt.{Halt}
use Rattle.pending_steps.specs.declared.halts.Halt.TheVariants as halt
use Rattle.pending_steps.specs.Steps.{Moves}
use Rattle.leaf_steps.specs.declared.takes.Arguments.{Arguments}

-- all entries mean arrays; the newest of them went, and leaves of these counts are in hand
pub record Taken (old new : StoreView) (before after : List SegmentView) (operands : List Array) (hand : LeafCounts) : Type 0 where
  pub older : List Array
  pub was : entries old before ≡ map (λ a. Means a) older ++ map (λ a. Means a) operands
  pub is : entries new after ≡ map (λ a. Means a) older
  pub moves : Moves old new before after none hand

-- the newest is in hand
pub record TakesOne (old new : StoreView) (before after : List SegmentView) (leaf : Leaf) : Type 0 where
  pub lawful : IsLawfulLeaf new leaf
  pub taken : Taken old new before after (array_of new leaf ∷ []) (named_by_leaf leaf)

-- two arguments, as leaves are counted
abbrev pub named_by_arguments : Arguments → LeafCounts
named_by_arguments both_of = both (named_by_leaf both_of.left) (named_by_leaf both_of.right)

-- the two newest are in hand, of which the left argument was the newest
pub record TakesTwo (old new : StoreView) (before after : List SegmentView) (arguments : Arguments) : Type 0 where
  pub left : IsLawfulLeaf new arguments.left
  pub right : IsLawfulLeaf new arguments.right
  pub taken : Taken old new before after (array_of new arguments.right ∷ array_of new arguments.left ∷ []) (named_by_arguments arguments)

-- what is so where a step halts at an error
abbrev pub AtError : Halt → Type 0 → Type 0
AtError (halt.Error kind place) P = P
AtError (halt.WsFull live asked) P = Unit {0}
AtError halt.NoMemory P = Unit {0}
