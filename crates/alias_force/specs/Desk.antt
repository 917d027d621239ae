-- What a machine holds: names and pending entries over a store, and leaves in hand between two calls.
use Rattle.std.specs.Prelude.{◌≡◌, ℕ, ◌+◌, List}
use Rattle.array_store.specs.Stores.{StoreView, holders_of}
use Rattle.array_store.specs.Follows.{LeafCounts}
use Rattle.drag_along.specs.declared.leaves.Leaf.{Leaf}
use Rattle.drag_along.specs.Segments.{SegmentView}
use Rattle.value_stack.specs.Stacks.{named_on, IsLawfulStack}
use Rattle.apl_model.specs.Environment.{Environment}
use Rattle.leaf_names.specs.Variables.{named_by_names, AreLawfulNames, FillOwners}

-- names and entries are lawful over the store, each leaf of a name has at least as many elements as its owner has
-- cells, and just the leaves of names and entries, and those in hand, hold the owners
pub record IsLawfulDesk (store : StoreView) (names : Environment Leaf) (stack : List SegmentView) (hand : LeafCounts) : Type 0 where
  pub lawful : AreLawfulNames store names
  pub filling : FillOwners store names
  pub entries : IsLawfulStack store stack
  pub held : (key : ℕ) → holders_of store key ≡ named_on stack key + named_by_names names key + hand key
