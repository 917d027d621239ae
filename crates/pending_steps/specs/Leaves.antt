-- Leaves in hand that come as entries, and entries that go into hand as leaves.
use Rattle.std.specs.Prelude.{◌≡◌, ℕ, ◌+◌, ◌<◌, List, [], ◌∷◌, ◌++◌}
use Rattle.apl_base.specs.Array.{Array}
use Rattle.array_store.specs.Stores.{StoreView}
use Rattle.array_store.specs.Follows.{Follows, none}
use Rattle.drag_along.specs.declared.leaves.Leaf.{Leaf}
use Rattle.drag_along.specs.Nodes.{named_by_leaf}
use Rattle.drag_along.specs.Segments.{SegmentView, named_by}
use Rattle.drag_along.specs.Meaning.{Means, entry}
use Rattle.drag_along.specs.Views.{StandsForArray}
use Rattle.value_stack.specs.Stacks.{entries}
use Rattle.leaf_names.specs.Variables.{array_of}
use Rattle.pending_steps.specs.declared.halts.Halt.{Halt}
use Rattle.pending_steps.specs.declared.halts.Halt.TheVariants as halt
use Rattle.pending_steps.specs.Steps.{Moves}

-- a leaf that was in hand is the newest entry, and the others are as they were
pub record PutsLeaf (store : StoreView) (before after : List SegmentView) (leaf : Leaf) : Type 0 where
  pub means : entries store after ≡ entries store before ++ Means (array_of store leaf) ∷ []
  pub moves : Moves store store before after (named_by_leaf leaf) none

-- a leaf is the newest entry and is held once more, and the others mean what they meant
pub record PutsHeld (old new : StoreView) (before after : List SegmentView) (leaf : Leaf) : Type 0 where
  pub means : entries new after ≡ entries old before ++ Means (array_of old leaf) ∷ []
  pub moves : Moves old new before after none none

-- the newest entry went, and a leaf is in hand that stands for the array that it meant; the others mean what they meant
pub record TakesLeaf (old new : StoreView) (before after : List SegmentView) (leaf : Leaf) : Type 0 where
  pub array : Array
  pub means : entries old before ≡ entries new after ++ Means array ∷ []
  pub stands : StandsForArray new leaf array
  pub moves : Moves old new before after none (named_by_leaf leaf)

-- an expression was computed and let go: the leaf stands for the array that it meant
pub record ComesAsLeaf (old new : StoreView) (s : SegmentView) (leaf : Leaf) : Type 0 where
  pub array : Array
  pub means : entry old s ≡ Means array
  pub stands : StandsForArray new leaf array
  pub follows : Follows old new (named_by s) (named_by_leaf leaf)

-- why an expression that can't fail is not computed: for want of room, as these numbers show, or of memory
abbrev pub IsStopped : ℕ → Halt → Type 0
IsStopped limit (halt.Error kind place) = ⊥
IsStopped limit (halt.WsFull live asked) = limit < live + asked
IsStopped limit halt.NoMemory = Unit {0}
