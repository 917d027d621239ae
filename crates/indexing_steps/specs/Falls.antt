-- Entries that are let go, and a newest entry that gives way.
use Rattle.std.specs.Prelude.{◌≡◌, ℕ, List, [], ◌∷◌, ◌++◌, length}
use Rattle.apl_base.specs.Array.{Array}
use Rattle.array_store.specs.Stores.{StoreView}
use Rattle.array_store.specs.Follows.{none}
use Rattle.drag_along.specs.declared.leaves.Leaf.{Leaf}
use Rattle.drag_along.specs.Nodes.{named_by_leaf}
use Rattle.drag_along.specs.Segments.{SegmentView}
use Rattle.drag_along.specs.Meaning.{Meaning, Means}
use Rattle.beating.specs.declared.selections.Selection.{Selection}
use Rattle.beating.specs.Selecting.{selected}
use Rattle.value_stack.specs.Stacks.{entries}
use Rattle.leaf_names.specs.Variables.{array_of}
use Rattle.pending_steps.specs.Steps.{Moves}

-- so many of the newest entries were let go, and the others mean what they meant
pub record Drops (old new : StoreView) (before after : List SegmentView) (count : ℕ) : Type 0 where
  pub gone : List Meaning
  pub number : length gone ≡ count
  pub means : entries old before ≡ entries new after ++ gone
  pub moves : Moves old new before after none none

-- so many entries below the newest were let go, and the others mean what they meant
pub record DropsBelow (old new : StoreView) (before after : List SegmentView) (count : ℕ) : Type 0 where
  pub older : List Meaning
  pub gone : List Meaning
  pub newest : Meaning
  pub number : length gone ≡ count
  pub was : entries old before ≡ (older ++ gone) ++ newest ∷ []
  pub is : entries new after ≡ older ++ newest ∷ []
  pub moves : Moves old new before after none none

-- the newest entry meant an array, and gave way to the selection of it
pub record SelectsNewest (store : StoreView) (before after : List SegmentView) (by : Selection) : Type 0 where
  pub older : List Meaning
  pub array : Array
  pub was : entries store before ≡ older ++ Means array ∷ []
  pub is : entries store after ≡ older ++ Means (selected by array) ∷ []
  pub moves : Moves store store before after none none

-- a leaf that was in hand is the newest entry, in the place of so many, which were let go
pub record PutsOver (old new : StoreView) (before after : List SegmentView) (leaf : Leaf) (count : ℕ) : Type 0 where
  pub older : List Meaning
  pub gone : List Meaning
  pub number : length gone ≡ count
  pub was : entries old before ≡ older ++ gone
  pub is : entries new after ≡ older ++ Means (array_of old leaf) ∷ []
  pub moves : Moves old new before after (named_by_leaf leaf) none
