-- What it is to hold a leaf once more.
use Rattle.std.specs.Prelude.{◌≡◌, ℕ, ◌+◌, ◌<◌}
use Rattle.array_store.specs.Stores.{StoreView, holders_of, with_holders}
use Rattle.drag_along.specs.declared.leaves.Leaf.{Leaf}
use Rattle.drag_along.specs.declared.leaves.Leaf.TheVariants.{Stored, Gen}
use Rattle.drag_along.specs.Nodes.{named_by_leaf}

-- the owner of the leaf, where it has one, may be held once more
abbrev pub MayBeHeld : StoreView → ℕ → Leaf → Type 0
MayBeHeld store most leaf = (key : ℕ) → 0 < named_by_leaf leaf key → holders_of store key < most

-- the owner of the leaf, where it has one, has a holder more, and nothing else changed
abbrev pub HeldOnceMore : StoreView → StoreView → Leaf → Type 0
HeldOnceMore old new (Stored owner desc kind) = new ≡ with_holders old owner (holders_of old owner + 1)
HeldOnceMore old new (Gen desc kind) = new ≡ old
