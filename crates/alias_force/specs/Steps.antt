-- One entry on its way to an owner of its own.
use Rattle.std.specs.Prelude.{◌≡◌, ℕ, ◌-◌, ◌<◌, Bool, nat_lt, List, [], ◌∷◌, length, Some, slice_get, slice_set}
use Rattle.apl_base.specs.declared.cells.Interval.{Interval}
use Rattle.apl_base.specs.Array.{Array, size_of}
use Rattle.array_desc.specs.Desc.{IsWhole}
use Rattle.array_store.specs.Stores.{StoreView, HasRoom, holders_of, cells_of}
use Rattle.array_store.specs.Counting.{OnlyComputed, IsFull}
use Rattle.array_store.specs.Follows.{Follows, none}
use Rattle.drag_along.specs.declared.leaves.Leaf.{Leaf}
use Rattle.drag_along.specs.declared.leaves.Leaf.TheVariants.{Stored, Gen}
use Rattle.drag_along.specs.Nodes.{named_by_leaf}
use Rattle.drag_along.specs.Segments.{SegmentView, named_by, leaf_segment}
use Rattle.drag_along.specs.Meaning.{Means, entry}
use Rattle.drag_along.specs.Lawful.{IsLawful, IsLeafInterval, LeafWithin}
use Rattle.drag_along.specs.Views.{StandsForArray}
use Rattle.e_machine.specs.declared.faults.ForceFault.{ForceFault}
use Rattle.e_machine.specs.declared.faults.ForceFault.TheVariants as force
use Rattle.e_machine.specs.Forced.{elements_of, applications, fetches, IsMade, IsFault}
use Rattle.alias_force.specs.declared.moving.Which.{Which}
use Rattle.alias_force.specs.declared.moving.Which.TheVariants.{Failing, Reading}
use Rattle.alias_force.specs.Moving.{IsOwn, ComputesAll, OwnersCame, IsRefusedAt, CostsAtMost}

-- the entries that get an owner of their own
abbrev pub moves : Which → SegmentView → Bool
moves Failing segment = segment.may_fail
moves (Reading owner) segment = nat_lt 0 (named_by segment owner)

-- the leaf reads a new owner, which was made of the elements of the segment
pub record IsComputed (old new : StoreView) (segment : SegmentView) (leaf : Leaf) : Type 0 where
  pub array : Array
  pub means : entry old segment ≡ Means array
  pub stands : StandsForArray new leaf array
  pub made : IsMade old new segment array leaf

-- why they are not computed
abbrev pub IsNotComputed : StoreView → StoreView → SegmentView → ForceFault → Type 0
IsNotComputed old new segment (force.Fault place) = IsFault old new segment place
IsNotComputed old new segment (force.WsFull live asked) = IsFull old new (elements_of segment) live asked
IsNotComputed old new segment force.NoMemory =
    HasRoom old (elements_of segment) × OnlyComputed old new (applications segment) (fetches segment)

-- the leaf alone holds the owner that it names
abbrev pub IsAlone : StoreView → Leaf → Type 0
IsAlone store leaf = (key : ℕ) → 0 < named_by_leaf leaf key → holders_of store key ≡ 1

-- an entry that means the same came in the place of one; it has an owner of its own, whose key nobody held
pub record MovesEntry (old new : StoreView) (before after : List SegmentView) (at : ℕ) : Type 0 where
  pub gone : SegmentView
  pub came : SegmentView
  pub there : slice_get before at ≡ Some gone
  pub put : after ≡ slice_set before at came
  pub own : IsOwn new came
  pub lawful : IsLawful new came
  pub means : entry new came ≡ entry old gone
  pub follows : Follows old new (named_by gone) (named_by came)
  pub free : (key : ℕ) → 0 < named_by came key → holders_of old key ≡ 0
  pub computes : ComputesAll old new (gone ∷ []) 0
  pub owners : OwnersCame old new (elements_of gone ∷ [])

-- the entry was refused an owner, and all is as it was but for what was counted
pub record RefusesEntry (old new : StoreView) (stack : List SegmentView) (at : ℕ) (fault : ForceFault) : Type 0 where
  pub segment : SegmentView
  pub there : slice_get stack at ≡ Some segment
  pub refused : IsRefusedAt new segment fault
  pub follows : Follows old new none none
  pub costs : CostsAtMost old new (segment ∷ [])

-- the leaf came in the place of an entry, whose leaves were let go
pub record PutsLeaf (old new : StoreView) (before after : List SegmentView) (at : ℕ) (leaf : Leaf) : Type 0 where
  pub gone : SegmentView
  pub range : Interval
  pub there : slice_get before at ≡ Some gone
  pub put : after ≡ slice_set before at (leaf_segment leaf range)
  pub known : IsLeafInterval old leaf range
  pub within : LeafWithin old leaf range
  pub follows : Follows old new (named_by gone) none

-- the leaf was let go, with the cells of the owner that it names
pub record LetsGo (old new : StoreView) (leaf : Leaf) : Type 0 where
  pub follows : Follows old new (named_by_leaf leaf) none
  pub live : (key : ℕ) → 0 < named_by_leaf leaf key → new.live ≡ old.live - length (cells_of old key)

-- a refusal that is no fault
abbrev pub IsNoFault : ForceFault → Type 0
IsNoFault (force.Fault place) = ⊥
IsNoFault (force.WsFull live asked) = Unit {0}
IsNoFault force.NoMemory = Unit {0}

-- the leaf reads the cells of its owner in their order, and all of them
abbrev pub ReadsAll : StoreView → Leaf → Type 0
ReadsAll store (Stored owner desc kind) = IsWhole desc.shape desc × (length (cells_of store owner) ≡ size_of desc.shape)
ReadsAll store (Gen desc kind) = ⊥
