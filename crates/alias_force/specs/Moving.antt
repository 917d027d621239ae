-- Entries that are forced or copied into owners of their own, while all others stay.
use Rattle.std.specs.Prelude.{◌≡◌, ℕ, ◌+◌, Bool, IsTrue, List, [], ◌∷◌, ◌++◌, map, sum_by}
use Rattle.std.specs.List.{AllZip, filter}
use Rattle.apl_base.specs.declared.faults.Place.{Place}
use Rattle.apl_base.specs.Array.{Array}
use Rattle.apl_base.specs.Interval.{exact_interval}
use Rattle.array_store.specs.Stores.{StoreView, HasRoom, holders_of, cells_of, interval_of, counted}
use Rattle.array_store.specs.Counting.{RoseBy, Costs, IsFull}
use Rattle.array_store.specs.Came.{Came, Renews}
use Rattle.drag_along.specs.declared.leaves.Leaf.{Leaf}
use Rattle.drag_along.specs.Segments.{SegmentView, leaf_segment}
use Rattle.drag_along.specs.Meaning.{Meaning, Means, Faults, entry}
use Rattle.drag_along.specs.Views.{IsWholeView, FillsShape}
use Rattle.e_machine.specs.declared.faults.ForceFault.{ForceFault}
use Rattle.e_machine.specs.declared.faults.ForceFault.TheVariants as force
use Rattle.e_machine.specs.Forced.{elements_of, applications, fetches}

-- an owner that is held once, which has just the elements of this shape, in their exact interval
pub record IsOwnOf (store : StoreView) (key : ℕ) (shape : List ℕ) : Type 0 where
  pub fills : FillsShape store key shape
  pub alone : holders_of store key ≡ 1
  pub exact : interval_of store key ≡ exact_interval (cells_of store key)

-- the entry is one leaf, which has an owner of its own, with the owner's interval as its range
pub record IsOwn (store : StoreView) (segment : SegmentView) : Type 0 where
  pub key : ℕ
  pub leaf : Leaf
  pub is : segment ≡ leaf_segment leaf (interval_of store key)
  pub view : IsWholeView key segment.shape segment.kind leaf
  pub own : IsOwnOf store key segment.shape

-- an entry at which the test is true has an owner of its own afterwards; any other is as it was
pub record IsMoved (test : SegmentView → Bool) (store : StoreView) (before after : SegmentView) : Type 0 where
  pub own : IsTrue (test before) → IsOwn store after
  pub same : ¬ (IsTrue (test before)) → after ≡ before

-- so is each entry
abbrev pub AreMoved : (SegmentView → Bool) → StoreView → List SegmentView → List SegmentView → Type 0
AreMoved test store before after = AllZip (IsMoved test store) before after

-- the entries that may fail
abbrev pub may_fail : SegmentView → Bool
may_fail segment = segment.may_fail

-- ---- what it costs

-- the elements of these were computed once each, and so many cells more were copied
pub record ComputesAll (old new : StoreView) (all : List SegmentView) (copied : ℕ) : Type 0 where
  pub applied : new.counts.applied ≡ counted old.counts.applied (sum_by applications all)
  pub made : new.counts.made ≡ counted old.counts.made (sum_by elements_of all + copied)
  pub fetched : RoseBy old.counts.fetched new.counts.fetched (sum_by fetches all + copied)

-- at most the elements of these were computed, once each
abbrev pub CostsAtMost : StoreView → StoreView → List SegmentView → Type 0
CostsAtMost old new all = Costs old new (sum_by fetches all) (sum_by elements_of all) (sum_by applications all)

-- owners of these sizes came, and no others
pub record OwnersCame (old new : StoreView) (sizes : List ℕ) : Type 0 where
  pub came : List Came
  pub renews : Renews old new came
  pub cells : map (λ c. c.cells) came ≡ sizes

-- ---- why it stops

-- why an entry gets no owner of its own, over the store as it is then: its first fault, where its elements have room;
-- no room for them, with these numbers; want of memory, where they have room
abbrev pub IsRefusedAt : StoreView → SegmentView → ForceFault → Type 0
IsRefusedAt store segment (force.Fault place) = (entry store segment ≡ Faults place) × HasRoom store (elements_of segment)
IsRefusedAt store segment (force.WsFull live asked) = IsFull store store (elements_of segment) live asked
IsRefusedAt store segment force.NoMemory = HasRoom store (elements_of segment)

-- older entries are moved; this one was to be, and was refused; it and the younger ones are as they were
pub record StopsAt (test : SegmentView → Bool) (old new : StoreView) (before after : List SegmentView) (fault : ForceFault) : Type 0 where
  pub older : List SegmentView
  pub moved : List SegmentView
  pub segment : SegmentView
  pub younger : List SegmentView
  pub before_is : before ≡ older ++ segment ∷ younger
  pub after_is : after ≡ moved ++ segment ∷ younger
  pub are_moved : AreMoved test new older moved
  pub tested : IsTrue (test segment)
  pub refused : IsRefusedAt new segment fault
  pub costs : CostsAtMost old new (filter test older ++ segment ∷ [])
  pub came : OwnersCame old new (map elements_of (filter test older))

-- the oldest entries mean arrays, and the next one faults at this place
pub record FaultsFirst (meanings : List Meaning) (place : Place) : Type 0 where
  pub arrays : List Array
  pub younger : List Meaning
  pub is : meanings ≡ map (λ a. Means a) arrays ++ Faults place ∷ younger

-- where a fault is answered, it is that of the oldest entry that faults
abbrev pub IsOldestFault : List Meaning → ForceFault → Type 0
IsOldestFault meanings (force.Fault place) = FaultsFirst meanings place
IsOldestFault meanings (force.WsFull live asked) = Unit {0}
IsOldestFault meanings force.NoMemory = Unit {0}
