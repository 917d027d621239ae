-- A name that is to be written in place.
use Rattle.std.specs.Prelude.{◌≡◌, ◌⊎◌, ℕ, ◌+◌, Bool, false, nat_lt, List, [], ◌∷◌, map, None, Some}
use Rattle.std.specs.List.{filter}
use Rattle.apl_base.specs.Array.{size_of}
use Rattle.array_store.specs.Stores.{StoreView, HasRoom, holders_of}
use Rattle.array_store.specs.Counting.{IsFull}
use Rattle.array_store.specs.declared.ids.BeginFault.{BeginFault}
use Rattle.array_store.specs.declared.ids.BeginFault.TheVariants as begin
use Rattle.drag_along.specs.declared.leaves.Leaf.{Leaf}
use Rattle.drag_along.specs.declared.leaves.Leaf.TheVariants.{Stored, Gen}
use Rattle.drag_along.specs.Nodes.{leaf_shape, leaf_kind}
use Rattle.drag_along.specs.Segments.{SegmentView, named_by}
use Rattle.drag_along.specs.Views.{IsWholeView, FillsShape}
use Rattle.value_stack.specs.Stacks.{named_on, Reads, IsLeastOrNone}
use Rattle.apl_model.specs.Environment.{Environment, look_up, set_name}
use Rattle.e_machine.specs.Refusals.{fault_of}
use Rattle.e_machine.specs.Forced.{elements_of}
use Rattle.alias_force.specs.Moving.{AreMoved, ComputesAll, OwnersCame, StopsAt, IsOwnOf}

-- the entries that read the owner of a leaf
abbrev pub reads : Leaf → SegmentView → Bool
reads (Stored owner desc kind) segment = nat_lt 0 (named_by segment owner)
reads (Gen desc kind) segment = false

-- the leaf reads all of an owner, which it and these entries alone hold
pub record HasAlone (store : StoreView) (stack : List SegmentView) (leaf : Leaf) (key : ℕ) : Type 0 where
  pub view : IsWholeView key (leaf_shape leaf) (leaf_kind leaf) leaf
  pub fills : FillsShape store key (leaf_shape leaf)
  pub alone : holders_of store key ≡ named_on stack key + 1

-- the name has all of an owner, which nothing else holds and no entry reads
pub record IsWritable (store : StoreView) (names : Environment Leaf) (stack : List SegmentView) (name : List ℕ) (key : ℕ) : Type 0 where
  pub leaf : Leaf
  pub bound : look_up names name ≡ Some leaf
  pub view : IsWholeView key (leaf_shape leaf) (leaf_kind leaf) leaf
  pub fills : FillsShape store key (leaf_shape leaf)
  pub alone : holders_of store key ≡ 1
  pub unread : IsLeastOrNone (Reads key) stack 0 None

-- the entries that read the owner of the leaf have owners of their own; all else is as it was but for these and their
-- cost, and where there is none nothing was done
pub record ClearsReaders (old new : StoreView) (before after : List SegmentView) (leaf : Leaf) : Type 0 where
  pub moved : AreMoved (reads leaf) new before after
  pub computes : ComputesAll old new (filter (reads leaf) before) 0
  pub came : OwnersCame old new (map elements_of (filter (reads leaf) before))
  pub idle : filter (reads leaf) before ≡ [] → new ≡ old

-- the name is bound to a copy of the leaf instead, in an owner of its own, and so many cells were copied
pub record CopiesName (old new : StoreView) (names after : Environment Leaf) (name : List ℕ) (leaf : Leaf) (key : ℕ) : Type 0 where
  pub copy : Leaf
  pub bound : after ≡ set_name names name copy
  pub view : IsWholeView key (leaf_shape leaf) (leaf_kind leaf) copy
  pub own : IsOwnOf new key (leaf_shape leaf)
  pub computes : ComputesAll old new [] (size_of (leaf_shape leaf))
  pub came : OwnersCame old new (size_of (leaf_shape leaf) ∷ [])

-- where the leaf has an owner that only it and the entries hold, the name keeps it
pub record KeepsLeaf (old new : StoreView) (names after : Environment Leaf) (before stack : List SegmentView) (leaf : Leaf) (key : ℕ) : Type 0 where
  pub has : HasAlone old before leaf key
  pub same : after ≡ names
  pub clears : ClearsReaders old new before stack leaf

-- else it gets a copy, after the entries that read the leaf's owner got theirs
pub record GetsCopy (old new : StoreView) (names after : Environment Leaf) (before stack : List SegmentView) (name : List ℕ) (leaf : Leaf) (key : ℕ) : Type 0 where
  pub lacks : (other : ℕ) → ¬ (HasAlone old before leaf other)
  pub between : StoreView
  pub clears : ClearsReaders old between before stack leaf
  pub copies : CopiesName between new names after name leaf key
  -- they still have them
  pub moved : AreMoved (reads leaf) new before stack

-- why it gets none: no room for its cells, with these numbers, or want of memory where they had room
abbrev pub IsNoCopy : StoreView → Leaf → BeginFault → Type 0
IsNoCopy store leaf (begin.WsFull live asked) = IsFull store store (size_of (leaf_shape leaf)) live asked
IsNoCopy store leaf begin.NoMemory = HasRoom store (size_of (leaf_shape leaf))

-- all entries that read the owner are moved, and the name needs a copy, which is refused
pub record StopsAtName (old new : StoreView) (before after : List SegmentView) (leaf : Leaf) (fault : BeginFault) : Type 0 where
  pub lacks : (other : ℕ) → ¬ (HasAlone old before leaf other)
  pub moved : AreMoved (reads leaf) new before after
  pub refused : IsNoCopy new leaf fault

-- why a name may not be written: an entry that reads its owner is refused one of its own, or the name is
abbrev pub IsNotWritable : StoreView → StoreView → List SegmentView → List SegmentView → Leaf → BeginFault → Type 0
IsNotWritable old new before after leaf fault = StopsAt (reads leaf) old new before after (fault_of fault) ⊎ StopsAtName old new before after leaf fault
