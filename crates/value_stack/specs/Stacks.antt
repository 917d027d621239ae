-- A stack of pending expressions as a list, the oldest first.
use Rattle.std.specs.Prelude.{◌≡◌, ℕ, ◌+◌, ◌<◌, ◌≤◌, IsTrue, List, ◌++◌, map, Option, Some, None, slice_get, sum_by}
use Rattle.std.specs.List.{AllByRecursion}
use Rattle.array_store.specs.Stores.{StoreView, holders_of}
use Rattle.array_store.specs.Follows.{LeafCounts}
use Rattle.drag_along.specs.Segments.{SegmentView, named_by}
use Rattle.drag_along.specs.Meaning.{Meaning, entry}
use Rattle.drag_along.specs.Lawful.{IsLawful}

-- how many leaves on the stack name an owner
abbrev pub named_on : List SegmentView → LeafCounts
named_on stack key = sum_by (λ segment. named_by segment key) stack

-- the entry reads the owner
abbrev pub Reads : ℕ → SegmentView → Type 0
Reads key segment = 0 < named_by segment key

-- a function of the entry may fail
abbrev pub MayFail : SegmentView → Type 0
MayFail segment = IsTrue segment.may_fail

-- there is an entry at a position, and it is so
abbrev pub IsSoAt : (SegmentView → Type 0) → List SegmentView → ℕ → Type 0
IsSoAt P stack at = (segment : SegmentView) × (slice_get stack at ≡ Some segment) × P segment

-- no entry is so, from one position up to another
abbrev pub NoneBetween : (SegmentView → Type 0) → List SegmentView → ℕ → ℕ → Type 0
NoneBetween P stack from to = (k : ℕ) → from ≤ k → k < to → ¬ (IsSoAt P stack k)

-- the least position, from one on, whose entry is so
pub record IsLeast (P : SegmentView → Type 0) (stack : List SegmentView) (from at : ℕ) : Type 0 where
  pub low : from ≤ at
  pub there : IsSoAt P stack at
  pub before : NoneBetween P stack from at

-- the least such position, or none where there is none
abbrev pub IsLeastOrNone : (SegmentView → Type 0) → List SegmentView → ℕ → Option ℕ → Type 0
IsLeastOrNone P stack from None = (k : ℕ) → from ≤ k → ¬ (IsSoAt P stack k)
IsLeastOrNone P stack from (Some at) = IsLeast P stack from at

-- ---- over a store

-- what the entries mean, the oldest first
abbrev pub entries : StoreView → List SegmentView → List Meaning
entries store stack = map (entry store) stack

-- each entry is lawful
abbrev pub IsLawfulStack : StoreView → List SegmentView → Type 0
IsLawfulStack store stack = AllByRecursion (IsLawful store) stack

-- each owner has just as many holders as leaves on the stack, and those beside it, name it
abbrev pub IsHeldBy : StoreView → List SegmentView → LeafCounts → Type 0
IsHeldBy store stack beside = (key : ℕ) → holders_of store key ≡ named_on stack key + beside key

-- where older and younger entries stayed and others came between them: the stack is lawful, it is held with the
-- leaves beside it, and those that stayed mean what they meant
pub record IsReplaced (old new : StoreView) (older came younger : List SegmentView) (beside : LeafCounts) : Type 0 where
  pub lawful : IsLawfulStack new ((older ++ came) ++ younger)
  pub held : IsHeldBy new ((older ++ came) ++ younger) beside
  pub means : entries new ((older ++ came) ++ younger) ≡ (entries old older ++ entries new came) ++ entries old younger
