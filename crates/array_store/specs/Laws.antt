-- The laws of this crate's definitions, each of which a public function's contract states.
use Rattle.std.specs.Prelude.{◌≡◌, ◌≢◌, ℕ, ◌+◌, ◌<◌, ◌≤◌, ℤ, pos, List, [], ◌∷◌, ◌++◌, All, Contains, length, sum, Some, None}
use Rattle.apl_base.specs.declared.cells.Interval.{Interval}
use Rattle.apl_base.specs.declared.cells.Interval.TheVariants.{Empty, Span}
use Rattle.apl_base.specs.Interval.{InInterval, exact_interval}
use Rattle.array_store.specs.Stores.{OwnerView, StoreView, IsStore, AreCounts, Makes, WritesOnly, owner_at, holders_of, cells_of, kind_of, interval_of, data_at, with_owner, with_holders, with_cell, without_owner}
use Rattle.array_store.specs.Places.{cells_along}
use Rattle.array_store.specs.Counting.{OnlyCounted, OnlyFetched, OnlyComputed, Costs}
use Rattle.array_store.specs.Came.{Came, Renews, IsCharged}
use Rattle.array_store.specs.Follows.{LeafCounts, Follows, Holds, both}

-- the interval goes from the least of the cells to the greatest: both ends are among them, and each lies between
abbrev pub IsLeastToGreatest : List ℤ → Interval → Type 0
IsLeastToGreatest cells Empty = cells ≡ []
IsLeastToGreatest cells (Span lo hi) = Contains cells lo × Contains cells hi × All (InInterval (Span lo hi)) cells

-- the exact interval of cells is the one from the least of them to the greatest
abbrev pub ExactIsLeastToGreatest : Type 0
ExactIsLeastToGreatest = (cells : List ℤ) → IsLeastToGreatest cells (exact_interval cells)

-- one change after another is one change
abbrev pub FollowsThen : Type 0
FollowsThen =
    (a b c : StoreView) (x y z : LeafCounts) → Follows a b x y → Follows b c y z → Follows a c x z

-- other leaves may stand beside the counted ones
abbrev pub FollowsBeside : Type 0
FollowsBeside =
    (a b : StoreView) (x y others : LeafCounts) → Follows a b x y
    → Follows a b (both x others) (both y others)

-- what holds the leaves before holds those after
abbrev pub HoldsThen : Type 0
HoldsThen =
    (a b : StoreView) (x y others : LeafCounts) → Follows a b x y → Holds a (both x others)
    → Holds b (both y others)

-- an owner that a leaf beside the counted ones names keeps its cells, kind and interval
abbrev pub LeafKept : Type 0
LeafKept =
    (a b : StoreView) (x y others : LeafCounts) (key : ℕ) → Follows a b x y → Holds a (both x others)
    → 0 < others key → data_at b key ≡ data_at a key

-- cells, kind and interval are what a look-up of the data says
abbrev pub DataSays : Type 0
DataSays =
    (a b : StoreView) (key : ℕ) → data_at b key ≡ data_at a key
    → (cells_of b key ≡ cells_of a key) × (kind_of b key ≡ kind_of a key) × (interval_of b key ≡ interval_of a key)

-- an owner that is put in the place of one is found there
abbrev pub PutIsFound : Type 0
PutIsFound =
    (s : StoreView) (key : ℕ) (o : OwnerView) → key < length s.owners
    → owner_at (with_owner s key o) key ≡ Some o

-- and every other key has what it had
abbrev pub PutLeavesOthers : Type 0
PutLeavesOthers =
    (s : StoreView) (key other : ℕ) (o : OwnerView) → other ≢ key
    → owner_at (with_owner s key o) other ≡ owner_at s other

-- a key without holders has no owner
abbrev pub NobodyHoldsNone : Type 0
NobodyHoldsNone = (s : StoreView) (key : ℕ) → IsStore s → holders_of s key ≡ 0 → owner_at s key ≡ None

-- what is as before after a cell was written
abbrev pub WrittenIsOnly : Type 0
WrittenIsOnly =
    (s : StoreView) (key place : ℕ) (c : ℤ) → 0 < holders_of s key → place < length (cells_of s key)
    → WritesOnly s (with_cell s key place c) key place c

-- ---- which owners came

-- where nothing was done, none
abbrev pub RenewsNothing : Type 0
RenewsNothing = (s : StoreView) → Renews s s []

-- of two changes, those of either
abbrev pub RenewsThen : Type 0
RenewsThen =
    (a b c : StoreView) (came more : List Came) → Renews a b came → Renews b c more
    → Renews a c (came ++ more)

-- of making, the owner that was made
abbrev pub RenewsMade : Type 0
RenewsMade =
    (a b : StoreView) (key : ℕ) (o : OwnerView) → Makes a b key o
    → Renews a b (record { key = key; cells = length o.cells } ∷ [])

-- where a holder comes or goes, none
abbrev pub RenewsHeld : Type 0
RenewsHeld =
    (s : StoreView) (key n : ℕ) → 0 < holders_of s key → Renews s (with_holders s key n) []

-- nor where an owner is freed
abbrev pub RenewsFreed : Type 0
RenewsFreed = (s : StoreView) (key : ℕ) → 0 < holders_of s key → Renews s (without_owner s key) []

-- nor where something is counted
abbrev pub RenewsCounted : Type 0
RenewsCounted = (a b : StoreView) → OnlyCounted a b → Renews a b []

-- an owner that is written counts as one that came, with as many cells
abbrev pub RenewsWritten : Type 0
RenewsWritten =
    (s : StoreView) (key place : ℕ) (c : ℤ) → 0 < holders_of s key
    → Renews s (with_cell s key place c) (record { key = key; cells = length (cells_of s key) } ∷ [])

-- the live cells are at most what they are charged to
abbrev pub LiveAtMost : Type 0
LiveAtMost =
    (s : StoreView) (sizes : List ℕ) (charge : ℕ → ℕ) → IsStore s → IsCharged s sizes charge
    → s.live ≤ sum sizes

-- ---- what it cost

-- where the counts are the same, nothing
abbrev pub CostsNothing : Type 0
CostsNothing = (a b : StoreView) → b.counts ≡ a.counts → Costs a b 0 0 0

-- one cost after another
abbrev pub CostsThen : Type 0
CostsThen =
    (a b c : StoreView) (f g m n p q : ℕ) → Costs a b f m p → Costs b c g n q
    → Costs a c (f + g) (m + n) (p + q)

-- or more
abbrev pub CostsMore : Type 0
CostsMore =
    (a b : StoreView) (f g m n p q : ℕ) → f ≤ g → m ≤ n → p ≤ q → Costs a b f m p → Costs a b g n q

-- fetching, computing and making
abbrev pub CostsFetched : Type 0
CostsFetched = (a b : StoreView) (cells : ℕ) → OnlyFetched a b cells → Costs a b cells 0 0

abbrev pub CostsComputed : Type 0
CostsComputed =
    (a b : StoreView) (functions cells : ℕ) → OnlyComputed a b functions cells
    → Costs a b cells 0 functions

abbrev pub CostsMade : Type 0
CostsMade =
    (a b : StoreView) (key : ℕ) (o : OwnerView) → AreCounts a.counts → Makes a b key o
    → Costs a b 0 (length o.cells) 0

-- ---- runs of cells

-- from the first place on, each place once, these are all the cells
abbrev pub WholeRun : Type 0
WholeRun = (cells : List ℤ) → cells_along cells (pos 0) (pos 1) (length cells) ≡ cells
