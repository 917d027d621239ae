-- A store as contracts see it: its owners by their keys, the cells that they hold together, the limit of
-- these, and three counts.
use Rattle.std.specs.Prelude.{◌≡◌, ◌≢◌, ℕ, ◌+◌, ◌-◌, ◌^◌, ◌<◌, ◌≤◌, min, ℤ, pos, List, [], length, All, Option, Some, None, unwrap_or, sum_by, slice_set, slice_index_or}
use Rattle.std.specs.Option.{option_map}
use Rattle.apl_base.specs.declared.cells.Kind.{Kind}
use Rattle.apl_base.specs.declared.cells.Kind.TheVariants.{Num}
use Rattle.apl_base.specs.declared.cells.Interval.{Interval}
use Rattle.apl_base.specs.declared.cells.Interval.TheVariants.{Empty}
use Rattle.apl_base.specs.Number.{IsCell}
use Rattle.array_store.specs.declared.ids.Counts.{Counts}
use Rattle.apl_base.specs.Interval.{InInterval, IsInterval, hull, exact_interval}

-- an owner: its cells, what they are, how many hold it, and an interval in which the cells lie
pub record OwnerView : Type 0 where
  pub cells : List ℤ
  pub kind : Kind
  pub holders : ℕ
  pub interval : Interval

-- the owners by their keys, the number of all their cells, the limit of that number, and what was counted
pub record StoreView : Type 0 where
  pub owners : List (Option OwnerView)
  pub live : ℕ
  pub limit : ℕ
  pub counts : Counts

-- ---- look-ups

-- the owner at a key, if there is one
abbrev pub owner_at : StoreView → ℕ → Option OwnerView
owner_at s key = slice_index_or s.owners key None

-- what a key without an owner reads as
abbrev pub no_owner : OwnerView
no_owner = record { cells = []; kind = Num; holders = 0; interval = Empty }

-- the owner at a key
abbrev pub owner_of : StoreView → ℕ → OwnerView
owner_of s key = unwrap_or (owner_at s key) no_owner

-- 0 where there is no such owner, so an owner is live exactly where it has a holder
abbrev pub holders_of : StoreView → ℕ → ℕ
holders_of s key = (owner_of s key).holders

-- its cells; none where there is no such owner
abbrev pub cells_of : StoreView → ℕ → List ℤ
cells_of s key = (owner_of s key).cells

-- what its cells are
abbrev pub kind_of : StoreView → ℕ → Kind
kind_of s key = (owner_of s key).kind

-- the interval that is kept for it
abbrev pub interval_of : StoreView → ℕ → Interval
interval_of s key = (owner_of s key).interval

-- its cell at a place
abbrev pub cell_of : StoreView → ℕ → ℕ → ℤ
cell_of s key place = slice_index_or (cells_of s key) place (pos 0)

-- what the leaves that name an owner mean by it: all but its holders
pub record OwnerData : Type 0 where
  pub cells : List ℤ
  pub kind : Kind
  pub interval : Interval

abbrev pub owner_data : OwnerView → OwnerData
owner_data o = record { cells = o.cells; kind = o.kind; interval = o.interval }

-- the data of the owner at a key, if there is one
abbrev pub data_at : StoreView → ℕ → Option OwnerData
data_at s key = option_map owner_data (owner_at s key)

-- ---- what is so of every store

-- each cell is lawful for the kind and lies in the interval, the interval is one of numbers, and somebody holds it
pub record IsOwner (o : OwnerView) : Type 0 where
  pub lawful : All (IsCell o.kind) o.cells
  pub within : All (InInterval o.interval) o.cells
  pub interval : IsInterval o.interval
  pub held : 0 < o.holders

-- how many cells a slot has
abbrev pub cells_in : Option OwnerView → ℕ
cells_in None = 0
cells_in (Some o) = length o.cells

-- each count is below 2^64
pub record AreCounts (c : Counts) : Type 0 where
  pub fetched : c.fetched < 2 ^ 64
  pub made : c.made < 2 ^ 64
  pub applied : c.applied < 2 ^ 64

-- each owner is lawful, the live cells are all their cells and at most the limit, and each count is below 2^64
pub record IsStore (s : StoreView) : Type 0 where
  pub owners : (key : ℕ) (o : OwnerView) → owner_at s key ≡ Some o → IsOwner o
  pub live : s.live ≡ sum_by cells_in s.owners
  pub bound : s.live ≤ s.limit
  pub counts : AreCounts s.counts

-- there is room for so many cells more
abbrev pub HasRoom : StoreView → ℕ → Type 0
HasRoom s asked = s.live + asked ≤ s.limit

-- ---- changes

-- a count that k is added to; it stops at its last value
abbrev pub counted : ℕ → ℕ → ℕ
counted n k = min (n + k) (2 ^ 64 - 1)

-- no owner, and nothing counted
abbrev pub empty_store : ℕ → StoreView
empty_store limit = record { owners = []; live = 0; limit = limit; counts = record { fetched = 0; made = 0; applied = 0 } }

-- this owner in the place of the one at the key
abbrev pub with_owner : StoreView → ℕ → OwnerView → StoreView
with_owner s key o = record s { owners = slice_set s.owners key (Some o) }

-- the owner at the key gone, with its cells
abbrev pub without_owner : StoreView → ℕ → StoreView
without_owner s key = record s { owners = slice_set s.owners key None; live = s.live - length (cells_of s key) }

-- the owner at the key with this many holders
abbrev pub with_holders : StoreView → ℕ → ℕ → StoreView
with_holders s key n = with_owner s key (record (owner_of s key) { holders = n })

-- one cell written: the kept interval becomes the hull of itself and the cell
abbrev pub with_cell : StoreView → ℕ → ℕ → ℤ → StoreView
with_cell s key place c = with_owner s key (record (owner_of s key) { cells = slice_set (cells_of s key) place c; interval = hull (interval_of s key) c })

-- one cell of an owner was written; its other cells, its kind and its holders stay, and so does all else
pub record WritesOnly (old new : StoreView) (key place : ℕ) (c : ℤ) : Type 0 where
  pub written : cell_of new key place ≡ c
  pub cells : (other : ℕ) → other ≢ place → cell_of new key other ≡ cell_of old key other
  pub count : length (cells_of new key) ≡ length (cells_of old key)
  pub kind : kind_of new key ≡ kind_of old key
  pub holders : (other : ℕ) → holders_of new other ≡ holders_of old other
  pub others : (other : ℕ) → other ≢ key → data_at new other ≡ data_at old other
  pub live : new.live ≡ old.live
  pub limit : new.limit ≡ old.limit
  pub counts : new.counts ≡ old.counts

-- an owner as it is made: one holder, and from the least to the greatest cell
abbrev pub new_owner : List ℤ → Kind → OwnerView
new_owner cells kind = record { cells = cells; kind = kind; holders = 1; interval = exact_interval cells }

-- a key that had no owner has this one, and nothing else changes but the cells held and made
pub record Makes (old new : StoreView) (key : ℕ) (o : OwnerView) : Type 0 where
  pub was_free : owner_at old key ≡ None
  pub made : owner_at new key ≡ Some o
  pub others : (other : ℕ) → other ≢ key → owner_at new other ≡ owner_at old other
  pub live : new.live ≡ old.live + length o.cells
  pub limit : new.limit ≡ old.limit
  pub counts : new.counts ≡ record old.counts { made = counted old.counts.made (length o.cells) }
