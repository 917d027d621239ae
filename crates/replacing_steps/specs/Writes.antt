-- Cells that are written in place.
use Rattle.std.specs.Prelude.{◌≡◌, ◌≢◌, ◌⊎◌, ◌==◌, ℕ, ◌+◌, ◌<◌, ◌≤◌, ℤ, pos, List, [], ◌∷◌, length, map, drop, slice_set, slice_index_or, unsigned_abs, Option, None, Some, if◌then◌else◌}
use Rattle.array_desc.specs.Desc.{DescView}
use Rattle.array_store.specs.Stores.{StoreView, holders_of, cells_of, kind_of, data_at}
use Rattle.apl_base.specs.declared.cells.Kind.TheVariants.{Num}
use Rattle.drag_along.specs.declared.leaves.Leaf.{Leaf}
use Rattle.drag_along.specs.declared.leaves.Leaf.TheVariants.{Stored}
use Rattle.made_picks.specs.declared.tracks.Track.{Track}
use Rattle.made_picks.specs.Picks.{picked, lengths_on, IsReached}
use Rattle.made_picks.specs.Tracks.{places_on, CanPick}
use Rattle.apl_base.specs.Array.{size_of}

-- ---- places that are written one after the other

-- cells after values were written to places, one after the other: the first place takes the value of this number, the next
-- one that of the next number
abbrev pub written : (ℕ → ℤ) → ℕ → List ℤ → List ℤ → List ℤ
written value q [] cells = cells
written value q (z ∷ zs) cells = written value (q + 1) zs (slice_set cells (unsigned_abs z) (value q))

-- the places of all combinations of tracks in row-major order, by a stride for each of them
abbrev pub places_by : List ℤ → List Track → ℤ → List ℤ
places_by strides tracks at = picked (λ z. z) (pos 0) strides (map places_on tracks) at

-- how many there are
abbrev pub places_in : List Track → ℕ
places_in tracks = size_of (lengths_on (map places_on tracks))

-- a track has a place for each of its numbers
abbrev pub NamesEach : Track → Type 0
NamesEach track = (j : ℕ) → j < length (places_on track) → (z : ℤ) × (slice_index_or (places_on track) j None ≡ Some z)

-- ---- values

-- the value of a number: a single one is that of all
abbrev pub value_by : List ℤ → ℕ → ℤ
value_by values q = slice_index_or values (if length values == 1 then 0 else q) (pos 0)

-- there is one for so many numbers from this one on
abbrev pub HasValues : List ℤ → ℕ → ℕ → Type 0
HasValues values first count = (length values ≡ 1) ⊎ (first + count ≤ length values)

-- ---- the store

-- a leaf that names an owner, of which nothing else is asked
abbrev pub owner_leaf : ℕ → Leaf
owner_leaf key = Stored key (record { base = pos 0; strides = []; shape = [] }) Num

-- a place of an owner is reached at each index of the axes of a descriptor from this one on
abbrev pub CanReach : StoreView → ℕ → DescView → ℕ → ℤ → Type 0
CanReach store key desc axis at = IsReached store (owner_leaf key) (drop axis desc.shape) (drop axis desc.strides) at

-- what a track names, with this stride behind this number, are places of an owner
abbrev pub IsRow : StoreView → ℕ → ℤ → ℤ → Track → Type 0
IsRow store key at stride track = CanPick store (owner_leaf key) at stride track

-- an owner has these cells now, as many as it had; its kind and its holders stay, and so do all other owners
pub record WritesCells (old new : StoreView) (key : ℕ) (cells : List ℤ) : Type 0 where
  pub written : cells_of new key ≡ cells
  pub count : length cells ≡ length (cells_of old key)
  pub kind : kind_of new key ≡ kind_of old key
  pub holders : (other : ℕ) → holders_of new other ≡ holders_of old other
  pub others : (other : ℕ) → other ≢ key → data_at new other ≡ data_at old other
  pub limit : new.limit ≡ old.limit
