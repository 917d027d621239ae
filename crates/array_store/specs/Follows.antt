-- Holders follow leaves: whoever keeps leaves that name owners counts them, for each key, and a call changes
-- the holders of each owner by what the call changes in that count.
use Rattle.std.specs.Prelude.{◌≡◌, ℕ, ◌+◌, ◌<◌, ◌≤◌, ◌==◌, if◌then◌else◌}
use Rattle.array_store.specs.Stores.{StoreView, holders_of, data_at}

-- how many leaves name each owner
abbrev pub LeafCounts : Type 0
LeafCounts = ℕ → ℕ

-- no leaf
abbrev pub none : LeafCounts
none key = 0

-- one leaf, which names this owner
abbrev pub one_of : ℕ → LeafCounts
one_of owner key = if key == owner then 1 else 0

-- two groups of leaves together
abbrev pub both : LeafCounts → LeafCounts → LeafCounts
both f g key = f key + g key

-- the holders change from the leaves counted before to those counted after; an owner that is held by more
-- than the leaves counted before keeps its cells, kind and interval; the limit stays
pub record Follows (old new : StoreView) (before after : LeafCounts) : Type 0 where
  pub holders : (key : ℕ) → holders_of new key + before key ≡ holders_of old key + after key
  pub kept : (key : ℕ) → before key < holders_of old key → data_at new key ≡ data_at old key
  pub limit : new.limit ≡ old.limit

-- each owner has a holder for each of these leaves at least
abbrev pub Holds : StoreView → LeafCounts → Type 0
Holds s leaves = (key : ℕ) → leaves key ≤ holders_of s key
