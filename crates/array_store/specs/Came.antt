-- Which owners came between two states of a store, and what the live cells are charged to.
use Rattle.std.specs.Prelude.{◌≡◌, ◌⊎◌, ℕ, ◌<◌, ◌≤◌, List, length, Contains, slice_index_or}
use Rattle.array_store.specs.Stores.{StoreView, holders_of, cells_of, data_at}

-- an owner that came, and how many cells it has at most
pub record Came : Type 0 where
  pub key : ℕ
  pub cells : ℕ

-- the owner at the key is one of those that came, and has no more cells than is said there
abbrev pub IsAmong : StoreView → ℕ → List Came → Type 0
IsAmong s key came = (c : Came) × Contains came c × (c.key ≡ key) × (length (cells_of s key) ≤ c.cells)

-- each live owner was live before with the same cells, kind and interval, or came
pub record Renews (old new : StoreView) (came : List Came) : Type 0 where
  pub each : (key : ℕ) → 0 < holders_of new key → ((0 < holders_of old key) × (data_at new key ≡ data_at old key)) ⊎ IsAmong new key came

-- each owner is charged to a size that is as great as its cells are many, and owners with cells to sizes apart
pub record IsCharged (s : StoreView) (sizes : List ℕ) (charge : ℕ → ℕ) : Type 0 where
  pub room : (key : ℕ) → length (cells_of s key) ≤ slice_index_or sizes (charge key) 0
  pub apart : (key other : ℕ) → 0 < length (cells_of s key) → 0 < length (cells_of s other) → charge key ≡ charge other → key ≡ other
