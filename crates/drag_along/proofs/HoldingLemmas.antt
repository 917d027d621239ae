-- Leaves that are let go one after the other.
use Rattle.std.proofs.Common.{◌≡◌, ℕ, ◌≤◌}
use Rattle.array_store.specs.Stores.{StoreView, IsStore}
use Rattle.array_store.specs.Follows.{Follows, Holds}

-- some of the leaves were let go, those that are left are held, and nothing else was done
pub record LetGo (old new : StoreView) (all left : ℕ → ℕ) : Type 0 where
  pub follows : Follows old new all left
  pub held : Holds new left
  pub counts : new.counts ≡ old.counts
  pub live : new.live ≤ old.live
  pub store : IsStore new
