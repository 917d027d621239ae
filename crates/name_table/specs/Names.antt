-- What the calls on names leave, in the names and in the store.
use Rattle.std.specs.Prelude.{◌≡◌, ◌⊎◌, ℕ, ◌+◌, ◌<◌, List, [], ◌∷◌, Some}
use Rattle.apl_base.specs.Array.{size_of}
use Rattle.array_store.specs.Stores.{StoreView, HasRoom, owner_at, new_owner}
use Rattle.array_store.specs.Follows.{Follows}
use Rattle.array_store.specs.Came.{Renews}
use Rattle.array_store.specs.declared.ids.BeginFault.{BeginFault}
use Rattle.array_store.specs.declared.ids.BeginFault.TheVariants as begin
use Rattle.drag_along.specs.declared.leaves.Leaf.{Leaf}
use Rattle.drag_along.specs.Nodes.{leaf_shape}
use Rattle.drag_along.specs.Views.{StandsForArray}
use Rattle.e_machine.specs.Forced.{IsCopy}
use Rattle.apl_model.specs.Environment.{Environment, set_name}
use Rattle.leaf_names.specs.Variables.{named_by_names, array_of, AreLawfulNames, FillsOwner, FillOwners}

-- how many elements a leaf has
abbrev pub elements_of : Leaf → ℕ
elements_of leaf = size_of (leaf_shape leaf)

-- ---- setting a name

-- a leaf that fills its owner is put as it is: nothing is counted, and no owner comes
pub record IsPutItself (old new : StoreView) (leaf put : Leaf) : Type 0 where
  pub fills : FillsOwner old leaf
  pub same : put ≡ leaf
  pub counts : new.counts ≡ old.counts
  pub renews : Renews old new []

-- any other is put as its copy, a whole view of a new owner, which has just its elements and this one holder. What is
-- counted is what the copying counts, and no other owner comes
pub record IsPutAsCopy (old new : StoreView) (leaf put : Leaf) : Type 0 where
  pub partial : ¬ (FillsOwner old leaf)
  pub room : HasRoom old (elements_of leaf)
  pub copied : StoreView
  pub copy : IsCopy old copied leaf put
  pub counts : new.counts ≡ copied.counts
  pub owner : owner_at new copy.made.key ≡ Some (new_owner (array_of old leaf).cells (array_of old leaf).kind)
  pub renews : Renews old new (record { key = copy.made.key; cells = elements_of leaf } ∷ [])

abbrev pub IsPut : StoreView → StoreView → Leaf → Leaf → Type 0
IsPut old new leaf put = IsPutItself old new leaf put ⊎ IsPutAsCopy old new leaf put

-- a name is set: to which leaf, which stands for the array of the one that was given
pub record IsSet (old new : StoreView) (before after : Environment Leaf) (name : List ℕ) (leaf : Leaf) : Type 0 where
  pub put : Leaf
  pub names : after ≡ set_name before name put
  pub comes : IsPut old new leaf put
  pub stands : StandsForArray new put (array_of old leaf)

-- the leaf had to be copied and there is no room for its elements, as these two numbers say. Nothing was counted
pub record IsNotCopied (old new : StoreView) (leaf : Leaf) (held wanted : ℕ) : Type 0 where
  pub partial : ¬ (FillsOwner old leaf)
  pub live : held ≡ old.live
  pub asked : wanted ≡ elements_of leaf
  pub full : old.limit < old.live + elements_of leaf
  pub counts : new.counts ≡ old.counts

-- why a name is not set. That memory is wanting has no stated cause, but that what is copied has room
abbrev pub IsSetFault : StoreView → StoreView → Leaf → BeginFault → Type 0
IsSetFault old new leaf (begin.WsFull live asked) = IsNotCopied old new leaf live asked
IsSetFault old new leaf begin.NoMemory = ¬ (FillsOwner old leaf) → HasRoom old (elements_of leaf)

-- ---- letting go

-- holders follow the names, which let leaves go and take none: they are lawful as before, nothing is counted, and no
-- owner comes
pub record LetsGo (old new : StoreView) (before after : Environment Leaf) : Type 0 where
  pub follows : Follows old new (named_by_names before) (named_by_names after)
  pub lawful : AreLawfulNames new after
  pub fills : FillOwners old before → FillOwners new after
  pub counts : new.counts ≡ old.counts
  pub renews : Renews old new []
