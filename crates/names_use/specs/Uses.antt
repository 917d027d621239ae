-- Names that hold all that is held in a store.
use Rattle.std.specs.Prelude.{◌≡◌, ℕ}
use Rattle.array_store.specs.Stores.{StoreView, holders_of}
use Rattle.drag_along.specs.declared.leaves.Leaf.{Leaf}
use Rattle.apl_model.specs.Environment.{Environment}
use Rattle.leaf_names.specs.Variables.{named_by_names, AreLawfulNames, FillOwners}

-- names are lawful and fill their owners, and each owner has just as many holders as leaves of theirs name it
pub record IsSound (store : StoreView) (names : Environment Leaf) : Type 0 where
  pub lawful : AreLawfulNames store names
  pub fills : FillOwners store names
  pub held : (key : ℕ) → holders_of store key ≡ named_by_names names key
