-- What a workspace stands for.
use Rattle.std.specs.Prelude.{◌≡◌, ◌⊎◌, [], pos}
use Rattle.apl_base.specs.Array.{Array}
use Rattle.array_store.specs.Follows.{none}
use Rattle.apl_model.specs.Environment.{Environment}
use Rattle.leaf_names.specs.Variables.{variables_of}
use Rattle.alias_force.specs.Desk.{IsLawfulDesk}
use Rattle.apl_run.specs.declared.statuses.Workspace.{Workspace}

-- the variables, with the origin in force
abbrev pub variables_in : Workspace → Environment Array
variables_in ws = variables_of ws.store ws.origin ws.names

-- nothing is pending and no call is, the names are lawful over the store, and they alone hold its owners
pub record IsLawfulWorkspace (ws : Workspace) : Type 0 where
  pub desk : IsLawfulDesk ws.store ws.names [] none
  pub frames : ws.names.frames ≡ []
  pub origin : (ws.origin ≡ pos 0) ⊎ (ws.origin ≡ pos 1)
