-- What a machine stands for: the variables of evaluation, and the state of evaluation at which a statement begins.
use Rattle.std.specs.Prelude.{◌≡◌, ◌⊎◌, ◌+◌, ◌-◌, ◌^◌, ◌≤◌, pos, []}
use Rattle.apl_base.specs.Array.{Array}
use Rattle.array_store.specs.Follows.{LeafCounts, none}
use Rattle.apl_model.specs.Environment.{Environment}
use Rattle.apl_model.specs.Evaluation.{State}
use Rattle.leaf_names.specs.Variables.{variables_of}
use Rattle.alias_force.specs.Desk.{IsLawfulDesk}
use Rattle.machine_state.specs.declared.machines.Machine.{Machine}

-- the variables that the names stand for, with the origin in force
abbrev pub variables : Machine → Environment Array
variables m = variables_of m.store m.origin m.names

-- what the machine holds is lawful, with these leaves in hand beside; and the origin is one
pub record IsLawfulMachine (m : Machine) (hand : LeafCounts) : Type 0 where
  pub desk : IsLawfulDesk m.store m.names m.stack hand
  pub origin : (m.origin ≡ pos 0) ⊎ (m.origin ≡ pos 1)

-- between two statements outside definitions: nothing is pending, no call is, and the statements that have begun and may
-- still begin can be counted
pub record IsAtRest (m : Machine) : Type 0 where
  pub lawful : IsLawfulMachine m none
  pub stack : m.stack ≡ []
  pub frames : m.names.frames ≡ []
  pub turns : m.begun + m.turns_left ≤ 2 ^ 64 - 1

-- the state of evaluation at which a machine at rest stands, where what is printed and what ends is told from here on
abbrev pub beginning : Machine → State
beginning m = record { variables = variables m; printed = []; turns = m.turns_left; begun = m.begun; ended = [] }
