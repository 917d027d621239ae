-- What a step of the machine leaves: it goes on as an instruction does in evaluation, and everything else is as it was.
use Rattle.std.specs.Prelude.{◌≡◌, ◌⊎◌, ℕ, ◌^◌, ◌≤◌, List, [], ◌∷◌, ◌++◌, length, map}
use Rattle.apl_base.specs.declared.faults.ErrorKind.{ErrorKind}
use Rattle.apl_base.specs.declared.faults.ErrorKind.TheVariants as error
use Rattle.apl_base.specs.declared.faults.Place.{Place}
use Rattle.apl_base.specs.Array.{Array}
use Rattle.array_store.specs.Follows.{LeafCounts, both}
use Rattle.apl_compile.specs.declared.codes.Instruction.{Instruction}
use Rattle.apl_model.specs.Evaluation.{State, Calls}
use Rattle.apl_model.specs.Outcome.{fails, Flow}
use Rattle.drag_along.specs.declared.leaves.Leaf.{Leaf}
use Rattle.drag_along.specs.Nodes.{named_by_leaf}
use Rattle.drag_along.specs.Meaning.{Meaning, Means}
use Rattle.apl_model.specs.Environment.{set_name}
use Rattle.leaf_names.specs.Variables.{array_of}
use Rattle.value_stack.specs.Stacks.{entries}
use Rattle.standing.specs.Stand.{Stand, going, ended, stand_on}
use Rattle.standing.specs.Laws.{Takes, Ends}
use Rattle.pending_steps.specs.declared.halts.Halt.{Halt}
use Rattle.pending_steps.specs.declared.halts.Halt.TheVariants as halt
use Rattle.pending_steps.specs.Steps.{IsNotComputed}
use Rattle.machine_state.specs.declared.machines.Machine.{Machine}
use Rattle.machine_state.specs.StandsFor.{IsLawfulMachine, variables}

-- what the pending entries mean, the oldest first
abbrev pub pending : Machine → List Meaning
pending m = entries m.store m.stack

-- the machine is lawful with some leaves in hand
abbrev pub IsLawfulBeside : Machine → Type 0
IsLawfulBeside m = (hand : LeafCounts) × IsLawfulMachine m hand

-- what no step on entries changes: the names, the turns, what was begun and entered, whether there is a trace, the origin
-- and the limit
pub record IsSameRun (old new : Machine) : Type 0 where
  pub names : new.names ≡ old.names
  pub turns : new.turns_left ≡ old.turns_left
  pub begun : new.begun ≡ old.begun
  pub traced : new.traced ≡ old.traced
  pub costs : new.costs ≡ old.costs
  pub origin : new.origin ≡ old.origin
  pub limit : new.store.limit ≡ old.store.limit

-- whatever leaves are in hand, the machine is lawful with them as it was, and stands for the same variables
pub record Keeps (old new : Machine) : Type 0 where
  pub lawful : (hand : LeafCounts) → IsLawfulMachine old hand → IsLawfulMachine new hand
  pub variables : (hand : LeafCounts) → IsLawfulMachine old hand → variables new ≡ variables old
  pub limit : new.store.limit ≡ old.store.limit

-- ---- instructions that look at the variables

-- where evaluation goes on, its variables are those that the machine stands for
abbrev pub StandsAt : Machine → Stand → Type 0
StandsAt m (going vs to s) = s.variables ≡ variables m
StandsAt m (ended o) = Unit {0}

-- so many of the newest entries gave way to so many others, as the instruction does it where evaluation has the variables
-- of the machine
pub record StepsAt (m : Machine) (i : Instruction) (takes gives : ℕ) (before after : List Meaning) : Type 0 where
  pub older : List Meaning
  pub taken : List Meaning
  pub given : List Meaning
  pub was : before ≡ older ++ taken
  pub is : after ≡ older ++ given
  pub operands : length taken ≡ takes
  pub values : length given ≡ gives
  pub step : (calls : Calls) (z : Stand) → StandsAt m z → Takes calls i (stand_on z taken) (stand_on z given)

-- all entries mean arrays, and there the instruction is this error
pub record RefusesAt (m : Machine) (i : Instruction) (pending_there : List Meaning) (kind : ErrorKind) (place : Place) : Type 0 where
  pub arrays : List Array
  pub are : pending_there ≡ map (λ a. Means a) arrays
  pub ends : (calls : Calls) (vs : List Array) (to : Flow) (s : State) → s.variables ≡ variables m → Ends calls i (going vs to s) (fails kind place s)

-- why an instruction without operands halts: an entry is not computed, or no entry faults, and it is at its own error
abbrev pub IsHaltedAt : Machine → Instruction → List Meaning → Halt → Type 0
IsHaltedAt m i there (halt.Error kind place) =
    IsNotComputed m.store.limit there (halt.Error kind place) ⊎ RefusesAt m i there kind place
IsHaltedAt m i there (halt.WsFull live asked) = IsNotComputed m.store.limit there (halt.WsFull live asked)
IsHaltedAt m i there halt.NoMemory = Unit {0}

-- few leaves are in hand
abbrev pub HasFewInHand : Machine → Type 0
HasFewInHand m = (hand : LeafCounts) × ((key : ℕ) → hand key ≤ 2 ^ 64) × IsLawfulMachine m hand

-- a name is unset: at a place, where no entry faults, that is a VALUE ERROR
abbrev pub IsUnset : Machine → Place → Halt → Type 0
IsUnset m place (halt.Error kind at) =
    IsNotComputed m.store.limit (pending m) (halt.Error kind at)
    ⊎ ((kind ≡ error.Value) × (at ≡ place) × ((arrays : List Array) × (pending m ≡ map (λ a. Means a) arrays)))
IsUnset m place (halt.WsFull live asked) = IsNotComputed m.store.limit (pending m) (halt.WsFull live asked)
IsUnset m place halt.NoMemory = Unit {0}

-- ---- assignments

-- a leaf that was in hand was given to the name: the entries mean what they meant
pub record GivesLeaf (old new : Machine) (name : List ℕ) (leaf : Leaf) : Type 0 where
  pub lawful : (hand : LeafCounts) → IsLawfulMachine old (both (named_by_leaf leaf) hand) → IsLawfulMachine new hand
  pub variables : (hand : LeafCounts) → IsLawfulMachine old (both (named_by_leaf leaf) hand)
      → variables new ≡ set_name (variables old) name (array_of old.store leaf)
  pub pending : (hand : LeafCounts) → IsLawfulMachine old (both (named_by_leaf leaf) hand) → pending new ≡ pending old
  pub limit : new.store.limit ≡ old.store.limit

-- the array of the newest entry was given to the name, where all entries mean arrays; they mean what they meant
pub record Assigns (old new : Machine) (name : List ℕ) : Type 0 where
  pub arrays : List Array
  pub are : pending old ≡ map (λ a. Means a) arrays
  pub older : List Meaning
  pub array : Array
  pub newest : pending old ≡ older ++ Means array ∷ []
  pub lawful : (hand : LeafCounts) → IsLawfulMachine old hand → IsLawfulMachine new hand
  pub variables : (hand : LeafCounts) → IsLawfulMachine old hand → variables new ≡ set_name (variables old) name array
  pub pending : (hand : LeafCounts) → IsLawfulMachine old hand → pending new ≡ pending old
  pub limit : new.store.limit ≡ old.store.limit

-- what an assignment never changes
pub record IsSameCount (old new : Machine) : Type 0 where
  pub turns : new.turns_left ≡ old.turns_left
  pub begun : new.begun ≡ old.begun
  pub traced : new.traced ≡ old.traced
  pub costs : new.costs ≡ old.costs
  pub origin : new.origin ≡ old.origin
  pub limit : new.store.limit ≡ old.store.limit

-- a leaf is in hand, few others are, and the machine is lawful with them
abbrev pub HasLeafInHand : Machine → Leaf → Type 0
HasLeafInHand m leaf = (hand : LeafCounts) × ((key : ℕ) → hand key ≤ 2 ^ 64) × IsLawfulMachine m (both (named_by_leaf leaf) hand)
