-- What an indexed assignment leaves: the name is set to its array with the places replaced, the positions are gone, and
-- the value stays as the newest entry.
use Rattle.std.specs.Prelude.{◌≡◌, ◌≢◌, ◌⊎◌, ℕ, ℤ, Bool, true, false, List, [], ◌∷◌, ◌++◌, length, map, reverse, Option, Some, None, Ok, Err}
use Rattle.apl_base.specs.declared.faults.ErrorKind.{ErrorKind}
use Rattle.apl_base.specs.declared.faults.ErrorKind.TheVariants as error
use Rattle.apl_base.specs.declared.faults.Place.{Place}
use Rattle.apl_base.specs.Array.{Array}
use Rattle.array_store.specs.Follows.{LeafCounts}
use Rattle.drag_along.specs.Meaning.{Meaning, Means}
use Rattle.apl_model.specs.Environment.{look_up, set_name}
use Rattle.apl_model.specs.Evaluation.{replace_in}
use Rattle.pending_steps.specs.declared.halts.Halt.{Halt}
use Rattle.pending_steps.specs.declared.halts.Halt.TheVariants as halt
use Rattle.pending_steps.specs.Steps.{IsNotComputed}
use Rattle.indexing_steps.specs.Operands.{positions_in, spread}
use Rattle.machine_state.specs.declared.machines.Machine.{Machine}
use Rattle.machine_state.specs.StandsFor.{IsLawfulMachine, variables}
use Rattle.machine_state.specs.Steps.{pending}
use Rattle.replacing_steps.specs.Checks.{CanReplace}

-- all entries mean arrays: the newest the positions that the mask says are there, the first one the newest of all, and the
-- one below these the value
pub record AreReplacing (mask : List Bool) (pending : List Meaning) (value : Array) (ps : List (Option Array)) : Type 0 where
  pub there : List Array
  pub number : length there ≡ positions_in mask
  pub positions : ps ≡ spread mask there
  pub older : List Array
  pub are : pending ≡ (map (λ a. Means a) older ++ Means value ∷ []) ++ map (λ p. Means p) (reverse there)

-- the name was set to its array with the places replaced, and the positions are gone
pub record Replaces (old new : Machine) (name : List ℕ) (mask : List Bool) : Type 0 where
  pub value : Array
  pub ps : List (Option Array)
  pub operands : AreReplacing mask (pending old) value ps
  pub array : Array
  pub answer : replace_in (variables old).origin (look_up (variables old) name) ps value ≡ Ok array
  pub lawful : (hand : LeafCounts) → IsLawfulMachine old hand → IsLawfulMachine new hand
  pub variables_are : (hand : LeafCounts) → IsLawfulMachine old hand → variables new ≡ set_name (variables old) name array
  pub pending_is : pending new ≡ map (λ a. Means a) operands.older ++ Means value ∷ []
  pub limit : new.store.limit ≡ old.store.limit

-- the replacement is this error
pub record RefusesReplace (m : Machine) (name : List ℕ) (mask : List Bool) (kind : ErrorKind) : Type 0 where
  pub value : Array
  pub ps : List (Option Array)
  pub operands : AreReplacing mask (pending m) value ps
  pub answer : replace_in (variables m).origin (look_up (variables m) name) ps value ≡ Err kind

-- why there is no replacement: an entry is not computed, or none faults, and it is an error at its place; for want of room
-- or of memory
abbrev pub IsReplaceHalted : Machine → List ℕ → List Bool → Place → Halt → Type 0
IsReplaceHalted m name mask place (halt.Error kind at) =
    IsNotComputed m.store.limit (pending m) (halt.Error kind at) ⊎ ((at ≡ place) × RefusesReplace m name mask kind)
IsReplaceHalted m name mask place (halt.WsFull live asked) = IsNotComputed m.store.limit (pending m) (halt.WsFull live asked)
IsReplaceHalted m name mask place halt.NoMemory = Unit {0}

-- ---- between the checks and the write

-- every check is passed, and these are the lengths that are selected
pub record IsToWrite (m : Machine) (name : List ℕ) (mask : List Bool) (ns : List ℕ) : Type 0 where
  pub value : Array
  pub ps : List (Option Array)
  pub operands : AreReplacing mask (pending m) value ps
  pub array : Array
  pub bound : look_up (variables m) name ≡ Some array
  pub can : CanReplace (variables m).origin array ps value ns

-- the places are written, and all entries mean what they meant
pub record WritesPlaces (old new : Machine) (name : List ℕ) (mask : List Bool) : Type 0 where
  pub value : Array
  pub ps : List (Option Array)
  pub operands : AreReplacing mask (pending old) value ps
  pub array : Array
  pub answer : replace_in (variables old).origin (look_up (variables old) name) ps value ≡ Ok array
  pub lawful : (hand : LeafCounts) → IsLawfulMachine old hand → IsLawfulMachine new hand
  pub variables_are : (hand : LeafCounts) → IsLawfulMachine old hand → variables new ≡ set_name (variables old) name array
  pub pending_is : pending new ≡ pending old
  pub limit : new.store.limit ≡ old.store.limit
