-- What the beginning and the end of a call leave of a machine, and why a call does not begin.
use Rattle.std.specs.Prelude.{◌≡◌, ◌⊎◌, ℕ, zero, suc, ◌≤◌, Bool, true, false, List, [], ◌++◌, map, length, Option}
use Rattle.std.specs.Option.{is_some, option_to_list}
use Rattle.apl_base.specs.declared.faults.ErrorKind.TheVariants as error
use Rattle.apl_base.specs.declared.faults.Place.{Place}
use Rattle.apl_base.specs.Array.{Array}
use Rattle.array_store.specs.Follows.{LeafCounts}
use Rattle.drag_along.specs.Meaning.{Means}
use Rattle.apl_model.specs.declared.outlines.OutlineBody.{OutlineBody}
use Rattle.apl_model.specs.declared.scripts.Header.{Header}
use Rattle.apl_model.specs.Environment.{without_frame, without_frames, with_frame}
use Rattle.apl_model.specs.Frames.{frame_of, line_number, result_in}
use Rattle.pending_steps.specs.declared.halts.Halt.{Halt}
use Rattle.pending_steps.specs.declared.halts.Halt.TheVariants as halt
use Rattle.pending_steps.specs.Steps.{IsNotComputed}
use Rattle.machine_state.specs.declared.machines.Machine.{Machine}
use Rattle.machine_state.specs.StandsFor.{IsLawfulMachine, variables}
use Rattle.machine_state.specs.Steps.{pending}

-- the labels of a body, line by line
abbrev pub labels_in : List OutlineBody → List (Option (List ℕ))
labels_in body = map (λ l. l.label) body

-- so many calls may be pending
abbrev pub most_calls : ℕ
most_calls = 256

-- ---- arguments

-- which arguments a call has that is told so many: none, the right one, both, or the left one alone
abbrev pub takes_left : ℕ → Bool
takes_left zero = false
takes_left (suc zero) = false
takes_left (suc (suc n)) = true

abbrev pub takes_right : ℕ → Bool
takes_right (suc zero) = true
takes_right (suc (suc zero)) = true
takes_right n = false

-- how many entries it takes
abbrev pub operands_of : ℕ → ℕ
operands_of zero = 0
operands_of (suc (suc zero)) = 2
operands_of n = 1

-- the arguments as they are pending, the left one the newest
abbrev pub arguments : Option Array → Option Array → List Array
arguments left right = option_to_list right ++ option_to_list left

-- ---- the beginning of a call

-- the arguments went, and the frame of the call came: the result and the locals unset, the arguments with their values,
-- each label with the number of its line
pub record Enters (old new : Machine) (header : Header) (labels : List (Option (List ℕ))) (number : ℕ) : Type 0 where
  pub older : List Array
  pub left : Option Array
  pub right : Option Array
  pub left_given : is_some left ≡ takes_left number
  pub right_given : is_some right ≡ takes_right number
  pub were : pending old ≡ map (λ a. Means a) (older ++ arguments left right)
  pub are : pending new ≡ map (λ a. Means a) older
  pub lawful : (hand : LeafCounts) → IsLawfulMachine old hand → IsLawfulMachine new hand
  pub variables : (hand : LeafCounts) → IsLawfulMachine old hand
      → variables new ≡ with_frame (frame_of line_number header labels left right) (variables old)
  pub depth : length new.names.frames ≡ suc (length old.names.frames)
  pub limit : new.store.limit ≡ old.store.limit

-- a call is one too many: that is a DEPTH ERROR at a place, where all entries mean arrays
pub record IsTooDeep (m : Machine) (place at : Place) : Type 0 where
  pub depth : most_calls ≤ length m.names.frames
  pub same : at ≡ place
  pub arrays : List Array
  pub are : pending m ≡ map (λ a. Means a) arrays

-- why a call does not begin: an entry is not computed, or it is one too many
abbrev pub IsNotEntered : Machine → Place → Halt → Type 0
IsNotEntered m place (halt.Error kind at) =
    IsNotComputed m.store.limit (pending m) (halt.Error kind at) ⊎ ((kind ≡ error.Depth) × IsTooDeep m place at)
IsNotEntered m place (halt.WsFull live asked) = IsNotComputed m.store.limit (pending m) (halt.WsFull live asked)
IsNotEntered m place halt.NoMemory = Unit {0}

-- ---- the end of a call

-- the innermost frame went, and the value that the result's name had came as the newest entry, where there was one
pub record Leaves (old new : Machine) (result : Option (List ℕ)) : Type 0 where
  pub lawful : (hand : LeafCounts) → IsLawfulMachine old hand → IsLawfulMachine new hand
  pub pending : (hand : LeafCounts) → IsLawfulMachine old hand
      → pending new ≡ pending old ++ map (λ a. Means a) (option_to_list (result_in (variables old) result))
  pub variables : (hand : LeafCounts) → IsLawfulMachine old hand → variables new ≡ without_frame (variables old)
  pub names : new.names ≡ without_frame old.names
  pub limit : new.store.limit ≡ old.store.limit

-- all frames and all entries went
pub record EndsAll (old new : Machine) : Type 0 where
  pub lawful : (hand : LeafCounts) → IsLawfulMachine old hand → IsLawfulMachine new hand
  pub variables : (hand : LeafCounts) → IsLawfulMachine old hand → variables new ≡ without_frames (variables old)
  pub stack : new.stack ≡ []
  pub names : new.names ≡ without_frames old.names
  pub counts : new.store.counts ≡ old.store.counts
  pub limit : new.store.limit ≡ old.store.limit
