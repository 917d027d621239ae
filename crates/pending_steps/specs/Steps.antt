-- What a step on the pending entries leaves: what its instruction does to evaluation, and that holders follow. And why
-- it halts.
use Rattle.std.specs.Prelude.{◌≡◌, ◌⊎◌, ℕ, ◌+◌, ◌<◌, List, ◌++◌, length, map, Result, Ok, Err}
use Rattle.apl_base.specs.declared.faults.ErrorKind.{ErrorKind}
use Rattle.apl_base.specs.declared.faults.ErrorKind.TheVariants as error
use Rattle.apl_base.specs.declared.faults.Place.{Place}
use Rattle.apl_base.specs.Array.{Array}
use Rattle.array_store.specs.Stores.{StoreView}
use Rattle.array_store.specs.Follows.{LeafCounts, Follows, both}
use Rattle.drag_along.specs.Segments.{SegmentView}
use Rattle.drag_along.specs.Meaning.{Meaning, Means}
use Rattle.value_stack.specs.Stacks.{named_on, IsLawfulStack}
use Rattle.apl_model.specs.Evaluation.{State, Calls}
use Rattle.apl_model.specs.Outcome.{fails, Flow}
use Rattle.apl_compile.specs.declared.codes.Instruction.{Instruction}
use Rattle.alias_force.specs.Moving.{FaultsFirst}
use Rattle.standing.specs.Stand.{Stand, going, stand_on}
use Rattle.standing.specs.Laws.{Takes, Ends}
use Rattle.pending_steps.specs.declared.halts.Halt.{Halt}
use Rattle.pending_steps.specs.declared.halts.Halt.TheVariants as halt

-- entries go and come, and leaves in hand; the entries are lawful, and holders follow
pub record Moves (old new : StoreView) (before after : List SegmentView) (gone came : LeafCounts) : Type 0 where
  pub lawful : IsLawfulStack new after
  pub follows : Follows old new (both (named_on before) gone) (both (named_on after) came)

-- so many of the newest entries gave way to so many others, as an instruction does it in evaluation, whatever stands
-- below them
pub record Steps (i : Instruction) (takes gives : ℕ) (before after : List Meaning) : Type 0 where
  pub older : List Meaning
  pub taken : List Meaning
  pub given : List Meaning
  pub was : before ≡ older ++ taken
  pub is : after ≡ older ++ given
  pub operands : length taken ≡ takes
  pub values : length given ≡ gives
  pub step : (calls : Calls) (z : Stand) → Takes calls i (stand_on z taken) (stand_on z given)

-- all entries mean arrays, and at the newest of them the instruction is this error
pub record Refuses (i : Instruction) (takes : ℕ) (pending : List Meaning) (kind : ErrorKind) (place : Place) : Type 0 where
  pub older : List Array
  pub operands : List Array
  pub are : pending ≡ map (λ a. Means a) older ++ map (λ a. Means a) operands
  pub number : length operands ≡ takes
  pub ends : (calls : Calls) (vs : List Array) (to : Flow) (s : State)
      → Ends calls i (stand_on (going vs to s) (map (λ a. Means a) operands)) (fails kind place s)

-- Why the entries are not computed: at the first fault of the oldest that has one, which is a DOMAIN ERROR; for want of
-- room, as these numbers show; for want of memory.
abbrev pub IsNotComputed : ℕ → List Meaning → Halt → Type 0
IsNotComputed limit pending (halt.Error kind place) = (kind ≡ error.Domain) × FaultsFirst pending place
IsNotComputed limit pending (halt.WsFull live asked) = limit < live + asked
IsNotComputed limit pending halt.NoMemory = Unit {0}

-- why a step halts: an entry is not computed, or no entry faults, and it is at the error of its own instruction
abbrev pub IsHalted : Instruction → ℕ → ℕ → List Meaning → Halt → Type 0
IsHalted i takes limit pending (halt.Error kind place) =
    IsNotComputed limit pending (halt.Error kind place) ⊎ Refuses i takes pending kind place
IsHalted i takes limit pending (halt.WsFull live asked) = IsNotComputed limit pending (halt.WsFull live asked)
IsHalted i takes limit pending halt.NoMemory = Unit {0}

-- it goes on, or is at an error of evaluation, and then this is so: what is pending can be let go
abbrev pub Reaches : Result (Unit {0}) Halt → Type 0 → Type 0
Reaches (Ok done) P = P
Reaches (Err (halt.Error kind place)) P = P
Reaches (Err (halt.WsFull live asked)) P = Unit {0}
Reaches (Err halt.NoMemory) P = Unit {0}

-- what is so where it is at an error
abbrev pub OnError : Result (Unit {0}) Halt → Type 0 → Type 0
OnError (Ok done) P = Unit {0}
OnError (Err (halt.Error kind place)) P = P
OnError (Err (halt.WsFull live asked)) P = Unit {0}
OnError (Err halt.NoMemory) P = Unit {0}
