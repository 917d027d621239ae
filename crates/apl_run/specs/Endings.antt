-- How the run of a script ends and what it leaves, by its status.
use Rattle.std.specs.Prelude.{◌≡◌, ℕ, ◌+◌, ◌^◌, ◌<◌, ◌≤◌, ◌⊎◌, Bool, true, false, List, [], Option, IfSome}
use Rattle.apl_outside.specs.Bytes.{Gains}
use Rattle.apl_outside.specs.Faults.{Rose}
use Rattle.apl_model.specs.Environment.{Bindings, no_variables}
use Rattle.apl_model.specs.Immediate.{immediate}
use Rattle.apl_model.specs.Tree.{Script}
use Rattle.apl_print.specs.Bytes.{GainsPrefix}
use Rattle.machine_state.specs.declared.machines.Machine.{Machine}
use Rattle.machine_state.specs.StandsFor.{IsAtRest, variables}
use Rattle.d_machine.specs.Answers.{Scene, statements_in}
use Rattle.apl_run.specs.declared.statuses.Which.TheVariants.{Out, Trace}
use Rattle.apl_run.specs.declared.statuses.Status.{Status}
use Rattle.apl_run.specs.declared.statuses.Status.TheVariants.{Done, Reported, Refused, Spent, WsFull, NoMemory, WriteFault, ReadFault, Words}
use Rattle.drag_along.specs.declared.leaves.Leaf.{Leaf}
use Rattle.apl_words.specs.declared.options.Options.{Options}
use Rattle.apl_run.specs.Answers.{Answer, ran, ForAnswer, HasAnswer, IsAnswer, asks_trace, bytes_of, ended_of, script_bytes, status_of, variables_of}
use Rattle.apl_run.specs.Statuses.{IsEnd, IsLasting, IsNotRun, IsUnread}
use Rattle.apl_run.specs.Traces.{lines_of_globals, GainsLines, IsFront}

-- a machine as a script finds it: nothing is named, pending, begun or entered, and there is room for 2^24 cells
pub record IsFresh (m : Machine) : Type 0 where
  pub rest : IsAtRest m
  pub variables : variables m ≡ no_variables
  pub globals : m.names.globals ≡ []
  pub begun : m.begun ≡ 0
  pub costs : m.costs.items ≡ []
  pub limit : m.store.limit ≡ 2 ^ 24

-- the script came to its end, and this is its answer
pub record IsWhole (a : Answer) (old new : Scene) (status : Status) : Type 0 where
  pub is : status ≡ status_of a
  pub bytes : Gains old.out new.out (bytes_of a)
  pub variables : variables new.machine ≡ variables_of a
  pub ended : old.machine.traced ≡ true → statements_in new.machine.costs.items ≡ ended_of a

-- the run was cut short on the way to this answer
pub record IsCut (a : Answer) (old new : Scene) : Type 0 where
  pub bytes : GainsPrefix old.out new.out (bytes_of a)
  pub ended : old.machine.traced ≡ true → IsFront (statements_in new.machine.costs.items) (ended_of a)

-- what the run left, where this is the answer of its script
abbrev pub EndsSo : Answer → Scene → Scene → Status → Type 0
EndsSo a old new (WsFull live asked) = IsCut a old new
EndsSo a old new NoMemory = IsCut a old new
EndsSo a old new (WriteFault which) = IsCut a old new
EndsSo a old new ReadFault = Unit {0}
EndsSo a old new Words = Unit {0}
EndsSo a old new ended = IsWhole a old new ended

-- why the run was cut short; a script that was read is not told as unread
abbrev pub HasCause : Scene → Scene → Status → Type 0
HasCause old new (WsFull live asked) = 2 ^ 24 < live + asked
HasCause old new (WriteFault Out) = Rose old.out_faults new.out_faults
HasCause old new (WriteFault Trace) = (old.machine.traced ≡ true) × Rose old.trace_faults new.trace_faults
HasCause old new ReadFault = ⊥
HasCause old new Words = ⊥
HasCause old new ended = Unit {0}

-- what the run of a script leaves beside its answer
pub record Leaves (old new : Scene) (status : Status) : Type 0 where
  -- what it leaves may be asked for
  pub rest : IsLasting status → IsAtRest new.machine
  -- nothing of a refused or unread script was run
  pub not_run : IsNotRun status → new.machine ≡ old.machine
  pub untraced : old.machine.traced ≡ false → new.machine.costs.items ≡ []
  pub trace : GainsLines old.machine.traced status new.machine.costs.items new.machine.names.globals old.trace new.trace
  pub out_faults : old.out_faults ≤ new.out_faults
  pub trace_faults : old.trace_faults ≤ new.trace_faults

-- how the run of a script ended, where this is its answer
pub record Ends (a : Answer) (old new : Scene) (status : Status) : Type 0 where
  pub so : EndsSo a old new status
  pub cause : HasCause old new status
  pub leaves : Leaves old new status

-- ---- the run of a script

-- an accepted script, with the turns of the machine
abbrev pub RunsScript : Script → Scene → Scene → Status → Type 0
RunsScript script old new status = Ends (ran (immediate script old.machine.turns_left)) old new status

-- a script of these bytes
pub record RunsBytes (bytes : List ℕ) (old new : Scene) (status : Status) : Type 0 where
  pub answer : (a : Answer) → IsAnswer bytes old.machine.turns_left a → EndsSo a old new status
  pub answered : IsEnd status → (a : Answer) × IsAnswer bytes old.machine.turns_left a
  pub cause : HasCause old new status
  pub leaves : Leaves old new status

-- the script of the workload of this number, or else that of a source that had so much left
pub record RunsOptions (number : Option ℕ) (left : Option (List ℕ)) (old new : Scene) (status : Status) : Type 0 where
  pub answer : IfSome (script_bytes number left) (λ bytes.
      (a : Answer) → IsAnswer bytes old.machine.turns_left a → EndsSo a old new status)
  pub answered : IsEnd status → IfSome (script_bytes number left) (λ bytes.
      (a : Answer) × IsAnswer bytes old.machine.turns_left a)
  pub cause : (status ≡ ReadFault) ⊎ HasCause old new status
  pub leaves : Leaves old new status

-- what the words ask for
pub record RunsWords (asked : Option Options) (left : Option (List ℕ)) (old new : Scene) (status : Status) : Type 0 where
  pub fresh : IsFresh old.machine
  pub traced : old.machine.traced ≡ asks_trace asked
  pub answer : ForAnswer asked left (λ a. EndsSo a old new status)
  pub answered : IsEnd status → HasAnswer asked left
  pub cause : IsUnread status ⊎ HasCause old new status
  pub leaves : Leaves old new status

-- ---- the globals at the end

-- after the end of a script its globals were described: their lines went out whole, there is no trace, or a front of the
-- lines went out, for want of memory or since the sink failed
pub data Describes (ended : Status) (traced : Bool) (globals : Bindings Leaf) (old new : Option (List ℕ)) (faults later : ℕ) (result : Status) : Type 0 where
  whole : traced ≡ true → result ≡ ended → Gains old new (lines_of_globals globals)
      → Describes ended traced globals old new faults later result
  untraced : traced ≡ false → result ≡ ended → new ≡ old → Describes ended traced globals old new faults later result
  wanting : traced ≡ true → result ≡ NoMemory → GainsPrefix old new (lines_of_globals globals)
      → Describes ended traced globals old new faults later result
  failed : traced ≡ true → result ≡ WriteFault Trace → Rose faults later → GainsPrefix old new (lines_of_globals globals)
      → Describes ended traced globals old new faults later result
