-- What the run of a script's items answers, and what it leaves in the machine and in the two sinks: that of immediate
-- evaluation.
use Rattle.std.specs.Prelude.{◌≡◌, ℕ, ◌+◌, ◌<◌, ◌≤◌, false, List, ◌∷◌, ◌++◌, length, Result, Ok, Err, IsTrue, []}
use Rattle.apl_outside.specs.Bytes.{Gains}
use Rattle.apl_outside.specs.Faults.{Rose}
use Rattle.apl_model.specs.declared.outlines.OutlineItem.{OutlineItem}
use Rattle.apl_model.specs.Evaluation.{State}
use Rattle.apl_model.specs.Immediate.{Ending, well, reported, out_of_turns, Run}
use Rattle.apl_model.specs.Items.{AreLawful}
use Rattle.apl_model.specs.Tree.{Item, Script, Statement, statement_item, command_item}
use Rattle.apl_model.specs.declared.scripts.Command.{Command}
use Rattle.apl_print.specs.Bytes.{GainsPrefix}
use Rattle.apl_print.specs.declared.faults.PrintFault.{PrintFault}
use Rattle.apl_print.specs.declared.faults.PrintFault.TheVariants as fault
use Rattle.apl_compile.specs.Laws.{statements_of}
use Rattle.apl_compile.specs.Program.{ProgramView, outline_item, program_of}
use Rattle.machine_state.specs.StandsFor.{beginning}
use Rattle.standing.specs.Statements.{IsStatementAt}
use Rattle.d_machine.specs.declared.answers.Stop.{Stop}
use Rattle.d_machine.specs.declared.answers.Stop.TheVariants as stop
use Rattle.d_machine.specs.Answers.{ComesTo, EndsAt, Scene, StopsBefore}
use Rattle.run_laws.specs.ItemRuns.{run_of}
use Rattle.script_run.specs.declared.ends.End.{End}
use Rattle.script_run.specs.declared.ends.End.TheVariants as end

-- the program is compiled from a script of the language
pub record IsCompiled (p : ProgramView) : Type 0 where
  pub script : Script
  pub lawful : AreLawful script.items
  pub compiled : p ≡ program_of script

-- ---- what a run comes to

-- no error was reported, or one was
abbrev pub ending_of : End → Ending
ending_of end.Done = well
ending_of end.Reported = reported

-- The answer is how the run ends. Both ends leave the machine at rest, and so does a spent budget, which ends all calls.
-- Want of room, of memory, and a fault of a sink stop the run; that memory is wanting has no stated cause.
abbrev pub Comes : Scene → Scene → Run State → Result End Stop → Type 0
Comes old new run (Ok end) = (run.ending ≡ ending_of end) × EndsAt old new run.state
Comes old new run (Err stop.Spent) = (run.ending ≡ out_of_turns) × ComesTo old new run.state
Comes old new run (Err (stop.WsFull live asked)) =
    (old.machine.store.limit < live + asked) × StopsBefore Gains old new run.state
Comes old new run (Err stop.NoMemory) = StopsBefore GainsPrefix old new run.state
Comes old new run (Err stop.OutFault) = Rose old.out_faults new.out_faults × StopsBefore GainsPrefix old new run.state
Comes old new run (Err stop.TraceFault) =
    IsTrue old.machine.traced × Rose old.trace_faults new.trace_faults × StopsBefore GainsPrefix old new run.state

-- what stays in every run, and that counts of faults never fall
pub record Keeps (old new : Scene) : Type 0 where
  pub limit : new.machine.store.limit ≡ old.machine.store.limit
  pub traced : new.machine.traced ≡ old.machine.traced
  -- without a trace nothing is entered or written for one
  pub untraced : old.machine.traced ≡ false → (new.machine.costs.items ≡ old.machine.costs.items) × (new.trace ≡ old.trace)
  pub out_faults : old.out_faults ≤ new.out_faults
  pub trace_faults : old.trace_faults ≤ new.trace_faults

-- ---- the whole, and an item

-- what the run of a program leaves, for every script from which it is compiled
pub record RunsProgram (p : ProgramView) (old new : Scene) (answer : Result End Stop) : Type 0 where
  pub comes : (script : Script) → p ≡ program_of script
      → Comes old new (run_of script script.items well (beginning old.machine)) answer
  pub keeps : Keeps old new

-- an item of a script, before whose codes so many others stand
pub record IsItemAt (script : Script) (code : ℕ) (outline : OutlineItem) (item : Item) : Type 0 where
  pub before : List Item
  pub after : List Item
  pub items : script.items ≡ before ++ item ∷ after
  pub outlined : outline ≡ outline_item item
  pub number : code ≡ length (statements_of before)

-- the program is compiled from a script of the language that has such an item
pub record HasItemAt (p : ProgramView) (code : ℕ) (outline : OutlineItem) : Type 0 where
  pub is_compiled : IsCompiled p
  pub item : Item
  pub there : IsItemAt is_compiled.script code outline item

-- what the run of a statement leaves, and its report, where so much was reported before
pub record RunsLine (p : ProgramView) (at : ℕ) (before : End) (old new : Scene) (answer : Result End Stop) : Type 0 where
  pub comes : (script : Script) (line : ℕ) (statement : Statement) → p ≡ program_of script → IsStatementAt script at line statement
      → Comes old new (run_of script (statement_item line statement ∷ []) (ending_of before) (beginning old.machine)) answer
  pub keeps : Keeps old new

-- what a command leaves
pub record RunsCommand (p : ProgramView) (command : Command) (before : End) (old new : Scene) (answer : Result End Stop) : Type 0 where
  pub comes : (script : Script) (line : ℕ) → p ≡ program_of script
      → Comes old new (run_of script (command_item line command ∷ []) (ending_of before) (beginning old.machine)) answer
  pub keeps : Keeps old new

-- the stop that a fault of what is printed is
abbrev pub stop_of : PrintFault → Stop
stop_of fault.OutFault = stop.OutFault
stop_of fault.NoMemory = stop.NoMemory

-- what the run of an item leaves, where so much was reported before
pub record RunsItem (p : ProgramView) (code : ℕ) (outline : OutlineItem) (before : End) (old new : Scene) (answer : Result End Stop) : Type 0 where
  pub comes : (script : Script) (item : Item) → p ≡ program_of script → IsItemAt script code outline item
      → Comes old new (run_of script (item ∷ []) (ending_of before) (beginning old.machine)) answer
  pub keeps : Keeps old new
