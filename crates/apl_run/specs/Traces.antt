-- What the trace gains, by the status.
use Rattle.std.specs.Prelude.{◌≡◌, ◌⊎◌, ℕ, Bool, true, false, List, [], ◌++◌, Option, Some, None, encode_utf8_all}
use Rattle.std.specs.List.{flat_map}
use Rattle.apl_outside.specs.Bytes.{Gains}
use Rattle.drag_along.specs.declared.leaves.Leaf.{Leaf}
use Rattle.apl_model.specs.Environment.{Bindings, bound_in, set_names}
use Rattle.apl_model.specs.Immediate.{in_byte_order}
use Rattle.apl_print.specs.declared.costs.Cost.{Cost}
use Rattle.apl_print.specs.Lines.{desc_line}
use Rattle.d_machine.specs.Answers.{lines_of}
use Rattle.apl_run.specs.declared.statuses.Ended.{Ended}
use Rattle.apl_run.specs.declared.statuses.Status.{Status}
use Rattle.apl_run.specs.declared.statuses.Status.TheVariants.{Done, Reported, Refused, Spent, WsFull, NoMemory, WriteFault, ReadFault, Words}
use Rattle.apl_run.specs.Statuses.{last_line}

-- one list is the front of another
pub record IsFront {A : Type 0} (front whole : List A) : Type 0 where
  pub rest : List A
  pub is : front ++ rest ≡ whole

-- ---- the lines of globals

-- the line of what a name is bound to
abbrev pub line_of_leaf : List ℕ → Option Leaf → List ℕ
line_of_leaf name None = []
line_of_leaf name (Some leaf) = desc_line name leaf

-- the bytes of the line of a global, where it is set
abbrev pub line_of_global : Bindings Leaf → List ℕ → List ℕ
line_of_global globals name = encode_utf8_all (line_of_leaf name (bound_in globals name))

-- the lines of the globals that are set, in the order of their bytes
abbrev pub lines_of_globals : Bindings Leaf → List ℕ
lines_of_globals globals = flat_map (line_of_global globals) (in_byte_order (set_names globals))

-- ---- the trace

-- the lines of the statements that ended, and of the globals
abbrev pub all_lines : List Cost → Bindings Leaf → List ℕ
all_lines costs globals = lines_of costs ++ lines_of_globals globals

-- Which of them are written where a trace is asked for. Where room is wanting those of the statements are, and where
-- memory is wanting or a sink fails a front of all; where nothing was run there are none.
abbrev pub AreWritten : Status → List Cost → Bindings Leaf → List ℕ → Type 0
AreWritten Done costs globals written = written ≡ all_lines costs globals
AreWritten Reported costs globals written = written ≡ all_lines costs globals
AreWritten Spent costs globals written = written ≡ all_lines costs globals
AreWritten (WsFull live asked) costs globals written = written ≡ lines_of costs
AreWritten NoMemory costs globals written = IsFront written (all_lines costs globals)
AreWritten (WriteFault which) costs globals written = IsFront written (all_lines costs globals)
AreWritten (Refused refusal) costs globals written = written ≡ []
AreWritten ReadFault costs globals written = written ≡ []
AreWritten Words costs globals written = written ≡ []

-- without a trace none is
abbrev pub AreWrittenIf : Bool → Status → List Cost → Bindings Leaf → List ℕ → Type 0
AreWrittenIf true status costs globals written = AreWritten status costs globals written
AreWrittenIf false status costs globals written = written ≡ []

-- the last line is written whole, or a front of it where its sink's count rose
abbrev pub IsLast : Type 0 → List ℕ → List ℕ → Type 0
IsLast rose line written = (written ≡ line) ⊎ (rose × IsFront written line)

-- the trace gains this line, or a front of it where its count rose
pub record GainsLast (line : List ℕ) (rose : Type 0) (old new : Option (List ℕ)) : Type 0 where
  pub last : List ℕ
  pub at_last : IsLast rose line last
  pub gained : Gains old new last

-- the trace gains these lines, by the status
pub record GainsLines (traced : Bool) (status : Status) (costs : List Cost) (globals : Bindings Leaf) (old new : Option (List ℕ)) : Type 0 where
  pub lines : List ℕ
  pub written : AreWrittenIf traced status costs globals lines
  pub gained : Gains old new lines

-- the trace gains lines, if it is asked for, and then the last line of the status
pub record Traces (traced : Bool) (ended : Ended) (old new : Option (List ℕ)) (rose : Type 0) : Type 0 where
  pub lines : List ℕ
  pub last : List ℕ
  pub written : AreWrittenIf traced ended.status ended.costs.items ended.ws.names.globals lines
  pub at_last : IsLast rose (last_line ended.status) last
  pub gained : Gains old new (lines ++ last)
