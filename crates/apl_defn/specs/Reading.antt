-- What the reader is given, and what it answers.
use Rattle.std.specs.Prelude.{◌≡◌, ℕ, ◌≤◌, List, length, Result, Ok, Err}
use Rattle.std.specs.List.{IsAmong}
use Rattle.apl_base.specs.declared.faults.Refusal.{Refusal}
use Rattle.apl_model.specs.Lines.{lines_of}
use Rattle.apl_model.specs.Refusal.{IsLineRefusal}
use Rattle.apl_model.specs.Script.{IsScript}
use Rattle.apl_model.specs.Tokens.{IsRead}
use Rattle.apl_model.specs.Tree.{Script}
use Rattle.apl_model.specs.declared.tokens.Line.{Line}
use Rattle.apl_defn.specs.declared.line_faults.LineFault.{LineFault}
use Rattle.apl_defn.specs.declared.line_faults.LineFault.TheVariants as fault

-- a line that is read: not too long, and its tokens are those of its text
pub record IsReadLine (l : Line) : Type 0 where
  pub short : length l.text ≤ 1000
  pub tokens : IsRead l.text l.tokens

-- the lines of some script, all of which are read
pub record AreReadLines (ls : List Line) : Type 0 where
  pub bytes : List ℕ
  pub same : ls ≡ lines_of bytes
  pub each : (l : Line) → IsAmong ls l → IsReadLine l

-- the lines have this tree, and nothing refuses them
pub record AreAccepted (ls : List Line) (s : Script) : Type 0 where
  pub tree : IsScript ls s
  pub none : (r : Refusal) → ¬ (IsLineRefusal ls r)

-- a fact of the column where a line stops, where the answer is one
abbrev pub IfStopped : {A : Type 0} → Result A LineFault → (ℕ → Type 0) → Type 0
IfStopped (Ok a) P = Unit {0}
IfStopped (Err (fault.Stopped column)) P = P column
IfStopped (Err fault.NoMemory) P = Unit {0}
