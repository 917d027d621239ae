-- What a command leaves of a machine, and of the sink for what is printed.
use Rattle.std.specs.Prelude.{◌≡◌, ℕ, List, ◌++◌, encode_utf8_all}
use Rattle.std.specs.List.{join_by}
use Rattle.apl_model.specs.declared.scripts.Command.{Command}
use Rattle.apl_model.specs.Evaluation.{State}
use Rattle.apl_model.specs.Immediate.{obeyed}
use Rattle.apl_model.specs.Printed.{blank, newline}
use Rattle.machine_state.specs.declared.machines.Machine.{Machine}
use Rattle.machine_state.specs.StandsFor.{IsAtRest, beginning, variables}

-- names joined by one blank, as one line
abbrev pub line_of_names : List (List ℕ) → List ℕ
line_of_names names = join_by (λ n. n) blank names ++ newline

-- the state of evaluation after the command, where what is printed is told from here on; the functions are the names
-- that head a definition
abbrev pub state_after : List (List ℕ) → Command → Machine → State
state_after functions command m = obeyed functions command (beginning m)

-- the bytes that the command prints
abbrev pub bytes_of : List (List ℕ) → Command → Machine → List ℕ
bytes_of functions command m = encode_utf8_all (state_after functions command m).printed

-- the machine stands for the variables after the command, and is at rest; all else is as it was
pub record Obeys (functions : List (List ℕ)) (command : Command) (old new : Machine) : Type 0 where
  pub rest : IsAtRest new
  pub variables : variables new ≡ (state_after functions command old).variables
  pub turns : new.turns_left ≡ old.turns_left
  pub begun : new.begun ≡ old.begun
  pub traced : new.traced ≡ old.traced
  pub costs : new.costs ≡ old.costs
  pub counts : new.store.counts ≡ old.store.counts
  pub limit : new.store.limit ≡ old.store.limit
