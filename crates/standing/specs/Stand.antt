-- Where evaluation stands while expressions are pending: it has a value for each of them, or it ended at the first
-- fault of the oldest that has one. A machine finds such an end only when it computes the expression.
use Rattle.std.specs.Prelude.{List, [], ◌∷◌}
use Rattle.apl_base.specs.declared.faults.ErrorKind.TheVariants as error
use Rattle.apl_base.specs.Array.{Array}
use Rattle.apl_model.specs.Evaluation.{State}
use Rattle.apl_model.specs.Order.{Values}
use Rattle.apl_model.specs.Outcome.{Outcome, fails, Flow}
use Rattle.drag_along.specs.Meaning.{Meaning, Means, Faults}
use Rattle.apl_compile.specs.declared.codes.Instruction.{Instruction}
use Rattle.apl_compile.specs.Execution.{Doing, comes, exec}

-- the values pending, the newest first, where the statement goes to as far as it is known, and the state; or the
-- statement ended
pub data Stand : Type 0 where
  going : List Array → Flow → State → Stand
  ended : Outcome State Flow → Stand

-- a younger expression: one value more, or the end as a DOMAIN ERROR at its first fault
abbrev pub push_on : Meaning → Stand → Stand
push_on (Means a) (going vs to s) = going (a ∷ vs) to s
push_on (Faults place) (going vs to s) = ended (fails error.Domain place s)
push_on m (ended o) = ended o

-- younger expressions, the oldest first
abbrev pub stand_on : Stand → List Meaning → Stand
stand_on z [] = z
stand_on z (m ∷ ms) = stand_on (push_on m z) ms

-- where evaluation stands at a state while these are pending
abbrev pub stand : List Meaning → Flow → State → Stand
stand pending to s = stand_on (going [] to s) pending

-- what comes of code from there on
abbrev pub runs_from : Values State Array → List Instruction → Stand → Doing State Flow
runs_from M code (going vs to s) = exec M code vs to s
runs_from M code (ended o) = comes o
