-- A statement does the same whatever was printed and entered before it.
use Rattle.std.specs.Prelude.{◌≡◌, ℕ, List, ◌++◌}
use Rattle.apl_model.specs.Agreement.{mapped_flow}
use Rattle.apl_model.specs.Evaluation.{State, Ended}
use Rattle.apl_model.specs.Tree.{Script, Statement}
use Rattle.standing.specs.Statements.{evaluated}

-- the same state, after this text and these ended statements too
abbrev pub behind : List ℕ → List Ended → State → State
behind text earlier s = record s { printed = text ++ s.printed; ended = earlier ++ s.ended }

-- a statement does the same after them
abbrev pub EvaluatedBehind : Type 0
EvaluatedBehind =
    (script : Script) (line : ℕ) (statement : Statement) (text : List ℕ) (earlier : List Ended) (s : State)
    → evaluated script line statement (behind text earlier s) ≡ mapped_flow (behind text earlier) (evaluated script line statement s)
