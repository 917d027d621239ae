-- Worked examples of the statements of cost, room and sharing: which costs keep them, and which don't.
use Rattle.std.specs.Prelude.{◌≡◌, ℕ, ◌+◌, ◌≤◌, pos, true, false, List, [], ◌∷◌, map, codes, Some, None}
use Rattle.apl_base.specs.declared.cells.Interval.TheVariants.{Span}
use Rattle.apl_model.specs.declared.functions.Axis.TheVariants as axis
use Rattle.apl_model.specs.declared.functions.MonFn.TheVariants as one
use Rattle.apl_model.specs.Environment.{no_variables}
use Rattle.apl_model.specs.Immediate.{beginning}
use Rattle.apl_model.specs.Tree.{Tree, Slot, Script, Statement, monadic, given, elided, expression}
use Rattle.apl_model_examples.specs.Words.{at, text, numbers, number_vector, writes, positions}
use Rattle.apl_cost.specs.RangedEvaluation.{RangedState, with_ranges, with_name}
use Rattle.apl_cost.specs.Footprint.{greatest}
use Rattle.apl_cost.specs.Sharing.{only_shares, written_name}
use Rattle.apl_cost.specs.Statements.{Cost, ProgramCostsItsWork, StatementCostsItsWork, StopsForRoom, SharingCostsNothing, ProgramShares, script_run, statement_run}
use Rattle.apl_cost.specs.Examples.{up_to, turned_round, n_of, taken, times}
use Rattle.apl_cost.specs.Peaks.{of_lines, is_set_to, value_named, squares_up_to}

-- no variables, and nine turns
abbrev pub nothing_yet : RangedState
nothing_yet = with_ranges no_variables (beginning 9)

-- a cost of the statement on this line, which was begun as that one
abbrev pub costs : ℕ → ℕ → ℕ → Cost
costs line begun ops = record { line = line; begun = begun; ops = ops }

-- `A←⍳3`, `B←⌽A`
abbrev pub sharing_script : Script
sharing_script = of_lines (is_set_to "A" (up_to 3) ∷ is_set_to "B" (turned_round (value_named "A")) ∷ [])

-- at most 17, and at most 12
abbrev pub CostsKeepTheirWork : Type 0
CostsKeepTheirWork = ProgramCostsItsWork sharing_script 9 (costs 1 1 17 ∷ costs 2 2 12 ∷ [])

-- no more
abbrev pub CostsAboveTheirWork : Type 0
CostsAboveTheirWork = ProgramCostsItsWork sharing_script 9 (costs 1 1 18 ∷ []) → ⊥

-- and no more costs than statements
abbrev pub CostsOfNoStatement : Type 0
CostsOfNoStatement = ProgramCostsItsWork sharing_script 9 (costs 1 1 0 ∷ costs 2 2 0 ∷ costs 3 3 0 ∷ []) → ⊥

-- the second statement only shares
abbrev pub SharingIsFree : Type 0
SharingIsFree = SharingCostsNothing (costs 1 1 17 ∷ costs 2 2 0 ∷ []) (script_run sharing_script 9)

-- so it costs nothing
abbrev pub SharingIsNotDear : Type 0
SharingIsNotDear = SharingCostsNothing (costs 1 1 17 ∷ costs 2 2 1 ∷ []) (script_run sharing_script 9) → ⊥

-- `A←⍳3`, `A[1]←7`, `A[2]←8`
abbrev pub writing_script : Script
writing_script = of_lines
    (is_set_to "A" (up_to 3) ∷ writes "A" (positions (given (n_of 1) ∷ [])) (n_of 7) (at 1 1)
    ∷ writes "A" (positions (given (n_of 2) ∷ [])) (n_of 8) (at 1 1) ∷ [])

-- the first write may cost what it likes, and the second nothing
abbrev pub SecondWritesAreFree : Type 0
SecondWritesAreFree = ProgramShares writing_script 9 (costs 1 1 17 ∷ costs 2 2 6 ∷ costs 3 3 0 ∷ [])

-- but no more
abbrev pub SecondWritesAreNotDear : Type 0
SecondWritesAreNotDear = ProgramShares writing_script 9 (costs 1 1 17 ∷ costs 2 2 6 ∷ costs 3 3 1 ∷ []) → ⊥

-- `A←(⍳20)*2` may stop for room below 82 cells, and not from 82 on
abbrev pub RoomForSquares : Type 0
RoomForSquares = greatest (statement_run (of_lines []) 1 (expression (is_set_to "A" (squares_up_to 20))) nothing_yet).moments ≡ 82

-- from 82 on it does not
abbrev pub NoStopWithRoom : Type 0
NoStopWithRoom = StopsForRoom 82 (of_lines []) 1 (expression (is_set_to "A" (squares_up_to 20))) nothing_yet → ⊥

-- `3↑2×⍳20`, run alone
abbrev pub WorkOfOneStatement : Type 0
WorkOfOneStatement = (before after : ℕ) → StatementCostsItsWork nothing_yet
    (expression (taken (n_of 3) (times (n_of 2) (up_to 20)))) before after → after ≤ before + 29

-- ---- statements that only share, and writes of single elements

-- A is set
abbrev pub a_is_there : RangedState
a_is_there = with_name (codes "A") (record { array = number_vector (1 ∷ 2 ∷ []); interval = Span (pos 1) (pos 2); kept = Span (pos 1) (pos 2) }) nothing_yet

-- `B←value`
abbrev pub gets : Tree → Statement
gets value = expression (is_set_to "B" value)

-- `B←A`, `B←⌽A`, `B←⌽[1]A`, `B←⊖A` and `B←⍉A` only share; `B←⌽C`, `B←⌽⌽A`, `B←⌽1 2` and `⌽A` don't
abbrev pub SharingStatements : Type 0
SharingStatements =
    map (only_shares a_is_there) (gets (value_named "A") ∷ gets (turned_round (value_named "A")) ∷ gets
    (monadic (one.Reverse (axis.Numbered (pos 1))) (value_named "A") (at 1 1))
    ∷ gets (monadic (one.Reverse axis.First) (value_named "A") (at 1 1)) ∷ gets (monadic one.Transpose (value_named "A") (at 1 1)) ∷ gets
    (turned_round (value_named "C"))
    ∷ gets (turned_round (turned_round (value_named "A"))) ∷ gets (turned_round (numbers (1 ∷ 2 ∷ []) (at 1 1))) ∷ expression
    (turned_round (value_named "A")) ∷ [])
    ≡ true ∷ true ∷ true ∷ true ∷ true ∷ false ∷ false ∷ false ∷ false ∷ []

-- `A[..]←value`
abbrev pub a_gets : List Slot → Tree → Statement
a_gets ps value = expression (writes "A" (positions ps) value (at 1 1))

-- `A[1]←2` and `A[1;2]←'X'` write single elements; `A[1 2]←2`, `A[]←2`, `A[1]←B` and `A[B]←2` are no such writes
abbrev pub WritesOfSingleElements : Type 0
WritesOfSingleElements =
    map written_name (a_gets (given (n_of 1) ∷ []) (n_of 2) ∷ a_gets (given (n_of 1) ∷ given (n_of 2) ∷ []) (text "X" (at 1 1)) ∷ a_gets
    (given (numbers (1 ∷ 2 ∷ []) (at 1 1)) ∷ []) (n_of 2)
    ∷ a_gets (elided ∷ []) (n_of 2) ∷ a_gets (given (n_of 1) ∷ []) (value_named "B") ∷ a_gets (given (value_named "B") ∷ []) (n_of 2) ∷ [])
    ≡ Some (codes "A") ∷ Some (codes "A") ∷ None ∷ None ∷ None ∷ None ∷ []
