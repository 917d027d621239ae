-- Statements that need no work: those that only share an array, and writes of single elements.
use Rattle.std.specs.Prelude.{ℕ, ◌==◌, Bool, true, false, List, length, Option, Some, None, is_some, if◌then◌else◌}
use Rattle.apl_model.specs.declared.functions.MonFn.TheVariants.{Reverse, Transpose}
use Rattle.apl_model.specs.Environment.{look_up}
use Rattle.apl_model.specs.Tree.{Tree, Positions, Statement, constant, variable, monadic, assignment, indexed_assignment, given, no_position, position, expression}
use Rattle.apl_cost.specs.RangedEvaluation.{RangedState}

-- a name that is set
abbrev pub is_set : RangedState → Tree → Bool
is_set s (variable name place) = is_some (look_up s.variables name)
is_set s t = false

-- a set name, or one of `⌽`, `⌽[K]`, `⊖` and `⍉` applied to one
abbrev pub shares_name : RangedState → Tree → Bool
shares_name s (monadic (Reverse axis) t place) = is_set s t
shares_name s (monadic Transpose t place) = is_set s t
shares_name s t = is_set s t

-- where it begins, the statement is a name, `←` and one of these
abbrev pub only_shares : RangedState → Statement → Bool
only_shares s (expression (assignment name value place)) = shares_name s value
only_shares s t = false

-- a literal of one element
abbrev pub is_one : Tree → Bool
is_one (constant l place) = length l.cells == 1
is_one t = false

-- each position is one
abbrev pub are_ones : Positions → Bool
are_ones no_position = true
are_ones (position (given t) qs) = if is_one t then are_ones qs else false
are_ones (position q qs) = false

-- the name that a statement `name[..]←c` writes, where each position and c are literals of one element
abbrev pub written_name : Statement → Option (List ℕ)
written_name (expression (indexed_assignment name qs value place)) = if is_one value then (if are_ones qs then Some name else None) else None
written_name t = None
