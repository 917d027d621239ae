-- The code of an expression and of a statement: its instructions in the order of evaluation, each with its place.
use Rattle.std.specs.Prelude.{ℕ, Bool, true, false, List, [], ◌∷◌, ◌++◌}
use Rattle.apl_base.specs.declared.faults.Place.{Place}
use Rattle.apl_model.specs.Tree.{Tree, Slot, Positions, Statement, constant, variable, call, parenthesis, monadic, dyadic, reduction, outer_product, inner_product, subscript, assignment, indexed_assignment, output, elided, given, no_position, position, nothing, branch, expression}
use Rattle.apl_compile.specs.declared.codes.Instruction.{Instruction}
use Rattle.apl_compile.specs.declared.codes.Op.{Op}
use Rattle.apl_compile.specs.declared.codes.Op.TheVariants as op

-- one instruction at a place
abbrev pub at : Place → Op → List Instruction
at place what = record { place = place; op = what } ∷ []

-- ---- what an instruction tells of the tree's arguments and positions

-- how many arguments a call has. No tree of the language has its left argument alone, which is counted as 3
abbrev pub arguments : Slot → Slot → ℕ
arguments elided elided = 0
arguments elided (given right) = 1
arguments (given left) (given right) = 2
arguments (given left) elided = 3

abbrev pub is_given : Slot → Bool
is_given elided = false
is_given (given t) = true

-- which positions of a subscript are there
abbrev pub mask_of : Positions → List Bool
mask_of no_position = []
mask_of (position q qs) = is_given q ∷ mask_of qs

-- ---- expressions

-- the instruction of a node itself. A parenthesis has none
abbrev pub own_code : Tree → List Instruction
own_code (constant literal place) = at place (op.Lit literal)
own_code (variable name place) = at place (op.Name name)
own_code (call f left right place) = at place (op.Call f (arguments left right) false)
own_code (parenthesis inner place) = []
own_code (monadic f right place) = at place (op.Mon f)
own_code (dyadic f left right place) = at place (op.Dya f)
own_code (reduction f axis right place) = at place (op.Red f axis)
own_code (outer_product f left right place) = at place (op.Outer f)
own_code (inner_product f g left right place) = at place (op.Inner f g)
own_code (subscript array qs place) = at place (op.Index (mask_of qs))
own_code (assignment name value place) = at place (op.Asg name)
own_code (indexed_assignment name qs value place) = at place (op.Iasg name (mask_of qs))
own_code (output value place) = at place op.Show

abbrev mutual
  -- The right argument first, then the left one, then the function.
  pub expression_code : Tree → List Instruction
  expression_code (constant literal place) = own_code (constant literal place)
  expression_code (variable name place) = own_code (variable name place)
  expression_code (call f left right place) = slot_code right ++ (slot_code left ++ own_code (call f left right place))
  expression_code (parenthesis inner place) = expression_code inner
  expression_code (monadic f right place) = expression_code right ++ own_code (monadic f right place)
  expression_code (dyadic f left right place) = expression_code right ++ (expression_code left ++ own_code (dyadic f left right place))
  expression_code (reduction f axis right place) = expression_code right ++ own_code (reduction f axis right place)
  expression_code (outer_product f left right place) = expression_code right ++ (expression_code left ++ own_code (outer_product f left right place))
  expression_code (inner_product f g left right place) = expression_code right ++ (expression_code left ++ own_code (inner_product f g left right place))
  -- the positions from the last to the first, then the array
  expression_code (subscript array qs place) = positions_code qs ++ (expression_code array ++ own_code (subscript array qs place))
  expression_code (assignment name value place) = expression_code value ++ own_code (assignment name value place)
  -- the value, then the positions from the last to the first, then the write
  expression_code (indexed_assignment name qs value place) =
      expression_code value ++ (positions_code qs ++ own_code (indexed_assignment name qs value place))
  expression_code (output value place) = expression_code value ++ own_code (output value place)

  -- an argument or a position that is left out has no instruction
  pub slot_code : Slot → List Instruction
  slot_code elided = []
  slot_code (given t) = expression_code t

  pub positions_code : Positions → List Instruction
  positions_code no_position = []
  positions_code (position q qs) = positions_code qs ++ slot_code q

-- what stands before the instruction of a node itself: the code of its parts
abbrev pub parts_code : Tree → List Instruction
parts_code (constant literal place) = []
parts_code (variable name place) = []
parts_code (call f left right place) = slot_code right ++ slot_code left
parts_code (parenthesis inner place) = expression_code inner
parts_code (monadic f right place) = expression_code right
parts_code (dyadic f left right place) = expression_code right ++ expression_code left
parts_code (reduction f axis right place) = expression_code right
parts_code (outer_product f left right place) = expression_code right ++ expression_code left
parts_code (inner_product f g left right place) = expression_code right ++ expression_code left
parts_code (subscript array qs place) = positions_code qs ++ expression_code array
parts_code (assignment name value place) = expression_code value
parts_code (indexed_assignment name qs value place) = expression_code value ++ positions_code qs
parts_code (output value place) = expression_code value

-- ---- statements

-- PRINT and END stand at no token: they have the statement's line, and column 0
abbrev pub at_line : ℕ → Op → List Instruction
at_line line what = at (record { line = line; column = 0 }) what

abbrev pub ending : ℕ → List Instruction
ending line = at_line line op.End

abbrev pub printing : ℕ → List Instruction
printing line = at_line line op.Print ++ ending line

-- An expression as a whole statement is printed unless it is, outside parentheses, an assignment or an output; a call
-- that is the whole statement needs no result.
abbrev pub whole_code : ℕ → Tree → List Instruction
whole_code line (call f left right place) =
    slot_code right ++ (slot_code left ++ (at place (op.Call f (arguments left right) true) ++ printing line))
whole_code line (assignment name value place) = expression_code (assignment name value place) ++ ending line
whole_code line (indexed_assignment name qs value place) = expression_code (indexed_assignment name qs value place) ++ ending line
whole_code line (output value place) = expression_code (output value place) ++ ending line
whole_code line t = expression_code t ++ printing line

-- the code of a statement that stands on a line. The empty statement has nothing but its end
abbrev pub code_on : ℕ → Statement → List Instruction
code_on line nothing = ending line
code_on line (branch value place) = expression_code value ++ (at place op.Goto ++ ending line)
code_on line (expression value) = whole_code line value

-- the line of an expression is that of its place
abbrev pub line_of : Tree → ℕ
line_of (constant literal place) = place.line
line_of (variable name place) = place.line
line_of (call f left right place) = place.line
line_of (parenthesis inner place) = place.line
line_of (monadic f right place) = place.line
line_of (dyadic f left right place) = place.line
line_of (reduction f axis right place) = place.line
line_of (outer_product f left right place) = place.line
line_of (inner_product f g left right place) = place.line
line_of (subscript array qs place) = place.line
line_of (assignment name value place) = place.line
line_of (indexed_assignment name qs value place) = place.line
line_of (output value place) = place.line

-- the line that a statement tells; the empty one tells none, and has line 0 here
abbrev pub statement_line : Statement → ℕ
statement_line nothing = 0
statement_line (branch value place) = place.line
statement_line (expression value) = line_of value

-- the code of a statement by itself
abbrev pub code_of : Statement → List Instruction
code_of s = code_on (statement_line s) s
