-- The evaluation of a statement, from right to left. Each function is applied to whole arrays as soon as its
-- arguments are values.
use Rattle.std.specs.Prelude.{ℕ, ℤ, Bool, true, false, List, [], ◌∷◌, ◌++◌, length, Option, Some, None, Ok, Err}
use Rattle.apl_base.specs.declared.faults.ErrorKind.TheVariants as error
use Rattle.apl_base.specs.declared.faults.Place.{Place}
use Rattle.apl_base.specs.Array.{Array}
use Rattle.apl_model.specs.declared.functions.DyaFn.{DyaFn}
use Rattle.apl_model.specs.declared.functions.DyaFn.TheVariants as dyadic_fn
use Rattle.apl_model.specs.declared.functions.MonFn.{MonFn}
use Rattle.apl_model.specs.declared.functions.MonFn.TheVariants as monadic_fn
use Rattle.apl_model.specs.declared.trees.Literal.{Literal}
use Rattle.apl_model.specs.Environment.{Environment, look_up, set_name}
use Rattle.apl_model.specs.Lift.{lift1, lift2}
use Rattle.apl_model.specs.Made as made
use Rattle.apl_model.specs.Order.{CallsOf, Values, value_in, argument_in, positions_in, flow_in}
use Rattle.apl_model.specs.Outcome.{Outcome, done, fails, and_then, Flow, onwards, to_line}
use Rattle.apl_model.specs.Printed.{array_text}
use Rattle.apl_model.specs.Product as product
use Rattle.apl_model.specs.Subscript as places
use Rattle.apl_model.specs.Tree.{Tree, Slot, Positions, Statement}
use Rattle.apl_model.specs.Whole.{Answer, is_empty, is_text, first}

-- a statement that ended: its line in the script, and its number among the statements begun
pub record Ended : Type 0 where
  pub line : ℕ
  pub begun : ℕ

-- where a run stands
pub record State : Type 0 where
  pub variables : Environment Array
  -- the characters printed so far
  pub printed : List ℕ
  -- how many statements may still begin, and how many have
  pub turns : ℕ
  pub begun : ℕ
  -- the statements that ended, in that order
  pub ended : List Ended

-- the array of a function at its place, or its error there
abbrev pub at_place : Place → Answer → State → Outcome State Array
at_place place (Ok a) s = done a s
at_place place (Err kind) s = fails kind place s

-- where a value is needed and there is none, VALUE ERROR
abbrev pub needed : Place → Option Array → State → Outcome State Array
needed place (Some a) s = done a s
needed place None s = fails error.Value place s

-- the origin in force
abbrev pub origin_of : State → ℤ
origin_of s = s.variables.origin

-- the state with these variables
abbrev pub with_variables : Environment Array → State → State
with_variables e s = record s { variables = e }

-- the state with the name set
abbrev pub with_name : List ℕ → Array → State → State
with_name name a s = with_variables (set_name s.variables name a) s

-- the state with this text printed too
abbrev pub with_printed : List ℕ → State → State
with_printed text s = record s { printed = s.printed ++ text }

-- ---- functions

-- a literal of one cell is a scalar, of another number of cells a vector
abbrev pub literal_shape : List ℤ → List ℕ
literal_shape (z ∷ []) = []
literal_shape [] = 0 ∷ []
literal_shape (y ∷ z ∷ zs) = length (y ∷ z ∷ zs) ∷ []

-- the array of a literal
abbrev pub literal_array : Literal → Array
literal_array l = record { kind = l.kind; shape = literal_shape l.cells; cells = l.cells }

-- `f B`
abbrev pub monadic_value : ℤ → MonFn → Array → Answer
monadic_value o (monadic_fn.Scalar f) b = lift1 f b
monadic_value o monadic_fn.Iota b = made.interval o b
monadic_value o monadic_fn.Shape b = made.shape_of b
monadic_value o monadic_fn.Ravel b = made.ravel b
monadic_value o (monadic_fn.Reverse axis) b = made.reversed o axis b
monadic_value o monadic_fn.Transpose b = made.flipped b
monadic_value o monadic_fn.GradeUp b = made.grade false o b
monadic_value o monadic_fn.GradeDown b = made.grade true o b

-- `A f B`
abbrev pub dyadic_value : ℤ → DyaFn → Array → Array → Answer
dyadic_value o (dyadic_fn.Scalar f) a b = lift2 f a b
dyadic_value o dyadic_fn.Reshape a b = made.reshape a b
dyadic_value o dyadic_fn.Catenate a b = made.catenate a b
dyadic_value o (dyadic_fn.Rotate axis) a b = made.rotated o axis a b
dyadic_value o dyadic_fn.Transpose a b = made.transposed o a b
dyadic_value o dyadic_fn.Take a b = made.take_or_pad a b
dyadic_value o dyadic_fn.Skip a b = made.drop_from a b
dyadic_value o (dyadic_fn.Compress axis) a b = made.compress o axis a b
dyadic_value o (dyadic_fn.Expand axis) a b = made.expand o axis a b
dyadic_value o dyadic_fn.IndexOf a b = made.index_of o a b
dyadic_value o dyadic_fn.Member a b = made.member a b
dyadic_value o dyadic_fn.Encode a b = made.encode a b
dyadic_value o dyadic_fn.Decode a b = made.decode a b

-- the write of an indexed assignment: VALUE ERROR where the name is unset, else the replacement
abbrev pub replace_in : ℤ → Option Array → List (Option Array) → Array → Answer
replace_in o None ps b = Err error.Value
replace_in o (Some a) ps b = places.replacement o a ps b

-- the value of an indexed assignment is what was assigned
abbrev pub replace_name : List ℕ → List (Option Array) → Array → Place → State → Outcome State Array
replace_name name ps b place s =
    and_then (at_place place (replace_in (origin_of s) (look_up s.variables name) ps b) s) (λ a t. done b (with_name name a t))

-- ---- statements

-- a branch with a value without elements goes on; a character is a DOMAIN ERROR; else the first element names
-- the next line
abbrev pub branch_by : Bool → Bool → Array → Place → State → Outcome State Flow
branch_by true text a place s = done onwards s
branch_by false true a place s = fails error.Domain place s
branch_by false false a place s = done (to_line (first a)) s

-- where a branch with this value goes
abbrev pub branch_to : Place → Array → State → Outcome State Flow
branch_to place a s = branch_by (is_empty a) (is_text a) a place s

-- the value of a statement is printed; a call may have given none
abbrev pub print_result : Option Array → State → Outcome State Flow
print_result (Some a) s = done onwards (with_printed (array_text a) s)
print_result None s = done onwards s

-- ---- evaluation

-- what a call of a function means: of its name, its place, its left and its right argument. It may have no result
abbrev pub Calls : Type 0
Calls = CallsOf State Array

-- what is done with arrays, where this is what calls mean
abbrev pub of_arrays : Calls → Values State Array
of_arrays calls = record {
  literal = λ l s. done (literal_array l) s;
  name = λ name place s. needed place (look_up s.variables name) s;
  apply1 = λ f b place s. at_place place (monadic_value (origin_of s) f b) s;
  apply2 = λ f a b place s. at_place place (dyadic_value (origin_of s) f a b) s;
  reduce = λ f axis b place s. at_place place (product.reduce (origin_of s) f axis b) s;
  outer = λ f a b place s. at_place place (product.outer f a b) s;
  inner = λ f g a b place s. at_place place (product.inner f g a b) s;
  index = λ a ps place s. at_place place (places.subscript (origin_of s) a ps) s;
  assign = λ name a s. done a (with_name name a s);
  replace = replace_name;
  calls = calls;
  print = λ a s. done a (with_printed (array_text a) s);
  need = needed;
  branch = branch_to;
  show = print_result;
}

-- the value of an expression
abbrev pub value_of : Calls → Tree → State → Outcome State Array
value_of calls t s = value_in (of_arrays calls) t s

-- of an argument or a position, where it is not left out
abbrev pub argument : Calls → Slot → State → Outcome State (Option Array)
argument calls q s = argument_in (of_arrays calls) q s

-- of the positions of a subscript
abbrev pub positions_of : Calls → Positions → State → Outcome State (List (Option Array))
positions_of calls qs s = positions_in (of_arrays calls) qs s

-- what a statement prints, and which line follows it
abbrev pub statement_flow : Calls → Statement → State → Outcome State Flow
statement_flow calls t s = flow_in (of_arrays calls) t s
