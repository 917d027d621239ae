-- Plain statements and their work. Both are judged where the statement begins, from its tree and the variables with
-- their intervals, without a run. Of a plain expression the kind, the shape and the interval are known; elements are
-- looked at in arguments of selections and of `⍳` alone.
use Rattle.std.specs.Prelude.{ℕ, zero, suc, ◌+◌, ◌*◌, ◌==◌, nat_le, ℤ, pos, ◌+ℤ◌, int_le, int_lt, unsigned_abs, Bool, true, not, ◌&&◌, List, [], ◌∷◌, map, reverse, length, replicate, Option, Some, None, Result, Ok, Err, if◌then◌else◌}
use Rattle.std.specs.List.{list_all, list_any}
use Rattle.std.specs.Option.{option_map, option_and_then}
use Rattle.apl_base.specs.declared.cells.Interval.{Interval}
use Rattle.apl_base.specs.declared.cells.Interval.TheVariants.{Empty, Span}
use Rattle.apl_base.specs.declared.cells.Kind.TheVariants.{Num}
use Rattle.apl_base.specs.declared.faults.ErrorKind.{ErrorKind}
use Rattle.apl_base.specs.Array.{Array, size_of}
use Rattle.apl_base.specs.Selection.{take_shape, drop_shape, transpose_shape}
use Rattle.apl_model.specs.declared.functions.Axis.{Axis}
use Rattle.apl_model.specs.declared.functions.Axis.TheVariants.{Last, First, Numbered}
use Rattle.apl_model.specs.declared.functions.DyaFn.{DyaFn}
use Rattle.apl_model.specs.declared.functions.DyaFn.TheVariants as dyadic_fn
use Rattle.apl_model.specs.declared.functions.MonFn.{MonFn}
use Rattle.apl_model.specs.declared.functions.MonFn.TheVariants as monadic_fn
use Rattle.apl_model.specs.Environment.{look_up}
use Rattle.apl_model.specs.Evaluation.{State, literal_array}
use Rattle.apl_model.specs.Lift.{fitting_shape}
use Rattle.apl_model.specs.Made.{is_above_one, are_counts, less_origin, are_axes}
use Rattle.apl_model.specs.Order.{value_in}
use Rattle.apl_model.specs.Outcome.{Outcome, done, fails, spent}
use Rattle.apl_model.specs.Subscript.{is_text_position, in_axes, positions_shape}
use Rattle.apl_model.specs.Tree.{Tree, Slot, Positions, Statement, constant, variable, parenthesis, monadic, dyadic, subscript, assignment, elided, given, no_position, position, nothing, branch, expression}
use Rattle.apl_model.specs.Whole.{count, is_single, is_text, is_shape, first}
use Rattle.value_range.specs.declared.sides.Ranged.{Ranged}
use Rattle.value_range.specs.declared.sides.Side.{Side}
use Rattle.value_range.specs.Interval.{ranged1, ranged2}
use Rattle.apl_cost.specs.Ranges.{RangedArray, exact_of, counts_fit, is_run}
use Rattle.apl_cost.specs.RangedEvaluation.{RangedState, forgotten, arrays}

-- what is known of a plain expression, and what of it is counted
pub record Plain : Type 0 where
  pub side : Side
  pub shape : List ℕ
  -- on the selected side: scalar functions, operands, and elements of literals
  pub functions : ℕ
  pub operands : ℕ
  pub literals : ℕ
  -- the work of its arguments, each counted by its own work alone
  pub arguments : ℕ
  -- scalar functions, those in arguments included
  pub all_functions : ℕ

-- size × (functions + operands + 3) + elements of literals + work of each argument
abbrev pub work_of : Plain → ℕ
work_of p = size_of p.shape * (p.functions + p.operands + 3) + p.literals + p.arguments

-- ---- operands

-- an array by its kind and interval, and its shape
abbrev pub operand : Side → List ℕ → Plain
operand side shape = record { side = side; shape = shape; functions = 0; operands = 1; literals = 0; arguments = 0; all_functions = 0 }

-- a literal
abbrev pub literal_operand : Array → Plain
literal_operand a = record (operand (record { kind = a.kind; interval = exact_of a }) a.shape) { literals = length a.cells }

-- a set name
abbrev pub name_operand : RangedArray → Plain
name_operand v = operand (record { kind = v.array.kind; interval = v.kept }) v.array.shape

-- n numbers from o up
abbrev pub numbers_from : ℤ → ℕ → Interval
numbers_from o zero = Empty
numbers_from o (suc n) = Span o (o +ℤ pos n)

-- `⍳` of one number, without error; what it is of is an argument
abbrev pub iota_operand : ℤ → Plain → Array → Option Plain
iota_operand o p a =
    let n = unsigned_abs (first a) in
    if not (is_above_one a) && is_single a && are_counts a && is_shape (n ∷ [])
    then Some (record (operand (record { kind = Num; interval = numbers_from o n }) (n ∷ [])) { arguments = work_of p; all_functions = p.all_functions })
    else None

-- ---- scalar functions that the interval rules call safe

-- a value of one function more, where that is safe
abbrev pub applied : Ranged → List ℕ → Plain → Option Plain
applied answer shape p =
    if answer.safe
    then Some (record p {
      side = record { kind = Num; interval = answer.range };
      shape = shape;
      functions = suc p.functions;
      all_functions = suc p.all_functions;
    })
    else None

-- both operands counted together
abbrev pub joined : Plain → Plain → Plain
joined a b = record b {
  functions = a.functions + b.functions;
  operands = a.operands + b.operands;
  literals = a.literals + b.literals;
  arguments = a.arguments + b.arguments;
  all_functions = a.all_functions + b.all_functions;
}

-- where the shapes fit
abbrev pub applied_over : Ranged → Result (List ℕ) ErrorKind → Plain → Option Plain
applied_over answer (Ok shape) p = applied answer shape p
applied_over answer (Err e) p = None

-- ---- selections without error

-- a shape, where this holds
abbrev pub shape_where : Bool → List ℕ → Option (List ℕ)
shape_where test ns = if test then Some ns else None

-- an axis of r axes
abbrev pub is_axis : ℤ → Axis → ℕ → Bool
is_axis o Last r = true
is_axis o First r = true
is_axis o (Numbered k) r = int_le o k && int_lt k (o +ℤ pos r)

-- `⌽B` and the like
abbrev pub reversed_lengths : ℤ → Axis → List ℕ → Option (List ℕ)
reversed_lengths o axis ns = shape_where (is_axis o axis (length ns)) ns

-- a scalar is first given axes of length 1, as many as there are counts
abbrev pub with_axes : Array → List ℕ → List ℕ
with_axes a ns = if length ns == 0 then replicate (count a) 1 else ns

-- numbers, one for each axis
abbrev pub are_for_axes : Array → List ℕ → Bool
are_for_axes a ns = not (is_above_one a) && (count a == length ns) && not (is_text a)

-- `A↑B` with counts that fit, `A↓B`, `A⍉B`, over the lengths of B
abbrev pub taken_lengths : Array → List ℕ → Option (List ℕ)
taken_lengths a ns = shape_where (are_for_axes a ns && counts_fit ns a.cells && is_shape (take_shape a.cells)) (take_shape a.cells)

-- without the first or the last of each axis
abbrev pub dropped_lengths : Array → List ℕ → Option (List ℕ)
dropped_lengths a ns = shape_where (are_for_axes a ns && is_shape (drop_shape ns a.cells)) (drop_shape ns a.cells)

-- with its axes in the places that A names
abbrev pub transposed_lengths : ℤ → Array → List ℕ → Option (List ℕ)
transposed_lengths o a ns =
    shape_where (are_for_axes a ns && are_axes (less_origin o a)) (transpose_shape (map unsigned_abs (less_origin o a)) ns)

-- which selection a function of two arguments is
abbrev pub selected_lengths : ℤ → DyaFn → Array → List ℕ → Option (List ℕ)
selected_lengths o dyadic_fn.Take a ns = taken_lengths a (with_axes a ns)
selected_lengths o dyadic_fn.Skip a ns = dropped_lengths a (with_axes a ns)
selected_lengths o dyadic_fn.Transpose a ns = transposed_lengths o a ns
selected_lengths o f a ns = None

-- `B[I;J]`, by positions that are left out, scalars or in arithmetic progression
abbrev pub subscript_lengths : ℤ → List (Option Array) → List ℕ → Option (List ℕ)
subscript_lengths o ps ns =
    shape_where ((length ps == length ns) && list_all is_run ps && not (list_any is_text_position ps) && in_axes o ns ps && is_shape (positions_shape ns ps))
    (positions_shape ns ps)

-- what is counted of arguments: their work, and the scalar functions in them
pub record Arguments : Type 0 where
  pub work : ℕ
  pub functions : ℕ

-- none
abbrev pub no_arguments : Arguments
no_arguments = record { work = 0; functions = 0 }

-- one more, by its own work
abbrev pub argument_and : Plain → Arguments → Arguments
argument_and p more = record { work = work_of p + more.work; functions = p.all_functions + more.functions }

-- the selection with this shape
abbrev pub selected : Plain → Arguments → List ℕ → Plain
selected b more ns = record b { shape = ns; arguments = b.arguments + more.work; all_functions = b.all_functions + more.functions }

-- ---- plain expressions

-- the value that an argument has where the statement begins, if it has one
abbrev pub value_if_done : Outcome State Array → Option Array
value_if_done (done a t) = Some a
value_if_done (fails kind place t) = None
value_if_done (spent t) = None

-- the value of an argument at the state where the statement begins
abbrev pub value_here : RangedState → Tree → Option Array
value_here s t = value_if_done (value_in arrays t (forgotten s))

-- the values of positions; one that is left out has none
abbrev pub slot_here : RangedState → Slot → Option Array
slot_here s elided = None
slot_here s (given t) = value_here s t

-- those of all positions
abbrev pub positions_here : RangedState → Positions → List (Option Array)
positions_here s no_position = []
positions_here s (position q qs) = slot_here s q ∷ positions_here s qs

-- `f B` over a plain B, whose value is asked for by `⍳` alone
abbrev pub plain1 : ℤ → MonFn → (Unit {0} → Option Array) → Plain → Option Plain
plain1 o (monadic_fn.Scalar f) value b = applied (ranged1 f b.side) b.shape b
plain1 o monadic_fn.Iota value b = option_and_then (iota_operand o b) (value tt)
plain1 o (monadic_fn.Reverse axis) value b = option_map (selected b no_arguments) (reversed_lengths o axis b.shape)
plain1 o monadic_fn.Transpose value b = Some (selected b no_arguments (reverse b.shape))
plain1 o f value b = None

-- `A f B` over a plain B and a plain A, whose value is asked for by selections alone
abbrev pub plain2 : ℤ → DyaFn → (Unit {0} → Option Array) → Plain → Plain → Option Plain
plain2 o (dyadic_fn.Scalar f) value a b = applied_over (ranged2 f a.side b.side) (fitting_shape a.shape b.shape) (joined a b)
plain2 o f value a b = option_and_then (λ v. option_map (selected b (argument_and a no_arguments)) (selected_lengths o f v b.shape)) (value tt)

abbrev mutual
  -- what is known of an expression, where it is plain
  pub plain_of : RangedState → Tree → Option Plain
  plain_of s (constant literal place) = Some (literal_operand (literal_array literal))
  plain_of s (variable name place) = option_map name_operand (look_up s.variables name)
  plain_of s (parenthesis inner place) = plain_of s inner
  plain_of s (monadic f right place) =
      option_and_then (plain1 s.variables.origin f (λ _. value_here s right)) (plain_of s right)
  plain_of s (dyadic f left right place) =
      option_and_then (λ b. option_and_then (λ a. plain2 s.variables.origin f (λ _. value_here s left) a b) (plain_of s left)) (plain_of s right)
  plain_of s (subscript array ps place) =
      option_and_then (λ b. option_and_then (λ more.
      option_map (selected b more) (subscript_lengths s.variables.origin (positions_here s ps) b.shape)) (arguments_of s ps)) (plain_of s array)
  plain_of s t = None

  -- the positions of a subscript, where each is plain or left out
  pub arguments_of : RangedState → Positions → Option Arguments
  arguments_of s no_position = Some no_arguments
  arguments_of s (position elided qs) = arguments_of s qs
  arguments_of s (position (given t) qs) = option_and_then (λ p. option_map (argument_and p) (arguments_of s qs)) (plain_of s t)

-- ---- plain statements

-- at most 64 scalar functions, those in arguments included
abbrev pub work_within : Plain → Option ℕ
work_within p = if nat_le p.all_functions 64 then Some (work_of p) else None

-- the work of a statement, where it is plain: an expression, or a name, `←` and one
abbrev pub plain_work : RangedState → Statement → Option ℕ
plain_work s (expression (assignment name value place)) = option_and_then work_within (plain_of s value)
plain_work s (expression t) = option_and_then work_within (plain_of s t)
plain_work s (branch value place) = None
plain_work s nothing = None
