-- The order of evaluation: what of an expression and of a statement is evaluated before what. It is the same for all
-- kinds of values, which differ only in what is done with them.
use Rattle.std.specs.Prelude.{ℕ, List, [], ◌∷◌, Option, Some, None}
use Rattle.apl_base.specs.declared.faults.Place.{Place}
use Rattle.apl_base.specs.declared.rows.Dya.{Dya}
use Rattle.apl_model.specs.declared.functions.Axis.{Axis}
use Rattle.apl_model.specs.declared.functions.DyaFn.{DyaFn}
use Rattle.apl_model.specs.declared.functions.MonFn.{MonFn}
use Rattle.apl_model.specs.declared.trees.Literal.{Literal}
use Rattle.apl_model.specs.Outcome.{Outcome, done, and_then, Flow, onwards}
use Rattle.apl_model.specs.Tree.{Tree, Slot, Positions, Statement, constant, variable, call, parenthesis, monadic, dyadic, reduction, outer_product, inner_product, subscript, assignment, indexed_assignment, output, elided, given, no_position, position, nothing, branch, expression}

-- what a call of a function means: of its name, its place, its left and its right argument. It may have no result
abbrev pub CallsOf : Type 0 → Type 0 → Type 0
CallsOf S V = List ℕ → Place → Option V → Option V → S → Outcome S (Option V)

-- what is done with values of a type V at states of a type S. A position that is left out is no value
pub record Values (S V : Type 0) : Type 0 where
  -- a literal; the value of a name
  pub literal : Literal → S → Outcome S V
  pub name : List ℕ → Place → S → Outcome S V
  -- a function of one argument; one of two, with the left argument first
  pub apply1 : MonFn → V → Place → S → Outcome S V
  pub apply2 : DyaFn → V → V → Place → S → Outcome S V
  -- a reduction along an axis; products, with the left argument first
  pub reduce : Dya → Axis → V → Place → S → Outcome S V
  pub outer : Dya → V → V → Place → S → Outcome S V
  pub inner : Dya → Dya → V → V → Place → S → Outcome S V
  -- a subscript: the array and its positions
  pub index : V → List (Option V) → Place → S → Outcome S V
  -- an assignment: the name, and what is assigned
  pub assign : List ℕ → V → S → Outcome S V
  -- an indexed assignment: the name, its positions, and what is assigned
  pub replace : List ℕ → List (Option V) → V → Place → S → Outcome S V
  -- a call of a function
  pub calls : CallsOf S V
  -- an output
  pub print : V → S → Outcome S V
  -- the result of a call where a value is needed
  pub need : Place → Option V → S → Outcome S V
  -- where a branch goes
  pub branch : Place → V → S → Outcome S Flow
  -- the value of a statement, if it has one, shown
  pub show : Option V → S → Outcome S Flow

-- after an assignment or an output that is the whole statement nothing is shown
abbrev pub silently : {S V : Type 0} → V → S → Outcome S Flow
silently v s = done onwards s

module _ {S V : Type 0} (M : Values S V) where
  abbrev mutual
    -- the value of an expression: the right argument first, then the left one, then the function
    pub value_in : Tree → S → Outcome S V
    value_in (constant literal place) s = M.literal literal s
    value_in (variable name place) s = M.name name place s
    value_in (call f left right place) s =
        and_then (argument_in right s) (λ b t. and_then (argument_in left t) (λ a u. and_then (M.calls f place a b u) (M.need place)))
    value_in (parenthesis inner place) s = value_in inner s
    value_in (monadic f right place) s = and_then (value_in right s) (λ b t. M.apply1 f b place t)
    value_in (dyadic f left right place) s =
        and_then (value_in right s) (λ b t. and_then (value_in left t) (λ a u. M.apply2 f a b place u))
    value_in (reduction f axis right place) s = and_then (value_in right s) (λ b t. M.reduce f axis b place t)
    value_in (outer_product f left right place) s =
        and_then (value_in right s) (λ b t. and_then (value_in left t) (λ a u. M.outer f a b place u))
    value_in (inner_product f g left right place) s =
        and_then (value_in right s) (λ b t. and_then (value_in left t) (λ a u. M.inner f g a b place u))
    -- the positions from the last to the first, then the array
    value_in (subscript array ps place) s =
        and_then (positions_in ps s) (λ vs t. and_then (value_in array t) (λ a u. M.index a vs place u))
    value_in (assignment name value place) s = and_then (value_in value s) (λ a t. M.assign name a t)
    -- the value, then the positions from the last to the first, then the write
    value_in (indexed_assignment name ps value place) s =
        and_then (value_in value s) (λ b t. and_then (positions_in ps t) (λ vs u. M.replace name vs b place u))
    value_in (output value place) s = and_then (value_in value s) (λ a t. M.print a t)

    -- an argument or a position, where it is not left out
    pub argument_in : Slot → S → Outcome S (Option V)
    argument_in elided s = done None s
    argument_in (given t) s = and_then (value_in t s) (λ a u. done (Some a) u)

    -- the positions' values, evaluated from the last to the first
    pub positions_in : Positions → S → Outcome S (List (Option V))
    positions_in no_position s = done [] s
    positions_in (position q qs) s = and_then (positions_in qs s) (λ vs t. and_then (argument_in q t) (λ v u. done (v ∷ vs) u))

  -- a value is shown
  abbrev pub show_value : V → S → Outcome S Flow
  show_value v s = M.show (Some v) s

  -- A statement shows its value unless it is, outside parentheses, an assignment, an output or a branch, or a call
  -- that gave no result.
  abbrev pub expression_in : Tree → S → Outcome S Flow
  expression_in (call f left right place) s =
      and_then (argument_in right s) (λ b t. and_then (argument_in left t) (λ a u. and_then (M.calls f place a b u) M.show))
  expression_in (assignment name value place) s = and_then (value_in (assignment name value place) s) silently
  expression_in (indexed_assignment name ps value place) s = and_then (value_in (indexed_assignment name ps value place) s) silently
  expression_in (output value place) s = and_then (value_in (output value place) s) silently
  expression_in t s = and_then (value_in t s) show_value

  -- a statement, and where the run goes: an empty one goes on
  abbrev pub flow_in : Statement → S → Outcome S Flow
  flow_in nothing s = done onwards s
  flow_in (branch value place) s = and_then (value_in value s) (M.branch place)
  flow_in (expression value) s = expression_in value s
