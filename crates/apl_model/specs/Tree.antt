-- The trees of a script as plain data. All definitions speak of these.
use Rattle.std.specs.Prelude.{ℕ, List, Option}
use Rattle.apl_base.specs.declared.faults.Place.{Place}
use Rattle.apl_base.specs.declared.rows.Dya.{Dya}
use Rattle.apl_model.specs.declared.functions.Axis.{Axis}
use Rattle.apl_model.specs.declared.functions.DyaFn.{DyaFn}
use Rattle.apl_model.specs.declared.functions.MonFn.{MonFn}
use Rattle.apl_model.specs.declared.scripts.Command.{Command}
use Rattle.apl_model.specs.declared.scripts.Header.{Header}
use Rattle.apl_model.specs.declared.tokens.Line.{Line}
use Rattle.apl_model.specs.declared.trees.Literal.{Literal}

mutual
  -- an expression. Each node keeps its place
  pub data Tree : Type 0 where
    constant : Literal → Place → Tree
    variable : List ℕ → Place → Tree
    -- a call, with its left and its right argument
    call : List ℕ → Slot → Slot → Place → Tree
    parenthesis : Tree → Place → Tree
    monadic : MonFn → Tree → Place → Tree
    -- the left argument, then the right one
    dyadic : DyaFn → Tree → Tree → Place → Tree
    reduction : Dya → Axis → Tree → Place → Tree
    outer_product : Dya → Tree → Tree → Place → Tree
    inner_product : Dya → Dya → Tree → Tree → Place → Tree
    subscript : Tree → Positions → Place → Tree
    assignment : List ℕ → Tree → Place → Tree
    indexed_assignment : List ℕ → Positions → Tree → Place → Tree
    output : Tree → Place → Tree

  -- an argument or a position: left out, or a tree
  pub data Slot : Type 0 where
    elided : Slot
    given : Tree → Slot

  -- the positions of a subscript, in order
  pub data Positions : Type 0 where
    no_position : Positions
    position : Slot → Positions → Positions

-- a statement: nothing, a branch, or an expression
pub data Statement : Type 0 where
  nothing : Statement
  branch : Tree → Place → Statement
  expression : Tree → Statement

-- a line of a body: the number of its line in the script, its label, its statement
pub record BodyLine : Type 0 where
  pub line : ℕ
  pub label : Option (List ℕ)
  pub statement : Statement

-- a definition: the lines of its two ∇, its header, its body
pub record Definition : Type 0 where
  pub opened : ℕ
  pub closed : ℕ
  pub header : Header
  pub body : List BodyLine

-- an item of a script. The numbers are those of its line
pub data Item : Type 0 where
  statement_item : ℕ → Statement → Item
  command_item : ℕ → Command → Item
  definition_item : Definition → Item

-- a script: its lines, and its items in order
pub record Script : Type 0 where
  pub lines : List Line
  pub items : List Item
