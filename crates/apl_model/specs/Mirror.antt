-- The plain data that the values of the program stand for.
use Rattle.std.specs.Prelude.{List, [], ◌∷◌, Option, None, Some, map}
use Rattle.apl_model.specs.Tree as plain
use Rattle.apl_model.specs.Tree.{Tree, Slot, Positions}
use Rattle.apl_model.specs.declared.scripts.BodyLine.{BodyLine}
use Rattle.apl_model.specs.declared.scripts.Definition.{Definition}
use Rattle.apl_model.specs.declared.scripts.Script.{Script}
use Rattle.apl_model.specs.declared.scripts.ScriptItem.{ScriptItem}
use Rattle.apl_model.specs.declared.trees.Expr.{Expr, fold-Expr}
use Rattle.apl_model.specs.declared.trees.Expr.TheOpen.{Expr-F}
use Rattle.apl_model.specs.declared.trees.Statement.{Statement}

-- an argument that may be left out
abbrev pub slot_of : Option Tree → Slot
slot_of None = plain.elided
slot_of (Some t) = plain.given t

-- the positions of a subscript
abbrev pub positions_of : List (Option Tree) → Positions
positions_of [] = plain.no_position
positions_of (q ∷ qs) = plain.position (slot_of q) (positions_of qs)

-- one node, with each expression inside already seen as its tree
abbrev pub tree_step : Expr-F Tree → Tree
tree_step (Expr-F.Lit literal p) = plain.constant literal p
tree_step (Expr-F.Name n p) = plain.variable n p
tree_step (Expr-F.Call f left right p) = plain.call f (slot_of left) (slot_of right) p
tree_step (Expr-F.Paren inner p) = plain.parenthesis inner p
tree_step (Expr-F.One f right p) = plain.monadic f right p
tree_step (Expr-F.Two f left right p) = plain.dyadic f left right p
tree_step (Expr-F.Reduce f axis right p) = plain.reduction f axis right p
tree_step (Expr-F.Outer f left right p) = plain.outer_product f left right p
tree_step (Expr-F.Inner f g left right p) = plain.inner_product f g left right p
tree_step (Expr-F.Index array positions p) = plain.subscript array (positions_of positions) p
tree_step (Expr-F.Assign n value p) = plain.assignment n value p
tree_step (Expr-F.IndexAssign n positions value p) = plain.indexed_assignment n (positions_of positions) value p
tree_step (Expr-F.Output value p) = plain.output value p

-- the tree of an expression
abbrev pub tree_of : Expr → Tree
tree_of = fold-Expr Tree tree_step

abbrev pub statement_of : Statement → plain.Statement
statement_of Statement.Nothing = plain.nothing
statement_of (Statement.Branch value p) = plain.branch (tree_of value) p
statement_of (Statement.Value value) = plain.expression (tree_of value)

abbrev pub body_line_of : BodyLine → plain.BodyLine
body_line_of b = record { line = b.line; label = b.label; statement = statement_of b.statement }

abbrev pub definition_of : Definition → plain.Definition
definition_of d = record { opened = d.opened; closed = d.closed; header = d.header; body = map body_line_of d.body }

abbrev pub item_of : ScriptItem → plain.Item
item_of (ScriptItem.Statement line s) = plain.statement_item line (statement_of s)
item_of (ScriptItem.Command line c) = plain.command_item line c
item_of (ScriptItem.Definition d) = plain.definition_item (definition_of d)

abbrev pub script_of : Script → plain.Script
script_of s = record { lines = s.lines; items = map item_of s.items }
