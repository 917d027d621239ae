-- The reader of proofs that the values of the code stand for.
use Rattle.std.specs.Prelude.{List, [], ◌∷◌, Option, None, Some}
use Rattle.apl_model.proofs.Bridge.{slot_with, positions_with}
use Rattle.apl_model.proofs.Machine as machine
use Rattle.apl_model.specs.Mirror.{tree_of, statement_of}
use Rattle.apl_model.specs.Tree as plain
use Rattle.apl_model.specs.declared.trees.Statement.{Statement}
use Rattle.apl_tree.specs.declared.opens.Bracket.{Bracket}
use Rattle.apl_tree.specs.declared.opens.Bracket.TheVariants as bracket
use Rattle.apl_tree.specs.declared.opens.Closed.{Closed}
use Rattle.apl_tree.specs.declared.opens.Open.{Open}
use Rattle.apl_tree.specs.declared.opens.Open.TheVariants as open_one
use Rattle.apl_tree.specs.declared.opens.Opens.{Opens}
use Rattle.apl_tree.specs.declared.reader.Reader.{Reader}
use Rattle.apl_tree.specs.declared.reader.Status.{Status}
use Rattle.apl_tree.specs.declared.reader.Status.TheVariants as status
use Rattle.apl_tree.specs.declared.sorts.Sort.{Sort}
use Rattle.apl_tree.specs.declared.sorts.Sort.TheVariants as sort
use Rattle.apl_tree.specs.declared.waits.Along.{Along}
use Rattle.apl_tree.specs.declared.waits.Along.TheVariants as along
use Rattle.apl_tree.specs.declared.waits.Wait.{Wait}
use Rattle.apl_tree.specs.declared.waits.Wait.TheVariants as wait

-- what a token is to the reader
abbrev pub sort_of : Sort → machine.Sort
sort_of (sort.Literal l) = machine.literal l
sort_of (sort.Named n k) = machine.named n k
sort_of (sort.Scalar f m) = machine.scalar f m
sort_of (sort.Plain f g) = machine.plain f g
sort_of sort.Turn = machine.turn
sort_of sort.Slash = machine.slash
sort_of sort.SlashFirst = machine.slash_first
sort_of sort.Backslash = machine.backslash
sort_of sort.Jot = machine.jot
sort_of sort.Dot = machine.dot
sort_of sort.Assign = machine.assign
sort_of sort.Arrow = machine.arrow
sort_of sort.Quad = machine.quad
sort_of sort.OpenParen = machine.open_paren
sort_of sort.CloseParen = machine.close_paren
sort_of sort.OpenBracket = machine.open_bracket
sort_of sort.CloseBracket = machine.close_bracket
sort_of sort.Semicolon = machine.semicolon
sort_of sort.Other = machine.other

-- a form that waits for its right argument
abbrev pub wait_of : Wait → machine.Wait
wait_of (wait.Call f left p) = machine.for_call f (slot_with left) p
wait_of (wait.One f p) = machine.for_monadic f p
wait_of (wait.Two f left p) = machine.for_dyadic f (tree_of left) p
wait_of (wait.Reduce f x p) = machine.for_reduction f x p
wait_of (wait.Outer f left p) = machine.for_outer f (tree_of left) p
wait_of (wait.Inner f g left p) = machine.for_inner f g (tree_of left) p
wait_of (wait.Assign n p) = machine.for_assignment n p
wait_of (wait.IndexAssign n qs p) = machine.for_indexed n (positions_with qs) p
wait_of (wait.Output p) = machine.for_output p

-- what takes an axis in brackets
abbrev pub along_of : Along → machine.Along
along_of (along.Reduces f p) = machine.reduces f p
along_of (along.Reverses p) = machine.reverses p
along_of (along.Rotates left p) = machine.rotates (tree_of left) p
along_of (along.Compresses left p) = machine.compresses (tree_of left) p
along_of (along.Expands left p) = machine.expands (tree_of left) p

-- a bracket above what is open
abbrev pub bracket_on : Bracket → machine.Stack → machine.Stack
bracket_on (bracket.Parenthesis p) o = machine.in_parenthesis p o
bracket_on (bracket.Subscript a qs p) o = machine.in_subscript (tree_of a) (positions_with qs) p o

-- a form that waits, or a bracket, above what is open
abbrev pub open_on : Open → machine.Stack → machine.Stack
open_on (open_one.Waiting w) o = machine.waiting (wait_of w) o
open_on (open_one.Inside b) o = bracket_on b o

-- all of these above what is open, the innermost last
abbrev pub all_on : machine.Stack → List Open → machine.Stack
all_on o [] = o
all_on o (w ∷ ws) = all_on (open_on w o) ws

-- all that is open, above the bottom of the statement
abbrev pub stack_of : Opens → machine.Stack
stack_of o = all_on (machine.bottom o.branch) o.items

-- the bracket, or the bottom
abbrev pub bracket_or_bottom : Option Bracket → Opens → machine.Stack
bracket_or_bottom None o = machine.bottom o.branch
bracket_or_bottom (Some b) o = bracket_on b (stack_of o)

-- a complete expression, and what it stands in
abbrev pub wound_of : Closed → machine.Wound
wound_of w = record { tree = tree_of w.tree; stack = bracket_or_bottom w.bracket w.opens }

-- what stands last
abbrev pub status_of : Status → machine.Status
status_of status.First = machine.first
status_of status.Must = machine.must
status_of status.May = machine.may
status_of (status.Operand e) = machine.operand (tree_of e)
status_of (status.GlyphFirst f m p) = machine.glyph_first f m p
status_of (status.GlyphAfter f left p) = machine.glyph_after f (tree_of left) p
status_of (status.AxisOrNone a) = machine.axis_or_none (along_of a)
status_of (status.AxisOpened a) = machine.axis_opened (along_of a)
status_of (status.AxisGiven a x) = machine.axis_given (along_of a) x
status_of (status.AfterJot left p) = machine.after_jot (tree_of left) p
status_of (status.AfterJotDot left p) = machine.after_jot_dot (tree_of left) p
status_of (status.AfterDot f left p) = machine.after_dot f (tree_of left) p
status_of (status.AfterQuad p) = machine.after_quad p

-- what is open, and what stands last
abbrev pub reader_of : Reader → machine.State
reader_of r = machine.state (stack_of r.opens) (status_of r.status)

-- the reader after a token, or none where the token stops it
abbrev pub reading_of : Option Reader → Option machine.State
reading_of None = None
reading_of (Some r) = Some (reader_of r)

-- the statement at the end, or none where the tokens may not end there
abbrev pub ending_of : Option Statement → Option plain.Statement
ending_of None = None
ending_of (Some s) = Some (statement_of s)
