-- The compiled program of a script: its outline, and the code of each statement, in the order of lines.
use Rattle.std.specs.Prelude.{ℕ, List, [], ◌∷◌, ◌++◌, map}
use Rattle.apl_model.specs.declared.outlines.Outline.{Outline}
use Rattle.apl_model.specs.declared.outlines.OutlineBody.{OutlineBody}
use Rattle.apl_model.specs.declared.outlines.OutlineItem.{OutlineItem}
use Rattle.apl_model.specs.declared.outlines.OutlineItem.TheVariants as outline
use Rattle.apl_model.specs.declared.outlines.OutlineLine.{OutlineLine}
use Rattle.apl_model.specs.declared.tokens.Line.{Line}
use Rattle.apl_model.specs.Tree.{BodyLine, Item, statement_item, command_item, definition_item, Script, Statement}
use Rattle.apl_compile.specs.declared.codes.Code.{Code}
use Rattle.apl_compile.specs.Code.{code_on}

-- what contracts see of a program
pub record ProgramView : Type 0 where
  pub outline : Outline
  pub codes : List Code

-- ---- the outline: a script without its trees and tokens

abbrev pub outline_line : Line → OutlineLine
outline_line l = record { number = l.number; text = l.text }

abbrev pub outline_body : BodyLine → OutlineBody
outline_body l = record { line = l.line; label = l.label }

abbrev pub outline_item : Item → OutlineItem
outline_item (statement_item line s) = outline.Statement line
outline_item (command_item line c) = outline.Command line c
outline_item (definition_item d) = outline.Definition d.opened d.closed d.header (map outline_body d.body)

abbrev pub outline_of : Script → Outline
outline_of s = record { lines = map outline_line s.lines; items = map outline_item s.items }

-- ---- the codes

-- the code of a statement that stands on a line
abbrev pub compiled : ℕ → Statement → Code
compiled line s = record { instructions = code_on line s }

-- the codes of an item: of a definition those of the lines of its body
abbrev pub codes_in : Item → List Code
codes_in (statement_item line s) = compiled line s ∷ []
codes_in (command_item line c) = []
codes_in (definition_item d) = map (λ l. compiled l.line l.statement) d.body

abbrev pub codes_of : List Item → List Code
codes_of [] = []
codes_of (i ∷ is) = codes_in i ++ codes_of is

-- the compiled program of a script
abbrev pub program_of : Script → ProgramView
program_of s = record { outline = outline_of s; codes = codes_of s.items }
