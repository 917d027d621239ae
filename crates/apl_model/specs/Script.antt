-- What the lines of a script are: statements, commands and definitions.
use Rattle.std.specs.Prelude.{◌≡◌, ℕ, ◌+◌, ◌==◌, true, false, Bool, List, [], ◌∷◌, Option, Some, None, codes}
use Rattle.std.specs.List.{AllZip}
use Prim.Native.String.{String}
use Rattle.apl_model.specs.Characters.{code}
use Rattle.apl_model.specs.Environment.{is_same_name}
use Rattle.apl_model.specs.Grammar.{IsStatement, IsCommand, IsHeader, IsLabel}
use Rattle.apl_model.specs.Spelling.{Spell, statement_spelling, body_spelling, command_spelling, header_spelling}
use Rattle.apl_model.specs.Tree.{Statement, BodyLine, Definition, Item, statement_item, command_item, definition_item, Script}
use Rattle.apl_model.specs.declared.scripts.Command.{Command}
use Rattle.apl_model.specs.declared.scripts.Header.{Header}
use Rattle.apl_model.specs.declared.tokens.Heading.{Heading}
use Rattle.apl_model.specs.declared.tokens.Line.{Line}
use Rattle.apl_model.specs.declared.tokens.Token.{Token}
use Rattle.apl_model.specs.declared.tokens.Word.TheVariants as word

-- whether a token is the glyph of this code
abbrev pub has_glyph : ℕ → Token → Bool
has_glyph glyph t = elim (t.word) [ word.Glyph c ↦ c == glyph | _ ↦ false ]

-- whether a token is this glyph
abbrev pub is_glyph_token : String → Token → Bool
is_glyph_token g t = has_glyph (code g) t

-- whether a token is this name
abbrev pub is_name_token : String → Token → Bool
is_name_token s t = elim (t.word) [ word.Name n ↦ is_same_name n (codes s) | _ ↦ false ]

-- the name that a token is
abbrev pub name_of_token : Token → Option (List ℕ)
name_of_token t = elim (t.word) [ word.Name n ↦ Some n | _ ↦ None ]

-- tokens that open a definition, where none is open: ∇ and more; and tokens that close one: ∇ alone
abbrev pub opens : List Token → Bool
opens [] = false
opens (t ∷ []) = false
opens (t ∷ u ∷ ts) = is_glyph_token "∇" t

abbrev pub closes : List Token → Bool
closes [] = false
closes (t ∷ []) = is_glyph_token "∇" t
closes (t ∷ u ∷ ts) = false

abbrev pub is_empty : List Token → Bool
is_empty [] = true
is_empty (t ∷ ts) = false

-- a part of a script: a line outside definitions that has tokens, or a definition: its first line, its body,
-- and the line that closes it, where there is one
pub data Part : Type 0 where
  alone : Line → Part
  defined : Line → List Line → Option Line → Part

-- the rest of a definition, and the parts after it
pub record Inside : Type 0 where
  pub body : List Line
  pub last : Option Line
  pub after : List Part

abbrev mutual
  -- the parts of a script, from lines on that no open definition stands before
  pub parts : List Line → List Part
  parts [] = []
  parts (l ∷ ls) = elim (is_empty l.tokens) [
    | true ↦ parts ls
    | false ↦ elim (opens l.tokens) [
      | true ↦ let i = inside ls in defined l i.body i.last ∷ i.after
      | false ↦ alone l ∷ parts ls
    ]
  ]

  -- the lines after the first one of a definition
  pub inside : List Line → Inside
  inside [] = record { body = []; last = None; after = [] }
  inside (l ∷ ls) = elim (closes l.tokens) [
    | true ↦ record { body = []; last = Some l; after = parts ls }
    | false ↦ let i = inside ls in record { body = l ∷ i.body; last = i.last; after = i.after }
  ]

-- how many arguments a header has, and the class that it gives its name
abbrev pub count : Option (List ℕ) → ℕ
count None = 0
count (Some n) = 1

abbrev pub heading_of : Header → Heading
heading_of h = record { name = h.f; arguments = count h.left + count h.right }

-- a line is the first one of a definition, with this header
pub record IsHeadOf (l : Line) (h : Header) : Type 0 where
  pub header : IsHeader h
  pub spells : Spell l.number (header_spelling h) l.tokens

-- the classes of names that the definitions of a script give
abbrev pub headings : List Item → List Heading
headings [] = []
headings (statement_item n s ∷ is) = headings is
headings (command_item n c ∷ is) = headings is
headings (definition_item d ∷ is) = heading_of d.header ∷ headings is

-- a line is a line of a body, with this label and statement
pub record IsBodyLine (hs : List Heading) (l : Line) (b : BodyLine) : Type 0 where
  pub number : b.line ≡ l.number
  pub label : IsLabel hs b.label
  pub statement : IsStatement hs b.statement
  pub spells : Spell l.number (body_spelling b.label b.statement) l.tokens

pub record IsStatementLine (hs : List Heading) (l : Line) (n : ℕ) (s : Statement) : Type 0 where
  pub number : n ≡ l.number
  pub statement : IsStatement hs s
  pub spells : Spell l.number (statement_spelling s) l.tokens

pub record IsCommandLine (l : Line) (n : ℕ) (c : Command) : Type 0 where
  pub number : n ≡ l.number
  pub command : IsCommand c
  pub spells : Spell l.number (command_spelling c) l.tokens

pub record IsDefinition (hs : List Heading) (first : Line) (ls : List Line) (last : Line) (d : Definition) : Type 0 where
  pub opened : d.opened ≡ first.number
  pub closed : d.closed ≡ last.number
  pub head : IsHeadOf first d.header
  pub body : AllZip (IsBodyLine hs) ls d.body

-- an item of the script is that of a part
abbrev pub IsItem : List Heading → Part → Item → Type 0
IsItem hs (alone l) (statement_item n s) = IsStatementLine hs l n s
IsItem hs (alone l) (command_item n c) = IsCommandLine l n c
IsItem hs (alone l) (definition_item d) = ⊥
IsItem hs (defined first body (Some last)) (definition_item d) = IsDefinition hs first body last d
IsItem hs (defined first body (Some last)) (statement_item n s) = ⊥
IsItem hs (defined first body (Some last)) (command_item n c) = ⊥
IsItem hs (defined first body None) i = ⊥

-- these lines have this tree, a script: its items are those of its parts. A name that heads a definition is that
-- function in the whole script
pub record IsScript (ls : List Line) (s : Script) : Type 0 where
  pub lines : s.lines ≡ ls
  pub items : AllZip (IsItem (headings s.items)) (parts ls) s.items
