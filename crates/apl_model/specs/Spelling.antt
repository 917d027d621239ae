-- Which tokens a tree spells, and where.
use Rattle.std.specs.Prelude.{◌≡◌, ℕ, List, [], ◌∷◌, ◌++◌, Option, Some, None, codes}
use Rattle.apl_base.specs.declared.cells.Kind.TheVariants as kind
use Rattle.apl_base.specs.declared.faults.Place.{Place}
use Rattle.apl_base.specs.declared.rows.Dya.{Dya}
use Rattle.apl_base.specs.declared.rows.Dya.TheVariants as dya
use Rattle.apl_base.specs.declared.rows.Mon.{Mon}
use Rattle.apl_base.specs.declared.rows.Mon.TheVariants as mon
use Rattle.apl_model.specs.Characters.{code}
use Rattle.apl_model.specs.Tree.{Tree, constant, variable, call, parenthesis, monadic, dyadic, reduction, outer_product, inner_product, subscript, assignment, indexed_assignment, output, Slot, elided, given, Positions, no_position, position, Statement, nothing, branch, expression}
use Rattle.apl_model.specs.declared.functions.Axis.{Axis}
use Rattle.apl_model.specs.declared.functions.Axis.TheVariants as axis
use Rattle.apl_model.specs.declared.functions.DyaFn.{DyaFn}
use Rattle.apl_model.specs.declared.functions.DyaFn.TheVariants as two
use Rattle.apl_model.specs.declared.functions.MonFn.{MonFn}
use Rattle.apl_model.specs.declared.functions.MonFn.TheVariants as one
use Rattle.apl_model.specs.declared.scripts.Command.{Command}
use Rattle.apl_model.specs.declared.scripts.Command.TheVariants as command
use Rattle.apl_model.specs.declared.scripts.Header.{Header}
use Rattle.apl_model.specs.declared.tokens.Token.{Token}
use Rattle.apl_model.specs.declared.tokens.Word.{Word}
use Rattle.apl_model.specs.declared.tokens.Word.TheVariants as word
use Rattle.apl_model.specs.declared.trees.Literal.{Literal}
use Prim.Native.String.{String}

-- what a tree says of one of its tokens: the word, and for some the place too
pub data Mark : Type 0 where
  at : Place → Word → Mark
  some : Word → Mark

-- the token of a glyph
abbrev pub glyph : String → Word
glyph s = word.Glyph (code s)

-- the glyph of a scalar function
abbrev pub mon_glyph : Mon → Word
mon_glyph mon.Plus = glyph "+"
mon_glyph mon.Minus = glyph "-"
mon_glyph mon.Sign = glyph "×"
mon_glyph mon.Recip = glyph "÷"
mon_glyph mon.Ceil = glyph "⌈"
mon_glyph mon.Floor = glyph "⌊"
mon_glyph mon.Abs = glyph "|"
mon_glyph mon.Not = glyph "~"
mon_glyph mon.Fact = glyph "!"

abbrev pub dya_glyph : Dya → Word
dya_glyph dya.Add = glyph "+"
dya_glyph dya.Sub = glyph "-"
dya_glyph dya.Mul = glyph "×"
dya_glyph dya.Div = glyph "÷"
dya_glyph dya.Pow = glyph "*"
dya_glyph dya.Max = glyph "⌈"
dya_glyph dya.Min = glyph "⌊"
dya_glyph dya.Residue = glyph "|"
dya_glyph dya.And = glyph "∧"
dya_glyph dya.Or = glyph "∨"
dya_glyph dya.Nand = glyph "⍲"
dya_glyph dya.Nor = glyph "⍱"
dya_glyph dya.Lt = glyph "<"
dya_glyph dya.Le = glyph "≤"
dya_glyph dya.Eq = glyph "="
dya_glyph dya.Ge = glyph "≥"
dya_glyph dya.Gt = glyph ">"
dya_glyph dya.Ne = glyph "≠"

-- a function's glyph at its place, by its axis: the glyph for the last axis, that for the first one, or the
-- glyph for the last axis and the number in brackets
abbrev pub along : String → String → Axis → Place → List Mark
along last first axis.Last p = at p (glyph last) ∷ []
along last first axis.First p = at p (glyph first) ∷ []
along last first (axis.Numbered k) p =
    at p (glyph last) ∷ some (glyph "[") ∷ some (word.Numbers (k ∷ [])) ∷ some (glyph "]") ∷ []

abbrev pub monadic_marks : MonFn → Place → List Mark
monadic_marks (one.Scalar f) p = at p (mon_glyph f) ∷ []
monadic_marks one.Iota p = at p (glyph "⍳") ∷ []
monadic_marks one.Shape p = at p (glyph "⍴") ∷ []
monadic_marks one.Ravel p = at p (glyph ",") ∷ []
monadic_marks (one.Reverse x) p = along "⌽" "⊖" x p
monadic_marks one.Transpose p = at p (glyph "⍉") ∷ []
monadic_marks one.GradeUp p = at p (glyph "⍋") ∷ []
monadic_marks one.GradeDown p = at p (glyph "⍒") ∷ []

abbrev pub dyadic_marks : DyaFn → Place → List Mark
dyadic_marks (two.Scalar f) p = at p (dya_glyph f) ∷ []
dyadic_marks two.Reshape p = at p (glyph "⍴") ∷ []
dyadic_marks two.Catenate p = at p (glyph ",") ∷ []
dyadic_marks (two.Rotate x) p = along "⌽" "⊖" x p
dyadic_marks two.Transpose p = at p (glyph "⍉") ∷ []
dyadic_marks two.Take p = at p (glyph "↑") ∷ []
dyadic_marks two.Skip p = at p (glyph "↓") ∷ []
dyadic_marks (two.Compress x) p = along "/" "⌿" x p
dyadic_marks (two.Expand x) p = along "\\" "⍀" x p
dyadic_marks two.IndexOf p = at p (glyph "⍳") ∷ []
dyadic_marks two.Member p = at p (glyph "∈") ∷ []
dyadic_marks two.Encode p = at p (glyph "⊤") ∷ []
dyadic_marks two.Decode p = at p (glyph "⊥") ∷ []

-- the token of a literal
abbrev pub literal_word : Literal → Word
literal_word l = elim (l.kind) [ kind.Num ↦ word.Numbers l.cells | kind.Char ↦ word.Chars l.cells ]

abbrev mutual
  -- the marks of an expression. Its places: a literal's, a name's, a call's and an assignment's first
  -- character, ( of a parenthesis, a function's glyph, / or ⌿ of a reduction, ∘ of an outer and . of an inner
  -- product, [ of a subscript and of an indexed assignment, ⎕ of an output
  pub spelling : Tree → List Mark
  spelling (constant l p) = at p (literal_word l) ∷ []
  spelling (variable n p) = at p (word.Name n) ∷ []
  spelling (call f left right p) = slot_spelling left ++ (at p (word.Name f) ∷ slot_spelling right)
  spelling (parenthesis e p) = at p (glyph "(") ∷ (spelling e ++ (some (glyph ")") ∷ []))
  spelling (monadic f right p) = monadic_marks f p ++ spelling right
  spelling (dyadic f left right p) = spelling left ++ (dyadic_marks f p ++ spelling right)
  spelling (reduction f x right p) = some (dya_glyph f) ∷ (along "/" "⌿" x p ++ spelling right)
  spelling (outer_product f left right p) = spelling left ++ (at p (glyph "∘") ∷ some (glyph ".") ∷ some (dya_glyph f) ∷ spelling right)
  spelling (inner_product f g left right p) = spelling left ++ (some (dya_glyph f) ∷ at p (glyph ".") ∷ some (dya_glyph g) ∷ spelling right)
  spelling (subscript array qs p) = spelling array ++ (position_spelling (at p (glyph "[")) qs ++ (some (glyph "]") ∷ []))
  spelling (assignment n value p) = at p (word.Name n) ∷ some (glyph "←") ∷ spelling value
  spelling (indexed_assignment n qs value p) =
      some (word.Name n) ∷ (position_spelling (at p (glyph "[")) qs ++ (some (glyph "]") ∷ some (glyph "←") ∷ spelling value))
  spelling (output value p) = at p (glyph "⎕") ∷ some (glyph "←") ∷ spelling value

  -- nothing where it is left out
  pub slot_spelling : Slot → List Mark
  slot_spelling elided = []
  slot_spelling (given e) = spelling e

  -- positions, each after a mark: the first after [, the others after ;
  pub position_spelling : Mark → Positions → List Mark
  position_spelling lead no_position = []
  position_spelling lead (position q qs) = lead ∷ (slot_spelling q ++ position_spelling (some (glyph ";")) qs)

-- the place of a branch is that of its →
abbrev pub statement_spelling : Statement → List Mark
statement_spelling nothing = []
statement_spelling (branch e p) = at p (glyph "→") ∷ spelling e
statement_spelling (expression e) = spelling e

-- a line of a body: a label and : where it has one, then the statement
abbrev pub body_spelling : Option (List ℕ) → Statement → List Mark
body_spelling None s = statement_spelling s
body_spelling (Some label) s = some (word.Name label) ∷ some (glyph ":") ∷ statement_spelling s

abbrev pub name_marks : List (List ℕ) → List Mark
name_marks [] = []
name_marks (n ∷ ns) = some (word.Name n) ∷ name_marks ns

abbrev pub command_spelling : Command → List Mark
command_spelling command.Vars = some (glyph ")") ∷ name_marks (codes "VARS" ∷ [])
command_spelling command.Fns = some (glyph ")") ∷ name_marks (codes "FNS" ∷ [])
command_spelling (command.Erase ns) = some (glyph ")") ∷ name_marks (codes "ERASE" ∷ ns)
command_spelling (command.Origin o) = some (glyph ")") ∷ some (word.Name (codes "ORIGIN")) ∷ some (word.Numbers (o ∷ [])) ∷ []

-- names that each stand after a ;
abbrev pub local_marks : List (List ℕ) → List Mark
local_marks [] = []
local_marks (n ∷ ns) = some (glyph ";") ∷ some (word.Name n) ∷ local_marks ns

-- the result with its ←
abbrev pub result_marks : Option (List ℕ) → List Mark
result_marks None = []
result_marks (Some z) = some (word.Name z) ∷ some (glyph "←") ∷ []

abbrev pub argument_marks : Option (List ℕ) → List Mark
argument_marks None = []
argument_marks (Some x) = some (word.Name x) ∷ []

-- a header up to its function's own name: ∇, the result with its ← and the left argument
abbrev pub before_own_name : Header → List Mark
before_own_name h = some (glyph "∇") ∷ (result_marks h.result ++ argument_marks h.left)

-- the first line of a definition
abbrev pub header_spelling : Header → List Mark
header_spelling h = before_own_name h ++ (some (word.Name h.f) ∷ (argument_marks h.right ++ local_marks h.locals))

-- a mark fits a token of the line of this number
abbrev pub Fits : ℕ → Mark → Token → Type 0
Fits line (at p w) t = (p ≡ record { line = line; column = t.from }) × (w ≡ t.word)
Fits line (some w) t = w ≡ t.word

-- the marks fit the tokens of the line of this number, one by one
abbrev pub Spell : ℕ → List Mark → List Token → Type 0
Spell line [] [] = Unit {0}
Spell line [] (t ∷ ts) = ⊥
Spell line (m ∷ ms) [] = ⊥
Spell line (m ∷ ms) (t ∷ ts) = Fits line m t × Spell line ms ts
