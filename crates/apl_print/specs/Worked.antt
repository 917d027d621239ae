-- Arrays and scripts of worked examples.
use Rattle.std.specs.Prelude.{ℕ, ℤ, pos, List, [], ◌∷◌, length, map, codes, None}
use Prim.Native.String.{String}
use Rattle.apl_base.specs.declared.cells.Kind.TheVariants.{Num, Char}
use Rattle.apl_base.specs.declared.faults.Place.{Place}
use Rattle.apl_base.specs.Array.{Array}
use Rattle.apl_model.specs.declared.scripts.Header.{Header}
use Rattle.apl_model.specs.declared.tokens.Line.{Line}
use Rattle.apl_model.specs.Printed.{array_text}
use Rattle.apl_model.specs.Tree.{BodyLine, Definition, definition_item, nothing, Script}

-- the texts of an array of numbers, and of one of characters
abbrev pub numbers_text : List ℕ → List ℤ → List ℕ
numbers_text lengths cells = let a : Array = record { kind = Num; shape = lengths; cells = cells } in array_text a

abbrev pub characters_text : List ℕ → String → List ℕ
characters_text lengths text = let a : Array = record { kind = Char; shape = lengths; cells = map pos (codes text) } in array_text a

abbrev pub place : ℕ → ℕ → Place
place line column = record { line = line; column = column }

abbrev pub written : ℕ → List ℕ → Line
written number text = record { number = number; text = text; tokens = [] }

abbrev pub body_line : ℕ → BodyLine
body_line line = record { line = line; label = None; statement = nothing }

-- a function without arguments and without a result, whose body begins on line 2
abbrev pub function : List ℕ → List BodyLine → Definition
function name body = record {
  opened = 1;
  closed = 4;
  header = record { f = name; result = None; left = None; right = None; locals = [] };
  body = body;
}

-- lines outside definitions, and lines of the body of a function
abbrev pub script : Script
script = record {
  lines = written 1 (codes "∇∆F") ∷ written 2 (codes "A←1") ∷ written 3 (codes "1÷0") ∷ written 4 (codes "∇")
      ∷ written 5 (codes "2+1÷0 ⍝ no") ∷ written 6 (codes "A⍝\rB") ∷ [];
  items = definition_item (function (codes "∆F") (body_line 2 ∷ body_line 3 ∷ [])) ∷ [];
}
