-- The words in which the examples are written: the lines of a script, its trees, and what comes of it.
use Rattle.std.specs.Prelude.{◌≡◌, ℕ, ℤ, pos, neg_ℤ, List, [], ◌∷◌, ◌++◌, Option, Some, None, map, reverse, codes, encode_utf8_all}
use Rattle.std.specs.List.{AllByRecursion}
use Prim.Native.String.{String}
use Rattle.apl_base.specs.declared.cells.Kind.TheVariants.{Num, Char}
use Rattle.apl_base.specs.declared.faults.Place.{Place}
use Rattle.apl_base.specs.Array.{Array}
use Rattle.apl_model.specs.declared.scripts.Header.{Header}
use Rattle.apl_base.specs.Selection.{upward}
use Rattle.apl_model.specs.Environment.{Bindings}
use Rattle.apl_model.specs.Evaluation.{Ended}
use Rattle.apl_model.specs.Immediate.{immediate, Immediate, Ending}
use Rattle.apl_model.specs.Lines.{numbered}
use Rattle.apl_model.specs.Printed.{newline}
use Rattle.apl_model.specs.Script.{IsScript}
use Rattle.apl_model.specs.Tree.{Script, Item, Tree, Slot, Positions, Statement, BodyLine, constant, variable, call, assignment, indexed_assignment, no_position, position, definition_item}
use Rattle.apl_model.specs.Whole.{scalar, vector}

-- ---- trees

-- a line of the script and a column of that line, both counted from 1
abbrev pub at : ℕ → ℕ → Place
at line column = record { line = line; column = column }

abbrev pub negative : ℕ → ℤ
negative n = neg_ℤ (pos n)

-- literals: numbers of any sign, numbers of 0 or more, one of these, characters
abbrev pub integers : List ℤ → Place → Tree
integers zs place = constant (record { kind = Num; cells = zs }) place

abbrev pub numbers : List ℕ → Place → Tree
numbers ns place = integers (map pos ns) place

abbrev pub number : ℕ → Place → Tree
number n place = numbers (n ∷ []) place

abbrev pub text : String → Place → Tree
text s place = constant (record { kind = Char; cells = map pos (codes s) }) place

-- the value of a name
abbrev pub name : String → Place → Tree
name s place = variable (codes s) place

-- a call with its left and its right argument
abbrev pub calls : String → Slot → Slot → Place → Tree
calls f left right place = call (codes f) left right place

-- an assignment, and an indexed assignment
abbrev pub sets : String → Tree → Place → Tree
sets s value place = assignment (codes s) value place

abbrev pub writes : String → Positions → Tree → Place → Tree
writes s ps value place = indexed_assignment (codes s) ps value place

abbrev pub positions : List Slot → Positions
positions [] = no_position
positions (q ∷ qs) = position q (positions qs)

-- ---- scripts

abbrev pub unlabelled : Option (List ℕ)
unlabelled = None

abbrev pub label : String → Option (List ℕ)
label s = Some (codes s)

-- a line of a body: its line in the script, its label, its statement
abbrev pub body_line : ℕ → Option (List ℕ) → Statement → BodyLine
body_line line label statement = record { line = line; label = label; statement = statement }

-- a header: the result, the left argument, the function's name, the right argument, the locals
abbrev pub header : Option (List ℕ) → Option (List ℕ) → String → Option (List ℕ) → List String → Header
header result left f right locals = record { f = codes f; result = result; left = left; right = right; locals = map codes locals }

-- a definition: the lines of its two ∇, its header, its body
abbrev pub definition : ℕ → ℕ → Header → List BodyLine → Item
definition opened closed header body = definition_item (record { opened = opened; closed = closed; header = header; body = body })

-- a script: the texts of its lines, and its items
abbrev pub script : List String → List Item → Script
script texts items = record { lines = numbered 1 (map codes texts); items = items }

-- in each of these scripts the items are what the texts of the lines say
abbrev pub AreTheirTexts : List Script → Type 0
AreTheirTexts scripts = AllByRecursion (λ s. IsScript s.lines s) scripts

-- ---- variables that are left

abbrev pub is_set : String → Array → List ℕ × Option Array
is_set s a = (codes s, Some a)

abbrev pub is_unset : String → List ℕ × Option Array
is_unset s = (codes s, None)

abbrev pub number_scalar : ℕ → Array
number_scalar n = scalar Num (pos n)

abbrev pub number_vector : List ℕ → Array
number_vector ns = vector Num (map pos ns)

abbrev pub number_table : ℕ → ℕ → List ℕ → Array
number_table rows columns ns = record { kind = Num; shape = rows ∷ columns ∷ []; cells = map pos ns }

-- ---- what comes of a script

-- the bytes that are printed, how the run ends, and the globals that it leaves
pub record Seen : Type 0 where
  pub bytes : List ℕ
  pub ending : Ending
  pub globals : Bindings Array

abbrev pub seen : Immediate → Seen
seen i = record { bytes = i.bytes; ending = i.ending; globals = i.globals }

-- with so many turns, the script prints this text, ends so, and leaves these globals
abbrev pub RunsWithin : ℕ → Script → String → Ending → Bindings Array → Type 0
RunsWithin turns s text ending globals = seen (immediate s turns) ≡ record { bytes = encode_utf8_all (codes text); ending = ending; globals = globals }

-- 1,000 turns are more than any of the examples takes
abbrev pub Runs : Script → String → Ending → Bindings Array → Type 0
Runs s text ending globals = RunsWithin 1000 s text ending globals

-- ---- the whole of what comes of a script

-- texts as lines that are printed
abbrev pub printed_lines : List String → List ℕ
printed_lines [] = []
printed_lines (t ∷ ts) = codes t ++ newline ++ printed_lines ts

-- a statement that ended: its line, and its number among the statements begun
abbrev pub ended_statement : ℕ × ℕ → Ended
ended_statement s = record { line = s.0; begun = s.1 }

-- with so many turns, the script prints these lines, ends so, leaves these globals and the origin 1, and its
-- statements end in this order
abbrev pub RunsThroughWithin : ℕ → Script → List String → Ending → Bindings Array → List (ℕ × ℕ) → Type 0
RunsThroughWithin turns s lines ending globals ended =
    immediate s turns
    ≡ record {
      bytes = encode_utf8_all (printed_lines lines);
      ending = ending;
      globals = globals;
      origin = pos 1;
      ended = map ended_statement ended;
    }

-- with 1,000 turns
abbrev pub RunsThrough : Script → List String → Ending → Bindings Array → List (ℕ × ℕ) → Type 0
RunsThrough s lines ending globals ended = RunsThroughWithin 1000 s lines ending globals ended

-- the statements of lines 1 to n, where each line is a statement and none makes a call
abbrev pub one_by_one : ℕ → List (ℕ × ℕ)
one_by_one n = map (λ k. (k, k)) (upward 1 n)

-- n statements of one line, which began with the numbers from m up, the last begun first
abbrev pub innermost_first : ℕ → ℕ → ℕ → List (ℕ × ℕ)
innermost_first line m n = map (λ k. (line, k)) (reverse (upward m n))

-- the origin that is left
abbrev pub origin_after : Script → ℤ
origin_after s = (immediate s 1000).origin
