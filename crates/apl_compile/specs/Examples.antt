-- Scripts and the words for their codes.
use Rattle.std.specs.Prelude.{◌≡◌, ℕ, pos, List, [], ◌∷◌, map, Option, Some, None, codes}
use Prim.Native.String.{String}
use Rattle.apl_base.specs.declared.cells.Kind.TheVariants.{Num}
use Rattle.apl_base.specs.declared.rows.Dya.{Dya}
use Rattle.apl_base.specs.declared.rows.Dya.TheVariants as dya
use Rattle.apl_model.specs.declared.functions.Axis.TheVariants as axis
use Rattle.apl_model.specs.declared.functions.DyaFn.TheVariants as two
use Rattle.apl_model.specs.declared.functions.MonFn.TheVariants as one
use Rattle.apl_model.specs.declared.outlines.OutlineBody.{OutlineBody}
use Rattle.apl_model.specs.declared.outlines.OutlineItem.{OutlineItem}
use Rattle.apl_model.specs.Tree.{Script, nothing, branch, expression, parenthesis, monadic, dyadic, reduction, outer_product, inner_product, subscript, output, elided, given, statement_item}
use Rattle.apl_model_examples.specs.Words.{script, at, number, name, calls, sets, writes, positions, unlabelled, label, body_line, header, definition}
use Rattle.apl_compile.specs.declared.codes.Code.{Code}
use Rattle.apl_compile.specs.declared.codes.Instruction.{Instruction}
use Rattle.apl_compile.specs.declared.codes.Op.{Op}
use Rattle.apl_compile.specs.declared.codes.Op.TheVariants as op
use Rattle.apl_compile.specs.Program.{program_of}

-- ---- scripts

-- a sum, whose right argument is a product
abbrev pub a_sum_with_a_product : Script
a_sum_with_a_product = script ("A+2×3" ∷ [])
    (statement_item 1 (expression
    (dyadic (two.Scalar dya.Add)
    (name "A" (at 1 1))
    (dyadic (two.Scalar dya.Mul) (number 2 (at 1 3)) (number 3 (at 1 5)) (at 1 4)) (at 1 2)))
    ∷ [])

-- functions of arrays: of one array in parentheses, and those made of scalar functions
abbrev pub functions_of_arrays : Script
functions_of_arrays = script ("(⍴A)" ∷ "+/A" ∷ "A∘.×B" ∷ "A+.×B" ∷ [])
    (statement_item 1 (expression (parenthesis (monadic one.Shape (name "A" (at 1 3)) (at 1 2)) (at 1 1)))
    ∷ statement_item 2 (expression (reduction dya.Add axis.Last (name "A" (at 2 3)) (at 2 2)))
    ∷ statement_item 3 (expression (outer_product dya.Mul (name "A" (at 3 1)) (name "B" (at 3 5)) (at 3 2)))
    ∷ statement_item 4 (expression (inner_product dya.Add dya.Mul (name "A" (at 4 1)) (name "B" (at 4 5)) (at 4 3)))
    ∷ [])

-- positions, of which some are left out: of a value, and of a name that is written
abbrev pub positions_of_arrays : Script
positions_of_arrays = script ("A[B;;C]" ∷ "A[B;]←C" ∷ [])
    (statement_item 1 (expression
    (subscript (name "A" (at 1 1)) (positions (given (name "B" (at 1 3)) ∷ elided ∷ given (name "C" (at 1 6)) ∷ [])) (at 1 2)))
    ∷ statement_item 2 (expression (writes "A" (positions (given (name "B" (at 2 3)) ∷ elided ∷ [])) (name "C" (at 2 7)) (at 2 2)))
    ∷ [])

-- statements without a print at their end
abbrev pub statements_without_a_print : Script
statements_without_a_print = script ("A←1" ∷ "⎕←1" ∷ "→A" ∷ [])
    (statement_item 1 (expression (sets "A" (number 1 (at 1 3)) (at 1 1)))
    ∷ statement_item 2 (expression (output (number 1 (at 2 3)) (at 2 1)))
    ∷ statement_item 3 (branch (name "A" (at 3 2)) (at 3 1))
    ∷ [])

-- lines of bodies that do nothing, a call that is a whole statement, and one in parentheses
abbrev pub calls_of_two_functions : Script
calls_of_two_functions = script ("∇Z←A F B" ∷ "" ∷ "∇" ∷ "∇Z←G B" ∷ "L:" ∷ "∇" ∷ "A F B" ∷ "(G B)" ∷ [])
    (definition 1 3 (header (Some (codes "Z")) (Some (codes "A")) "F" (Some (codes "B")) []) (body_line 2 unlabelled nothing ∷ [])
    ∷ definition 4 6 (header (Some (codes "Z")) None "G" (Some (codes "B")) []) (body_line 5 (label "L") nothing ∷ [])
    ∷ statement_item 7 (expression (calls "F" (given (name "A" (at 7 1))) (given (name "B" (at 7 5))) (at 7 3)))
    ∷ statement_item 8 (expression (parenthesis (calls "G" elided (given (name "B" (at 8 4))) (at 8 2)) (at 8 1)))
    ∷ [])

-- ---- codes

-- what an instruction does at a column of the line
abbrev pub instruction : ℕ → ℕ × Op → Instruction
instruction line step = record { place = at line (step.0); op = step.1 }

-- the code of the statement on a line
abbrev pub on_line : ℕ → List (ℕ × Op) → Code
on_line line steps = record { instructions = map (instruction line) steps }

-- the script's statements have these codes, in the order of lines
abbrev pub HasCodes : Script → List Code → Type 0
HasCodes s cs = (program_of s).codes ≡ cs

-- numbers, one number, and the value of a name
abbrev pub puts_all : List ℕ → Op
puts_all ns = op.Lit (record { kind = Num; cells = map pos ns })

abbrev pub puts : ℕ → Op
puts n = puts_all (n ∷ [])

abbrev pub reads : String → Op
reads s = op.Name (codes s)

-- a name is given the value
abbrev pub gives : String → Op
gives s = op.Asg (codes s)

-- a scalar function of two arguments
abbrev pub applies : Dya → Op
applies f = op.Dya (two.Scalar f)

-- the end of a statement, and the print of its value before it
abbrev pub ends : List (ℕ × Op)
ends = (0, op.End) ∷ []

abbrev pub prints : List (ℕ × Op)
prints = (0, op.Print) ∷ ends

-- ---- outlines

-- the items of the script's outline
abbrev pub HasItems : Script → List OutlineItem → Type 0
HasItems s is = (program_of s).outline.items ≡ is

-- a line of a body: its line in the script, its label
abbrev pub body_outline : ℕ → Option (List ℕ) → OutlineBody
body_outline line label = record { line = line; label = label }
