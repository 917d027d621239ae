-- Scripts: calls and turns.
use Rattle.std.specs.Prelude.{◌∷◌, [], Some, None, codes}
use Rattle.apl_base.specs.declared.rows.Dya.TheVariants as dya
use Rattle.apl_model.specs.declared.functions.Axis.TheVariants as axis
use Rattle.apl_model.specs.declared.functions.DyaFn.TheVariants as two
use Rattle.apl_model.specs.declared.functions.MonFn.TheVariants as one
use Rattle.apl_model.specs.declared.scripts.Command.TheVariants.{Fns}
use Rattle.apl_model.specs.Tree.{Script, parenthesis, monadic, dyadic, reduction, elided, given, branch, expression, statement_item, command_item}
use Rattle.apl_model_examples.specs.Sums.{two_numbers_are_added}
use Rattle.apl_model_examples.specs.Words.{script, at, number, numbers, text, name, calls, sets, writes, positions, label, unlabelled, body_line, header, definition}

-- a call writes a global name; the value to its right keeps what the name had
abbrev pub a_call_writes_a_global : Script
a_call_writes_a_global = script ("∇Z←F X" ∷ "A[1]←9" ∷ "Z←0" ∷ "∇" ∷ "A←1 2" ∷ "(F 0)+A×10" ∷ "A" ∷ [])
    (definition 1 4 (header (Some (codes "Z")) None "F" (Some (codes "X")) [])
    (body_line 2 unlabelled (expression (writes "A" (positions (given (number 1 (at 2 3)) ∷ [])) (number 9 (at 2 6)) (at 2 2)))
    ∷ body_line 3 unlabelled (expression (sets "Z" (number 0 (at 3 3)) (at 3 1)))
    ∷ [])
    ∷ statement_item 5 (expression (sets "A" (numbers (1 ∷ 2 ∷ []) (at 5 3)) (at 5 1)))
    ∷ statement_item 6
    (expression
    (dyadic (two.Scalar dya.Add)
    (parenthesis (calls "F" elided (given (number 0 (at 6 4))) (at 6 2)) (at 6 1))
    (dyadic (two.Scalar dya.Mul) (name "A" (at 6 7)) (number 10 (at 6 9)) (at 6 8)) (at 6 6)))
    ∷ statement_item 7 (expression (name "A" (at 7 1)))
    ∷ [])

-- an average
abbrev pub the_average_of_three_numbers : Script
the_average_of_three_numbers = script ("∇Z←AVG X" ∷ "Z←(+/X)÷⍴X" ∷ "∇" ∷ "AVG 2 4 6" ∷ [])
    (definition 1 3 (header (Some (codes "Z")) None "AVG" (Some (codes "X")) [])
    (body_line 2 unlabelled
    (expression
    (sets "Z"
    (dyadic (two.Scalar dya.Div)
    (parenthesis (reduction dya.Add axis.Last (name "X" (at 2 6)) (at 2 5)) (at 2 3))
    (monadic one.Shape (name "X" (at 2 10)) (at 2 9)) (at 2 8)) (at 2 1)))
    ∷ [])
    ∷ statement_item 4 (expression (calls "AVG" elided (given (numbers (2 ∷ 4 ∷ 6 ∷ []) (at 4 5))) (at 4 1)))
    ∷ [])

-- a name is that of the innermost call that declares it
abbrev pub a_name_is_that_of_the_innermost_call : Script
a_name_is_that_of_the_innermost_call = script ("∇G" ∷ "X←X+1" ∷ "∇" ∷ "∇Z←F X" ∷ "G" ∷ "Z←X" ∷ "∇" ∷ "F 4" ∷ [])
    (definition 1 3 (header None None "G" None [])
    (body_line 2 unlabelled (expression (sets "X" (dyadic (two.Scalar dya.Add) (name "X" (at 2 3)) (number 1 (at 2 5)) (at 2 4)) (at 2 1)))
    ∷ [])
    ∷ definition 4 7 (header (Some (codes "Z")) None "F" (Some (codes "X")) [])
    (body_line 5 unlabelled (expression (calls "G" elided elided (at 5 1)))
    ∷ body_line 6 unlabelled (expression (sets "Z" (name "X" (at 6 3)) (at 6 1)))
    ∷ [])
    ∷ statement_item 8 (expression (calls "F" elided (given (number 4 (at 8 3))) (at 8 1)))
    ∷ [])

-- a loop by a label and a branch
abbrev pub a_loop_adds_up : Script
a_loop_adds_up = script ("∇Z←SUM N;I" ∷ "Z←0" ∷ "I←1" ∷ "L:Z←Z+I" ∷ "I←I+1" ∷ "→L×I≤N" ∷ "∇" ∷ "SUM 4" ∷ [])
    (definition 1 7 (header (Some (codes "Z")) None "SUM" (Some (codes "N")) ("I" ∷ []))
    (body_line 2 unlabelled (expression (sets "Z" (number 0 (at 2 3)) (at 2 1)))
    ∷ body_line 3 unlabelled (expression (sets "I" (number 1 (at 3 3)) (at 3 1)))
    ∷ body_line 4 (label "L") (expression (sets "Z" (dyadic (two.Scalar dya.Add) (name "Z" (at 4 5)) (name "I" (at 4 7)) (at 4 6)) (at 4 3)))
    ∷ body_line 5 unlabelled (expression (sets "I" (dyadic (two.Scalar dya.Add) (name "I" (at 5 3)) (number 1 (at 5 5)) (at 5 4)) (at 5 1)))
    ∷ body_line 6 unlabelled
    (branch
    (dyadic (two.Scalar dya.Mul) (name "L" (at 6 2)) (dyadic (two.Scalar dya.Le) (name "I" (at 6 4)) (name "N" (at 6 6)) (at 6 5)) (at 6 3)) (at 6 1))
    ∷ [])
    ∷ statement_item 8 (expression (calls "SUM" elided (given (number 4 (at 8 5))) (at 8 1)))
    ∷ [])

-- a loop without end takes all turns; the run ends without a report
abbrev pub a_loop_without_end : Script
a_loop_without_end = script ("∇F" ∷ "L:→L" ∷ "∇" ∷ "F" ∷ [])
    (definition 1 3 (header None None "F" None [])
    (body_line 2 (label "L") (branch (name "L" (at 2 4)) (at 2 3))
    ∷ [])
    ∷ statement_item 4 (expression (calls "F" elided elided (at 4 1)))
    ∷ [])

-- with no turn at all no statement is begun
abbrev pub no_turn_at_all : Script
no_turn_at_all = two_numbers_are_added

-- commands and definitions take no turn, nor do lines without tokens
abbrev pub commands_and_definitions_take_no_turn : Script
commands_and_definitions_take_no_turn = script ("" ∷ "∇F" ∷ "∇" ∷ ")FNS" ∷ "⍝ 2+3" ∷ [])
    (definition 2 3 (header None None "F" None []) []
    ∷ command_item 4 Fns
    ∷ [])

-- a branch to a character is a DOMAIN ERROR
abbrev pub a_branch_to_a_character : Script
a_branch_to_a_character = script ("→'A'" ∷ [])
    (statement_item 1 (branch (text "A" (at 1 2)) (at 1 1))
    ∷ [])

-- 256 calls may be pending, and the next is a DEPTH ERROR
abbrev pub a_call_too_deep : Script
a_call_too_deep = script ("∇F" ∷ "F" ∷ "∇" ∷ "F" ∷ [])
    (definition 1 3 (header None None "F" None [])
    (body_line 2 unlabelled (expression (calls "F" elided elided (at 2 1)))
    ∷ [])
    ∷ statement_item 4 (expression (calls "F" elided elided (at 4 1)))
    ∷ [])

-- a call without a result is no argument
abbrev pub a_call_without_a_result : Script
a_call_without_a_result = script ("∇F X" ∷ "∇" ∷ "1+F 2" ∷ [])
    (definition 1 2 (header None None "F" (Some (codes "X")) []) []
    ∷ statement_item 3 (expression (dyadic (two.Scalar dya.Add) (number 1 (at 3 1)) (calls "F" elided (given (number 2 (at 3 5))) (at 3 3)) (at 3 2)))
    ∷ [])
