-- Scripts: sums and names.
use Rattle.std.specs.Prelude.{◌∷◌, []}
use Rattle.apl_base.specs.declared.rows.Dya.TheVariants as dya
use Rattle.apl_model.specs.declared.functions.DyaFn.TheVariants as two
use Rattle.apl_model.specs.declared.functions.MonFn.TheVariants as one
use Rattle.apl_model.specs.Tree.{Script, parenthesis, monadic, dyadic, subscript, output, given, expression, statement_item}
use Rattle.apl_model_examples.specs.Words.{script, at, number, numbers, name, sets, positions}

-- two numbers are added, and the sum is printed
abbrev pub two_numbers_are_added : Script
two_numbers_are_added = script ("2+3" ∷ [])
    (statement_item 1 (expression (dyadic (two.Scalar dya.Add) (number 2 (at 1 1)) (number 3 (at 1 3)) (at 1 2)))
    ∷ [])

-- an empty script prints nothing
abbrev pub an_empty_script_prints_nothing : Script
an_empty_script_prints_nothing = script [] []

-- vectors of one length go element by element, and one element goes with all
abbrev pub equal_lengths_go_pairwise : Script
equal_lengths_go_pairwise = script ("A←1 2 3" ∷ "A+10" ∷ "A+A" ∷ [])
    (statement_item 1 (expression (sets "A" (numbers (1 ∷ 2 ∷ 3 ∷ []) (at 1 3)) (at 1 1)))
    ∷ statement_item 2 (expression (dyadic (two.Scalar dya.Add) (name "A" (at 2 1)) (number 10 (at 2 3)) (at 2 2)))
    ∷ statement_item 3 (expression (dyadic (two.Scalar dya.Add) (name "A" (at 3 1)) (name "A" (at 3 3)) (at 3 2)))
    ∷ [])

-- the right argument is evaluated before the left one
abbrev pub the_right_argument_comes_first : Script
the_right_argument_comes_first = script ("A←1 2 3" ∷ "A+A←4 5 6" ∷ [])
    (statement_item 1 (expression (sets "A" (numbers (1 ∷ 2 ∷ 3 ∷ []) (at 1 3)) (at 1 1)))
    ∷ statement_item 2 (expression (dyadic (two.Scalar dya.Add) (name "A" (at 2 1)) (sets "A" (numbers (4 ∷ 5 ∷ 6 ∷ []) (at 2 5)) (at 2 3)) (at 2 2)))
    ∷ [])

-- a value that stands to the right keeps what its name had
abbrev pub an_assignment_leaves_earlier_values_alone : Script
an_assignment_leaves_earlier_values_alone = script ("A←1 2" ∷ "(A←5 6)+A×1" ∷ "A" ∷ [])
    (statement_item 1 (expression (sets "A" (numbers (1 ∷ 2 ∷ []) (at 1 3)) (at 1 1)))
    ∷ statement_item 2
    (expression
    (dyadic (two.Scalar dya.Add)
    (parenthesis (sets "A" (numbers (5 ∷ 6 ∷ []) (at 2 4)) (at 2 2)) (at 2 1))
    (dyadic (two.Scalar dya.Mul) (name "A" (at 2 9)) (number 1 (at 2 11)) (at 2 10)) (at 2 8)))
    ∷ statement_item 3 (expression (name "A" (at 3 1)))
    ∷ [])

-- an assignment and an output that are the whole statement print no value, one in parentheses does
abbrev pub an_assignment_prints_in_parentheses_alone : Script
an_assignment_prints_in_parentheses_alone = script ("⎕←A←2 3" ∷ "(A←1)" ∷ [])
    (statement_item 1 (expression (output (sets "A" (numbers (2 ∷ 3 ∷ []) (at 1 5)) (at 1 3)) (at 1 1)))
    ∷ statement_item 2 (expression (parenthesis (sets "A" (number 1 (at 2 4)) (at 2 2)) (at 2 1)))
    ∷ [])

-- an output prints its value, and its statement does not print it again
abbrev pub an_output_prints_its_value_once : Script
an_output_prints_its_value_once = script ("A←(⍳3)+0×⍳3" ∷ "⎕←A[2]+1" ∷ [])
    (statement_item 1
    (expression
    (sets "A"
    (dyadic (two.Scalar dya.Add)
    (parenthesis (monadic one.Iota (number 3 (at 1 5)) (at 1 4)) (at 1 3))
    (dyadic (two.Scalar dya.Mul) (number 0 (at 1 8)) (monadic one.Iota (number 3 (at 1 11)) (at 1 10)) (at 1 9)) (at 1 7)) (at 1 1)))
    ∷ statement_item 2
    (expression
    (output
    (dyadic (two.Scalar dya.Add) (subscript (name "A" (at 2 3)) (positions (given (number 2 (at 2 5)) ∷ [])) (at 2 4)) (number 1 (at 2 8)) (at 2 7)) (at 2 1)))
    ∷ [])
