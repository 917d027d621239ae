-- Scripts: errors and their places.
use Rattle.std.specs.Prelude.{◌∷◌, []}
use Rattle.apl_base.specs.declared.rows.Dya.TheVariants as dya
use Rattle.apl_model.specs.declared.functions.DyaFn.TheVariants as two
use Rattle.apl_model.specs.declared.functions.MonFn.TheVariants as one
use Rattle.apl_model.specs.Tree.{Script, parenthesis, monadic, dyadic, output, expression, statement_item}
use Rattle.apl_model_examples.specs.Words.{script, at, number, numbers, name, sets}

-- the place of an error is that of the function that fails
abbrev pub the_place_is_the_function_that_fails : Script
the_place_is_the_function_that_fails = script ("(7 6÷2 2)+1 1÷1 0" ∷ [])
    (statement_item 1
    (expression
    (dyadic (two.Scalar dya.Add)
    (parenthesis (dyadic (two.Scalar dya.Div) (numbers (7 ∷ 6 ∷ []) (at 1 2)) (numbers (2 ∷ 2 ∷ []) (at 1 6)) (at 1 5)) (at 1 1))
    (dyadic (two.Scalar dya.Div) (numbers (1 ∷ 1 ∷ []) (at 1 11)) (numbers (1 ∷ 0 ∷ []) (at 1 15)) (at 1 14)) (at 1 10)))
    ∷ [])

-- what stands to the left of an error is not evaluated, so that nothing is printed
abbrev pub an_error_comes_before_an_output_to_its_left : Script
an_error_comes_before_an_output_to_its_left = script ("(⎕←1)+5÷0" ∷ [])
    (statement_item 1
    (expression
    (dyadic (two.Scalar dya.Add)
    (parenthesis (output (number 1 (at 1 4)) (at 1 2)) (at 1 1))
    (dyadic (two.Scalar dya.Div) (number 5 (at 1 7)) (number 0 (at 1 9)) (at 1 8)) (at 1 6)))
    ∷ [])

-- an error comes also where the result would have no element
abbrev pub an_error_comes_though_no_element_is_left : Script
an_error_comes_though_no_element_is_left = script ("(1÷0)+⍳0" ∷ [])
    (statement_item 1
    (expression
    (dyadic (two.Scalar dya.Add)
    (parenthesis (dyadic (two.Scalar dya.Div) (number 1 (at 1 2)) (number 0 (at 1 4)) (at 1 3)) (at 1 1))
    (monadic one.Iota (number 0 (at 1 8)) (at 1 7)) (at 1 6)))
    ∷ [])

-- the right argument is evaluated first, so its error is the one
abbrev pub an_error_comes_before_an_unset_name_to_its_left : Script
an_error_comes_before_an_unset_name_to_its_left = script ("X+1÷0" ∷ [])
    (statement_item 1
    (expression
    (dyadic (two.Scalar dya.Add) (name "X" (at 1 1)) (dyadic (two.Scalar dya.Div) (number 1 (at 1 3)) (number 0 (at 1 5)) (at 1 4)) (at 1 2)))
    ∷ [])

-- after a report the script goes on
abbrev pub the_script_goes_on_after_an_error : Script
the_script_goes_on_after_an_error = script ("A+1" ∷ "7" ∷ [])
    (statement_item 1 (expression (dyadic (two.Scalar dya.Add) (name "A" (at 1 1)) (number 1 (at 1 3)) (at 1 2)))
    ∷ statement_item 2 (expression (number 7 (at 2 1)))
    ∷ [])

-- of two names without values the right one is reported
abbrev pub the_right_one_of_two_unset_names : Script
the_right_one_of_two_unset_names = script ("X+Y" ∷ [])
    (statement_item 1 (expression (dyadic (two.Scalar dya.Add) (name "X" (at 1 1)) (name "Y" (at 1 3)) (at 1 2)))
    ∷ [])

-- of two errors the right one is reported
abbrev pub the_right_one_of_two_errors : Script
the_right_one_of_two_errors = script ("(1÷0)+2÷0" ∷ [])
    (statement_item 1
    (expression
    (dyadic (two.Scalar dya.Add)
    (parenthesis (dyadic (two.Scalar dya.Div) (number 1 (at 1 2)) (number 0 (at 1 4)) (at 1 3)) (at 1 1))
    (dyadic (two.Scalar dya.Div) (number 2 (at 1 7)) (number 0 (at 1 9)) (at 1 8)) (at 1 6)))
    ∷ [])

-- also where the other would be tried before it in one function
abbrev pub the_right_one_of_two_kinds_of_errors : Script
the_right_one_of_two_kinds_of_errors = script ("(⍳2 2)+1÷0" ∷ [])
    (statement_item 1
    (expression
    (dyadic (two.Scalar dya.Add)
    (parenthesis (monadic one.Iota (numbers (2 ∷ 2 ∷ []) (at 1 3)) (at 1 2)) (at 1 1))
    (dyadic (two.Scalar dya.Div) (number 1 (at 1 8)) (number 0 (at 1 10)) (at 1 9)) (at 1 7)))
    ∷ [])

-- and so with names
abbrev pub the_right_one_of_two_failing_quotients : Script
the_right_one_of_two_failing_quotients = script ("A←7 6" ∷ "B←1 0" ∷ "(A÷2)+1÷B" ∷ [])
    (statement_item 1 (expression (sets "A" (numbers (7 ∷ 6 ∷ []) (at 1 3)) (at 1 1)))
    ∷ statement_item 2 (expression (sets "B" (numbers (1 ∷ 0 ∷ []) (at 2 3)) (at 2 1)))
    ∷ statement_item 3
    (expression
    (dyadic (two.Scalar dya.Add)
    (parenthesis (dyadic (two.Scalar dya.Div) (name "A" (at 3 2)) (number 2 (at 3 4)) (at 3 3)) (at 3 1))
    (dyadic (two.Scalar dya.Div) (number 1 (at 3 7)) (name "B" (at 3 9)) (at 3 8)) (at 3 6)))
    ∷ [])

-- an axis far beyond the rank is no axis, and nothing is counted up to it
abbrev pub an_axis_far_beyond_the_rank : Script
an_axis_far_beyond_the_rank = script ("1000000000000000000000000000000000000 2⍉1 1⍴5" ∷ [])
    (statement_item 1
    (expression
    (dyadic two.Transpose (numbers (1000000000000000000000000000000000000 ∷ 2 ∷ []) (at 1 1))
    (dyadic two.Reshape (numbers (1 ∷ 1 ∷ []) (at 1 41)) (number 5 (at 1 45)) (at 1 44)) (at 1 40)))
    ∷ [])
