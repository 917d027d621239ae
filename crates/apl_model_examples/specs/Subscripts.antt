-- Scripts: subscripts and replacements.
use Rattle.std.specs.Prelude.{◌∷◌, [], pos}
use Rattle.apl_base.specs.declared.rows.Dya.TheVariants as dya
use Rattle.apl_model.specs.declared.functions.Axis.TheVariants as axis
use Rattle.apl_model.specs.declared.functions.DyaFn.TheVariants as two
use Rattle.apl_model.specs.declared.functions.MonFn.TheVariants as one
use Rattle.apl_model.specs.Tree.{Script, parenthesis, monadic, dyadic, subscript, elided, given, expression, statement_item}
use Rattle.apl_model_examples.specs.Words.{script, at, number, numbers, integers, negative, text, name, sets, writes, positions}

-- a row, columns in a new order, and the last column by a negative count
abbrev pub a_row_a_column_and_a_corner : Script
a_row_a_column_and_a_corner = script ("A←2 3⍴⍳6" ∷ "A[2;]" ∷ "A[;2 1]" ∷ "2 ¯1↑A" ∷ [])
    (statement_item 1
    (expression (sets "A" (dyadic two.Reshape (numbers (2 ∷ 3 ∷ []) (at 1 3)) (monadic one.Iota (number 6 (at 1 8)) (at 1 7)) (at 1 6)) (at 1 1)))
    ∷ statement_item 2 (expression (subscript (name "A" (at 2 1)) (positions (given (number 2 (at 2 3)) ∷ elided ∷ [])) (at 2 2)))
    ∷ statement_item 3 (expression (subscript (name "A" (at 3 1)) (positions (elided ∷ given (numbers (2 ∷ 1 ∷ []) (at 3 4)) ∷ [])) (at 3 2)))
    ∷ statement_item 4 (expression (dyadic two.Take (integers ((pos 2) ∷ (negative 1) ∷ []) (at 4 1)) (name "A" (at 4 6)) (at 4 5)))
    ∷ [])

-- the positions give the order
abbrev pub positions_in_any_order : Script
positions_in_any_order = script ("1 2 4[1 3 2]" ∷ [])
    (statement_item 1 (expression (subscript (numbers (1 ∷ 2 ∷ 4 ∷ []) (at 1 1)) (positions (given (numbers (1 ∷ 3 ∷ 2 ∷ []) (at 1 7)) ∷ [])) (at 1 6)))
    ∷ [])

-- a position beyond the length is an INDEX ERROR
abbrev pub a_position_beyond_the_length : Script
a_position_beyond_the_length = script ("(⍳3)[4]" ∷ [])
    (statement_item 1
    (expression (subscript (parenthesis (monadic one.Iota (number 3 (at 1 3)) (at 1 2)) (at 1 1)) (positions (given (number 4 (at 1 6)) ∷ [])) (at 1 5)))
    ∷ [])

-- the value of an indexed assignment is what was assigned, and the value that stands to the right keeps what its name had
abbrev pub a_write_leaves_earlier_values_alone : Script
a_write_leaves_earlier_values_alone = script ("A←1 2 3" ∷ "(A[1]←9)+A×2" ∷ [])
    (statement_item 1 (expression (sets "A" (numbers (1 ∷ 2 ∷ 3 ∷ []) (at 1 3)) (at 1 1)))
    ∷ statement_item 2
    (expression
    (dyadic (two.Scalar dya.Add)
    (parenthesis (writes "A" (positions (given (number 1 (at 2 4)) ∷ [])) (number 9 (at 2 7)) (at 2 3)) (at 2 1))
    (dyadic (two.Scalar dya.Mul) (name "A" (at 2 10)) (number 2 (at 2 12)) (at 2 11)) (at 2 9)))
    ∷ [])

-- the places are written with the value as it was before the first write
abbrev pub a_write_of_the_array_itself : Script
a_write_of_the_array_itself = script ("A←1 2 3" ∷ "A[⌽⍳3]←A" ∷ "A" ∷ [])
    (statement_item 1 (expression (sets "A" (numbers (1 ∷ 2 ∷ 3 ∷ []) (at 1 3)) (at 1 1)))
    ∷ statement_item 2
    (expression
    (writes "A"
    (positions (given (monadic (one.Reverse axis.Last) (monadic one.Iota (number 3 (at 2 5)) (at 2 4)) (at 2 3)) ∷ []))
    (name "A" (at 2 8)) (at 2 2)))
    ∷ statement_item 3 (expression (name "A" (at 3 1)))
    ∷ [])

-- of two writes to one place the last one stays
abbrev pub the_last_write_to_a_place_stays : Script
the_last_write_to_a_place_stays = script ("A←1 2 3" ∷ "A[2 2]←7 8" ∷ "A" ∷ [])
    (statement_item 1 (expression (sets "A" (numbers (1 ∷ 2 ∷ 3 ∷ []) (at 1 3)) (at 1 1)))
    ∷ statement_item 2 (expression (writes "A" (positions (given (numbers (2 ∷ 2 ∷ []) (at 2 3)) ∷ [])) (numbers (7 ∷ 8 ∷ []) (at 2 8)) (at 2 2)))
    ∷ statement_item 3 (expression (name "A" (at 3 1)))
    ∷ [])

-- an element that was selected keeps its value
abbrev pub one_element_is_a_value_of_its_own : Script
one_element_is_a_value_of_its_own = script ("A←5 6 7" ∷ "B←A[2]" ∷ "A[2]←9" ∷ "B" ∷ [])
    (statement_item 1 (expression (sets "A" (numbers (5 ∷ 6 ∷ 7 ∷ []) (at 1 3)) (at 1 1)))
    ∷ statement_item 2 (expression (sets "B" (subscript (name "A" (at 2 3)) (positions (given (number 2 (at 2 5)) ∷ [])) (at 2 4)) (at 2 1)))
    ∷ statement_item 3 (expression (writes "A" (positions (given (number 2 (at 3 3)) ∷ [])) (number 9 (at 3 6)) (at 3 2)))
    ∷ statement_item 4 (expression (name "B" (at 4 1)))
    ∷ [])

-- a write to a name without a value is a VALUE ERROR
abbrev pub a_write_to_an_unset_name : Script
a_write_to_an_unset_name = script ("Q[1]←2" ∷ [])
    (statement_item 1 (expression (writes "Q" (positions (given (number 1 (at 1 3)) ∷ [])) (number 2 (at 1 6)) (at 1 2)))
    ∷ [])

-- the positions give the axes of the result; places are written by their positions, and none where a position has no element
abbrev pub positions_of_more_axes : Script
positions_of_more_axes = script ("(⍳5)[2 2⍴⍳4]"
    ∷ "(2 3⍴⍳6)[2 1;3 1]" ∷ "(2 2 2⍴⍳8)[1;;2]" ∷ "A←2 2⍴⍳4" ∷ "A[;2]←8 9" ∷ "A[2 1;1]←5 6" ∷ "A[⍳0;1]←7"
    ∷ "A[⍳0;1]←''" ∷ "A" ∷ [])
    (statement_item 1 (expression
    (subscript
    (parenthesis (monadic one.Iota (number 5 (at 1 3)) (at 1 2)) (at 1 1))
    (positions
    (given
    (dyadic two.Reshape (numbers (2 ∷ 2 ∷ []) (at 1 6)) (monadic one.Iota (number 4 (at 1 11)) (at 1 10)) (at 1 9))
    ∷ [])) (at 1 5)))
    ∷ statement_item 2 (expression
    (subscript
    (parenthesis
    (dyadic two.Reshape
    (numbers (2 ∷ 3 ∷ []) (at 2 2))
    (monadic one.Iota (number 6 (at 2 7)) (at 2 6)) (at 2 5)) (at 2 1))
    (positions (given (numbers (2 ∷ 1 ∷ []) (at 2 10)) ∷ given (numbers (3 ∷ 1 ∷ []) (at 2 14)) ∷ [])) (at 2 9)))
    ∷ statement_item 3 (expression
    (subscript
    (parenthesis
    (dyadic two.Reshape
    (numbers (2 ∷ 2 ∷ 2 ∷ []) (at 3 2))
    (monadic one.Iota (number 8 (at 3 9)) (at 3 8)) (at 3 7)) (at 3 1))
    (positions (given (number 1 (at 3 12)) ∷ elided ∷ given (number 2 (at 3 15)) ∷ [])) (at 3 11)))
    ∷ statement_item 4 (expression
    (sets "A"
    (dyadic two.Reshape
    (numbers (2 ∷ 2 ∷ []) (at 4 3))
    (monadic one.Iota (number 4 (at 4 8)) (at 4 7)) (at 4 6)) (at 4 1)))
    ∷ statement_item 5 (expression
    (writes "A" (positions (elided ∷ given (number 2 (at 5 4)) ∷ [])) (numbers (8 ∷ 9 ∷ []) (at 5 7)) (at 5 2)))
    ∷ statement_item 6 (expression
    (writes "A"
    (positions (given (numbers (2 ∷ 1 ∷ []) (at 6 3)) ∷ given (number 1 (at 6 7)) ∷ []))
    (numbers (5 ∷ 6 ∷ []) (at 6 10)) (at 6 2)))
    ∷ statement_item 7 (expression
    (writes "A"
    (positions (given (monadic one.Iota (number 0 (at 7 4)) (at 7 3)) ∷ given (number 1 (at 7 6)) ∷ []))
    (number 7 (at 7 9)) (at 7 2)))
    ∷ statement_item 8 (expression
    (writes "A"
    (positions (given (monadic one.Iota (number 0 (at 8 4)) (at 8 3)) ∷ given (number 1 (at 8 6)) ∷ []))
    (text "" (at 8 9)) (at 8 2)))
    ∷ statement_item 9 (expression (name "A" (at 9 1)))
    ∷ [])
