-- Scripts: functions of whole arrays.
use Rattle.std.specs.Prelude.{◌∷◌, [], pos}
use Rattle.apl_model.specs.declared.functions.Axis.TheVariants as axis
use Rattle.apl_model.specs.declared.functions.DyaFn.TheVariants as two
use Rattle.apl_model.specs.declared.functions.MonFn.TheVariants as one
use Rattle.apl_model.specs.Tree.{Script, parenthesis, monadic, dyadic, expression, statement_item}
use Rattle.apl_model_examples.specs.Words.{script, at, number, numbers, integers, negative, text}

-- taking more than there is pads, from the end too; dropping more leaves nothing
abbrev pub taking_pads_and_dropping_stops : Script
taking_pads_and_dropping_stops = script ("¯5↑1 2 3" ∷ "5↓1 2" ∷ [])
    (statement_item 1 (expression (dyadic two.Take (integers ((negative 5) ∷ []) (at 1 1)) (numbers (1 ∷ 2 ∷ 3 ∷ []) (at 1 4)) (at 1 3)))
    ∷ statement_item 2 (expression (dyadic two.Skip (number 5 (at 2 1)) (numbers (1 ∷ 2 ∷ []) (at 2 3)) (at 2 2)))
    ∷ [])

-- digits in mixed bases, and the value of digits
abbrev pub digits_and_their_value : Script
digits_and_their_value = script ("24 60 60⊤3723" ∷ "24 60 60⊥1 2 3" ∷ [])
    (statement_item 1 (expression (dyadic two.Encode (numbers (24 ∷ 60 ∷ 60 ∷ []) (at 1 1)) (number 3723 (at 1 10)) (at 1 9)))
    ∷ statement_item 2 (expression (dyadic two.Decode (numbers (24 ∷ 60 ∷ 60 ∷ []) (at 2 1)) (numbers (1 ∷ 2 ∷ 3 ∷ []) (at 2 10)) (at 2 9)))
    ∷ [])

-- expand, index of, grade up, grade down, membership, rotate, catenate and ravel
abbrev pub eight_functions_of_vectors : Script
eight_functions_of_vectors = script ("1 0 1\\5 7"
    ∷ "3 1 2⍳2 9"
    ∷ "⍋3 1 2"
    ∷ "⍒3 1 3"
    ∷ "1 5∈5 6"
    ∷ "1⌽1 2 3"
    ∷ "1 2,3"
    ∷ ",2 2⍴⍳4"
    ∷ [])
    (statement_item 1 (expression (dyadic (two.Expand axis.Last) (numbers (1 ∷ 0 ∷ 1 ∷ []) (at 1 1)) (numbers (5 ∷ 7 ∷ []) (at 1 7)) (at 1 6)))
    ∷ statement_item 2 (expression (dyadic two.IndexOf (numbers (3 ∷ 1 ∷ 2 ∷ []) (at 2 1)) (numbers (2 ∷ 9 ∷ []) (at 2 7)) (at 2 6)))
    ∷ statement_item 3 (expression (monadic one.GradeUp (numbers (3 ∷ 1 ∷ 2 ∷ []) (at 3 2)) (at 3 1)))
    ∷ statement_item 4 (expression (monadic one.GradeDown (numbers (3 ∷ 1 ∷ 3 ∷ []) (at 4 2)) (at 4 1)))
    ∷ statement_item 5 (expression (dyadic two.Member (numbers (1 ∷ 5 ∷ []) (at 5 1)) (numbers (5 ∷ 6 ∷ []) (at 5 5)) (at 5 4)))
    ∷ statement_item 6 (expression (dyadic (two.Rotate axis.Last) (number 1 (at 6 1)) (numbers (1 ∷ 2 ∷ 3 ∷ []) (at 6 3)) (at 6 2)))
    ∷ statement_item 7 (expression (dyadic two.Catenate (numbers (1 ∷ 2 ∷ []) (at 7 1)) (number 3 (at 7 5)) (at 7 4)))
    ∷ statement_item 8
    (expression
    (monadic one.Ravel (dyadic two.Reshape (numbers (2 ∷ 2 ∷ []) (at 8 2)) (monadic one.Iota (number 4 (at 8 7)) (at 8 6)) (at 8 5)) (at 8 1)))
    ∷ [])

-- a negative length is a DOMAIN ERROR
abbrev pub a_negative_length : Script
a_negative_length = script ("¯1⍴2" ∷ [])
    (statement_item 1 (expression (dyadic two.Reshape (integers ((negative 1) ∷ []) (at 1 1)) (number 2 (at 1 4)) (at 1 3)))
    ∷ [])

-- an empty array gives no elements to a shape that has some
abbrev pub nothing_has_no_two_elements : Script
nothing_has_no_two_elements = script ("2⍴⍳0" ∷ [])
    (statement_item 1 (expression (dyadic two.Reshape (number 2 (at 1 1)) (monadic one.Iota (number 0 (at 1 4)) (at 1 3)) (at 1 2)))
    ∷ [])

-- ∊ is another spelling of ∈
abbrev pub a_second_spelling_of_membership : Script
a_second_spelling_of_membership = script ("1 5∊5 6" ∷ [])
    (statement_item 1 (expression (dyadic two.Member (numbers (1 ∷ 5 ∷ []) (at 1 1)) (numbers (5 ∷ 6 ∷ []) (at 1 5)) (at 1 4)))
    ∷ [])

-- a vector longer than 2 to the power 40 is a LIMIT ERROR
abbrev pub more_than_the_greatest_length : Script
more_than_the_greatest_length = script ("⍳1099511627777" ∷ [])
    (statement_item 1 (expression (monadic one.Iota (number 1099511627777 (at 1 2)) (at 1 1)))
    ∷ [])

-- places of equal elements keep their order, in rising and in falling order
abbrev pub equal_elements_keep_their_order : Script
equal_elements_keep_their_order = script ("⍋2 1 2 1" ∷ "⍒2 1 2 1" ∷ [])
    (statement_item 1 (expression (monadic one.GradeUp (numbers (2 ∷ 1 ∷ 2 ∷ 1 ∷ []) (at 1 2)) (at 1 1)))
    ∷ statement_item 2 (expression (monadic one.GradeDown (numbers (2 ∷ 1 ∷ 2 ∷ 1 ∷ []) (at 2 2)) (at 2 1)))
    ∷ [])

-- an index has the shape of what is looked for, membership that of what is asked about; no number is a character; a shape
-- without numbers is that of a scalar
abbrev pub places_and_members : Script
places_and_members = script ("1 2 1⍳2 1 5"
    ∷ "⍴1 2⍳2 2⍴1" ∷ "'AB'⍳65" ∷ "(2 2⍴⍳4)∈4 1" ∷ "'A'∈65" ∷ "5⍴1 2" ∷ "(⍳0)⍴5 6" ∷ "''⍴7" ∷ "⍳,2" ∷ [])
    (statement_item 1 (expression
    (dyadic two.IndexOf (numbers (1 ∷ 2 ∷ 1 ∷ []) (at 1 1)) (numbers (2 ∷ 1 ∷ 5 ∷ []) (at 1 7)) (at 1 6)))
    ∷ statement_item 2 (expression
    (monadic one.Shape
    (dyadic two.IndexOf
    (numbers (1 ∷ 2 ∷ []) (at 2 2))
    (dyadic two.Reshape (numbers (2 ∷ 2 ∷ []) (at 2 6)) (number 1 (at 2 10)) (at 2 9)) (at 2 5)) (at 2 1)))
    ∷ statement_item 3 (expression (dyadic two.IndexOf (text "AB" (at 3 1)) (number 65 (at 3 6)) (at 3 5)))
    ∷ statement_item 4 (expression
    (dyadic two.Member
    (parenthesis
    (dyadic two.Reshape
    (numbers (2 ∷ 2 ∷ []) (at 4 2))
    (monadic one.Iota (number 4 (at 4 7)) (at 4 6)) (at 4 5)) (at 4 1))
    (numbers (4 ∷ 1 ∷ []) (at 4 10)) (at 4 9)))
    ∷ statement_item 5 (expression (dyadic two.Member (text "A" (at 5 1)) (number 65 (at 5 5)) (at 5 4)))
    ∷ statement_item 6 (expression (dyadic two.Reshape (number 5 (at 6 1)) (numbers (1 ∷ 2 ∷ []) (at 6 3)) (at 6 2)))
    ∷ statement_item 7 (expression
    (dyadic two.Reshape
    (parenthesis (monadic one.Iota (number 0 (at 7 3)) (at 7 2)) (at 7 1))
    (numbers (5 ∷ 6 ∷ []) (at 7 6)) (at 7 5)))
    ∷ statement_item 8 (expression (dyadic two.Reshape (text "" (at 8 1)) (number 7 (at 8 4)) (at 8 3)))
    ∷ statement_item 9 (expression (monadic one.Iota (monadic one.Ravel (number 2 (at 9 3)) (at 9 2)) (at 9 1)))
    ∷ [])

-- bits select and space along the last axis, the first, or that of a number
abbrev pub bits_along_an_axis : Script
bits_along_an_axis = script ("1 0/2 2⍴⍳4" ∷ "1 0⌿2 2⍴⍳4" ∷ "0 1/[1]2 2⍴⍳4" ∷ "1 0 1⍀2 2⍴⍳4" ∷ "1 0 1\\[2]2 2⍴⍳4" ∷ [])
    (statement_item 1 (expression
    (dyadic (two.Compress axis.Last)
    (numbers (1 ∷ 0 ∷ []) (at 1 1))
    (dyadic two.Reshape
    (numbers (2 ∷ 2 ∷ []) (at 1 5))
    (monadic one.Iota (number 4 (at 1 10)) (at 1 9)) (at 1 8)) (at 1 4)))
    ∷ statement_item 2 (expression
    (dyadic (two.Compress axis.First)
    (numbers (1 ∷ 0 ∷ []) (at 2 1))
    (dyadic two.Reshape
    (numbers (2 ∷ 2 ∷ []) (at 2 5))
    (monadic one.Iota (number 4 (at 2 10)) (at 2 9)) (at 2 8)) (at 2 4)))
    ∷ statement_item 3 (expression
    (dyadic (two.Compress (axis.Numbered (pos 1)))
    (numbers (0 ∷ 1 ∷ []) (at 3 1))
    (dyadic two.Reshape
    (numbers (2 ∷ 2 ∷ []) (at 3 8))
    (monadic one.Iota (number 4 (at 3 13)) (at 3 12)) (at 3 11)) (at 3 4)))
    ∷ statement_item 4 (expression
    (dyadic (two.Expand axis.First)
    (numbers (1 ∷ 0 ∷ 1 ∷ []) (at 4 1))
    (dyadic two.Reshape
    (numbers (2 ∷ 2 ∷ []) (at 4 7))
    (monadic one.Iota (number 4 (at 4 12)) (at 4 11)) (at 4 10)) (at 4 6)))
    ∷ statement_item 5 (expression
    (dyadic (two.Expand (axis.Numbered (pos 2)))
    (numbers (1 ∷ 0 ∷ 1 ∷ []) (at 5 1))
    (dyadic two.Reshape
    (numbers (2 ∷ 2 ∷ []) (at 5 10))
    (monadic one.Iota (number 4 (at 5 15)) (at 5 14)) (at 5 13)) (at 5 6)))
    ∷ [])

-- one base goes with all digits, one digit with all bases; no digits are 0
abbrev pub the_number_of_digits_in_one_base : Script
the_number_of_digits_in_one_base = script ("2⊥1 0 1" ∷ "1 2 3⊥2" ∷ "10⊥⍳0" ∷ [])
    (statement_item 1 (expression (dyadic two.Decode (number 2 (at 1 1)) (numbers (1 ∷ 0 ∷ 1 ∷ []) (at 1 3)) (at 1 2)))
    ∷ statement_item 2 (expression (dyadic two.Decode (numbers (1 ∷ 2 ∷ 3 ∷ []) (at 2 1)) (number 2 (at 2 7)) (at 2 6)))
    ∷ statement_item 3 (expression
    (dyadic two.Decode (number 10 (at 3 1)) (monadic one.Iota (number 0 (at 3 5)) (at 3 4)) (at 3 3)))
    ∷ [])

-- a base of 0 takes all that is left, and leaves nothing to the bases before it; the digits of each number stand along the
-- first axis; digits are not negative
abbrev pub a_base_of_0_takes_all_that_is_left : Script
a_base_of_0_takes_all_that_is_left = script ("10 0 5⊤17"
    ∷ "24 60 60⊤3723 7" ∷ "10⊤15 27" ∷ "10 10⊤¯1" ∷ "¯3 ¯3⊤7" ∷ [])
    (statement_item 1 (expression
    (dyadic two.Encode (numbers (10 ∷ 0 ∷ 5 ∷ []) (at 1 1)) (number 17 (at 1 8)) (at 1 7)))
    ∷ statement_item 2 (expression
    (dyadic two.Encode (numbers (24 ∷ 60 ∷ 60 ∷ []) (at 2 1)) (numbers (3723 ∷ 7 ∷ []) (at 2 10)) (at 2 9)))
    ∷ statement_item 3 (expression (dyadic two.Encode (number 10 (at 3 1)) (numbers (15 ∷ 27 ∷ []) (at 3 4)) (at 3 3)))
    ∷ statement_item 4 (expression
    (dyadic two.Encode (numbers (10 ∷ 10 ∷ []) (at 4 1)) (integers ((negative 1) ∷ []) (at 4 7)) (at 4 6)))
    ∷ statement_item 5 (expression
    (dyadic two.Encode (integers ((negative 3) ∷ (negative 3) ∷ []) (at 5 1)) (number 7 (at 5 7)) (at 5 6)))
    ∷ [])
