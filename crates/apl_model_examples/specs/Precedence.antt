-- Scripts: which of two errors comes.
use Rattle.std.specs.Prelude.{◌∷◌, [], pos}
use Rattle.apl_base.specs.declared.rows.Dya.TheVariants as dya
use Rattle.apl_model.specs.declared.functions.Axis.TheVariants as axis
use Rattle.apl_model.specs.declared.functions.DyaFn.TheVariants as two
use Rattle.apl_model.specs.declared.functions.MonFn.TheVariants as one
use Rattle.apl_model.specs.Tree.{Script, parenthesis, monadic, dyadic, reduction, outer_product, inner_product, subscript, given, expression, statement_item}
use Rattle.apl_model_examples.specs.Words.{script, at, number, numbers, integers, negative, text, name, sets, writes, positions}

-- a LENGTH ERROR comes before a DOMAIN ERROR, and a RANK ERROR before both; ones are counted among zeros and ones alone
abbrev pub a_length_error_comes_before_a_domain_error : Script
a_length_error_comes_before_a_domain_error = script ("1 2/1 2 3"
    ∷ "1 2\\1 2 3" ∷ "1 1\\1 2 3" ∷ "'AB'+1 2 3" ∷ "'AB'+2 2⍴1" ∷ "'AB'↑1 2" ∷ "'AB'⊥1 2 3" ∷ "'A',2 2⍴1" ∷ "¯1⍴⍳0"
    ∷ [])
    (statement_item 1 (expression
    (dyadic (two.Compress axis.Last) (numbers (1 ∷ 2 ∷ []) (at 1 1)) (numbers (1 ∷ 2 ∷ 3 ∷ []) (at 1 5)) (at 1 4)))
    ∷ statement_item 2 (expression
    (dyadic (two.Expand axis.Last) (numbers (1 ∷ 2 ∷ []) (at 2 1)) (numbers (1 ∷ 2 ∷ 3 ∷ []) (at 2 5)) (at 2 4)))
    ∷ statement_item 3 (expression
    (dyadic (two.Expand axis.Last) (numbers (1 ∷ 1 ∷ []) (at 3 1)) (numbers (1 ∷ 2 ∷ 3 ∷ []) (at 3 5)) (at 3 4)))
    ∷ statement_item 4 (expression
    (dyadic (two.Scalar dya.Add) (text "AB" (at 4 1)) (numbers (1 ∷ 2 ∷ 3 ∷ []) (at 4 6)) (at 4 5)))
    ∷ statement_item 5 (expression
    (dyadic (two.Scalar dya.Add)
    (text "AB" (at 5 1))
    (dyadic two.Reshape (numbers (2 ∷ 2 ∷ []) (at 5 6)) (number 1 (at 5 10)) (at 5 9)) (at 5 5)))
    ∷ statement_item 6 (expression (dyadic two.Take (text "AB" (at 6 1)) (numbers (1 ∷ 2 ∷ []) (at 6 6)) (at 6 5)))
    ∷ statement_item 7 (expression
    (dyadic two.Decode (text "AB" (at 7 1)) (numbers (1 ∷ 2 ∷ 3 ∷ []) (at 7 6)) (at 7 5)))
    ∷ statement_item 8 (expression
    (dyadic two.Catenate
    (text "A" (at 8 1))
    (dyadic two.Reshape (numbers (2 ∷ 2 ∷ []) (at 8 5)) (number 1 (at 8 9)) (at 8 8)) (at 8 4)))
    ∷ statement_item 9 (expression
    (dyadic two.Reshape
    (integers ((negative 1) ∷ []) (at 9 1))
    (monadic one.Iota (number 0 (at 9 5)) (at 9 4)) (at 9 3)))
    ∷ [])

-- the left argument of an index is a vector; a grade and an axis in brackets want axes, also beside a character
abbrev pub no_rank_error_is_left_out : Script
no_rank_error_is_left_out = script ("5⍳5"
    ∷ "⍋'A'" ∷ "1/[1]5" ∷ "1\\[1]5" ∷ "⌽[1]5" ∷ "(2 2⍴'A')⊤5" ∷ "⌽[3]2 2⍴1" ∷ [])
    (statement_item 1 (expression (dyadic two.IndexOf (number 5 (at 1 1)) (number 5 (at 1 3)) (at 1 2)))
    ∷ statement_item 2 (expression (monadic one.GradeUp (text "A" (at 2 2)) (at 2 1)))
    ∷ statement_item 3 (expression
    (dyadic (two.Compress (axis.Numbered (pos 1))) (number 1 (at 3 1)) (number 5 (at 3 6)) (at 3 2)))
    ∷ statement_item 4 (expression
    (dyadic (two.Expand (axis.Numbered (pos 1))) (number 1 (at 4 1)) (number 5 (at 4 6)) (at 4 2)))
    ∷ statement_item 5 (expression (monadic (one.Reverse (axis.Numbered (pos 1))) (number 5 (at 5 5)) (at 5 1)))
    ∷ statement_item 6 (expression
    (dyadic two.Encode
    (parenthesis (dyadic two.Reshape (numbers (2 ∷ 2 ∷ []) (at 6 2)) (text "A" (at 6 6)) (at 6 5)) (at 6 1))
    (number 5 (at 6 11)) (at 6 10)))
    ∷ statement_item 7 (expression
    (monadic (one.Reverse (axis.Numbered (pos 3)))
    (dyadic two.Reshape (numbers (2 ∷ 2 ∷ []) (at 7 5)) (number 1 (at 7 9)) (at 7 8)) (at 7 1)))
    ∷ [])

-- a write fails by rank, then by length, then by kinds, and then by a position beyond the length
abbrev pub a_domain_error_comes_before_an_index_error : Script
a_domain_error_comes_before_an_index_error = script ("A←1 2 3"
    ∷ "A[4]←'X'" ∷ "A[4 5]←1 2 3" ∷ "A[1 2]←'XYZ'" ∷ "A[4;1]←'X'" ∷ "A[1 2 3]←1 3⍴9" ∷ "A['B']←9" ∷ "A[0]←9"
    ∷ "A['B';1]" ∷ [])
    (statement_item 1 (expression (sets "A" (numbers (1 ∷ 2 ∷ 3 ∷ []) (at 1 3)) (at 1 1)))
    ∷ statement_item 2 (expression
    (writes "A" (positions (given (number 4 (at 2 3)) ∷ [])) (text "X" (at 2 6)) (at 2 2)))
    ∷ statement_item 3 (expression
    (writes "A"
    (positions (given (numbers (4 ∷ 5 ∷ []) (at 3 3)) ∷ []))
    (numbers (1 ∷ 2 ∷ 3 ∷ []) (at 3 8)) (at 3 2)))
    ∷ statement_item 4 (expression
    (writes "A" (positions (given (numbers (1 ∷ 2 ∷ []) (at 4 3)) ∷ [])) (text "XYZ" (at 4 8)) (at 4 2)))
    ∷ statement_item 5 (expression
    (writes "A"
    (positions (given (number 4 (at 5 3)) ∷ given (number 1 (at 5 5)) ∷ []))
    (text "X" (at 5 8)) (at 5 2)))
    ∷ statement_item 6 (expression
    (writes "A"
    (positions (given (numbers (1 ∷ 2 ∷ 3 ∷ []) (at 6 3)) ∷ []))
    (dyadic two.Reshape (numbers (1 ∷ 3 ∷ []) (at 6 10)) (number 9 (at 6 14)) (at 6 13)) (at 6 2)))
    ∷ statement_item 7 (expression
    (writes "A" (positions (given (text "B" (at 7 3)) ∷ [])) (number 9 (at 7 8)) (at 7 2)))
    ∷ statement_item 8 (expression
    (writes "A" (positions (given (number 0 (at 8 3)) ∷ [])) (number 9 (at 8 6)) (at 8 2)))
    ∷ statement_item 9 (expression
    (subscript (name "A" (at 9 1)) (positions (given (text "B" (at 9 3)) ∷ given (number 1 (at 9 7)) ∷ [])) (at 9 2)))
    ∷ [])

-- with `⊤`, a reduction and a product a LIMIT ERROR comes before a DOMAIN ERROR; else it comes last
abbrev pub where_a_limit_error_comes_before_a_domain_error : Script
where_a_limit_error_comes_before_a_domain_error = script ("(1048577⍴'A')⊤1048577⍴1"
    ∷ "⍲/1048577 1048577 0⍴1" ∷ "(2 2 2 2⍴'A')∘.+2 2 2 2 2⍴1" ∷ "(2 2 2 2 2⍴'A')+.+(6⍴2)⍴1"
    ∷ "(1 2⍴5)[(5⍴1)⍴2;(4⍴1)⍴1]" ∷ "(1 2⍴5)[(5⍴1)⍴1;(4⍴1)⍴1]" ∷ "(1099511627776⍴1),1" ∷ "1099511627777↑5"
    ∷ "1 1 0\\[1]2 549755813888⍴1" ∷ [])
    (statement_item 1 (expression
    (dyadic two.Encode
    (parenthesis (dyadic two.Reshape (number 1048577 (at 1 2)) (text "A" (at 1 10)) (at 1 9)) (at 1 1))
    (dyadic two.Reshape (number 1048577 (at 1 15)) (number 1 (at 1 23)) (at 1 22)) (at 1 14)))
    ∷ statement_item 2 (expression
    (reduction dya.Nand axis.Last
    (dyadic two.Reshape (numbers (1048577 ∷ 1048577 ∷ 0 ∷ []) (at 2 3)) (number 1 (at 2 21)) (at 2 20)) (at 2 2)))
    ∷ statement_item 3 (expression
    (outer_product dya.Add
    (parenthesis (dyadic two.Reshape (numbers (2 ∷ 2 ∷ 2 ∷ 2 ∷ []) (at 3 2)) (text "A" (at 3 10)) (at 3 9)) (at 3 1))
    (dyadic two.Reshape (numbers (2 ∷ 2 ∷ 2 ∷ 2 ∷ 2 ∷ []) (at 3 17)) (number 1 (at 3 27)) (at 3 26)) (at 3 14)))
    ∷ statement_item 4 (expression
    (inner_product dya.Add dya.Add
    (parenthesis
    (dyadic two.Reshape (numbers (2 ∷ 2 ∷ 2 ∷ 2 ∷ 2 ∷ []) (at 4 2)) (text "A" (at 4 12)) (at 4 11)) (at 4 1))
    (dyadic two.Reshape
    (parenthesis (dyadic two.Reshape (number 6 (at 4 20)) (number 2 (at 4 22)) (at 4 21)) (at 4 19))
    (number 1 (at 4 25)) (at 4 24)) (at 4 17)))
    ∷ statement_item 5 (expression
    (subscript
    (parenthesis (dyadic two.Reshape (numbers (1 ∷ 2 ∷ []) (at 5 2)) (number 5 (at 5 6)) (at 5 5)) (at 5 1))
    (positions
    (given
    (dyadic two.Reshape
    (parenthesis (dyadic two.Reshape (number 5 (at 5 10)) (number 1 (at 5 12)) (at 5 11)) (at 5 9))
    (number 2 (at 5 15)) (at 5 14))
    ∷ given
    (dyadic two.Reshape
    (parenthesis (dyadic two.Reshape (number 4 (at 5 18)) (number 1 (at 5 20)) (at 5 19)) (at 5 17))
    (number 1 (at 5 23)) (at 5 22))
    ∷ [])) (at 5 8)))
    ∷ statement_item 6 (expression
    (subscript
    (parenthesis (dyadic two.Reshape (numbers (1 ∷ 2 ∷ []) (at 6 2)) (number 5 (at 6 6)) (at 6 5)) (at 6 1))
    (positions
    (given
    (dyadic two.Reshape
    (parenthesis (dyadic two.Reshape (number 5 (at 6 10)) (number 1 (at 6 12)) (at 6 11)) (at 6 9))
    (number 1 (at 6 15)) (at 6 14))
    ∷ given
    (dyadic two.Reshape
    (parenthesis (dyadic two.Reshape (number 4 (at 6 18)) (number 1 (at 6 20)) (at 6 19)) (at 6 17))
    (number 1 (at 6 23)) (at 6 22))
    ∷ [])) (at 6 8)))
    ∷ statement_item 7 (expression
    (dyadic two.Catenate
    (parenthesis (dyadic two.Reshape (number 1099511627776 (at 7 2)) (number 1 (at 7 16)) (at 7 15)) (at 7 1))
    (number 1 (at 7 19)) (at 7 18)))
    ∷ statement_item 8 (expression (dyadic two.Take (number 1099511627777 (at 8 1)) (number 5 (at 8 15)) (at 8 14)))
    ∷ statement_item 9 (expression
    (dyadic (two.Expand (axis.Numbered (pos 1)))
    (numbers (1 ∷ 1 ∷ 0 ∷ []) (at 9 1))
    (dyadic two.Reshape (numbers (2 ∷ 549755813888 ∷ []) (at 9 10)) (number 1 (at 9 25)) (at 9 24)) (at 9 6)))
    ∷ [])

-- an interval has one number, a shape no characters; eight axes are the most, and 2^40 elements
abbrev pub what_an_interval_and_a_shape_refuse : Script
what_an_interval_and_a_shape_refuse = script ("⍳1 1⍴3"
    ∷ "⍳'AB'" ∷ "⍳'A'" ∷ "⍳¯1" ∷ "(2 2⍴1)⍴5" ∷ "'A'⍴5" ∷ "(9⍴1)⍴5" ∷ "⍴(8⍴1)⍴5" ∷ "⍴1099511627776⍴5" ∷ "'A',1" ∷ [])
    (statement_item 1 (expression
    (monadic one.Iota (dyadic two.Reshape (numbers (1 ∷ 1 ∷ []) (at 1 2)) (number 3 (at 1 6)) (at 1 5)) (at 1 1)))
    ∷ statement_item 2 (expression (monadic one.Iota (text "AB" (at 2 2)) (at 2 1)))
    ∷ statement_item 3 (expression (monadic one.Iota (text "A" (at 3 2)) (at 3 1)))
    ∷ statement_item 4 (expression (monadic one.Iota (integers ((negative 1) ∷ []) (at 4 2)) (at 4 1)))
    ∷ statement_item 5 (expression
    (dyadic two.Reshape
    (parenthesis (dyadic two.Reshape (numbers (2 ∷ 2 ∷ []) (at 5 2)) (number 1 (at 5 6)) (at 5 5)) (at 5 1))
    (number 5 (at 5 9)) (at 5 8)))
    ∷ statement_item 6 (expression (dyadic two.Reshape (text "A" (at 6 1)) (number 5 (at 6 5)) (at 6 4)))
    ∷ statement_item 7 (expression
    (dyadic two.Reshape
    (parenthesis (dyadic two.Reshape (number 9 (at 7 2)) (number 1 (at 7 4)) (at 7 3)) (at 7 1))
    (number 5 (at 7 7)) (at 7 6)))
    ∷ statement_item 8 (expression
    (monadic one.Shape
    (dyadic two.Reshape
    (parenthesis (dyadic two.Reshape (number 8 (at 8 3)) (number 1 (at 8 5)) (at 8 4)) (at 8 2))
    (number 5 (at 8 8)) (at 8 7)) (at 8 1)))
    ∷ statement_item 9 (expression
    (monadic one.Shape (dyadic two.Reshape (number 1099511627776 (at 9 2)) (number 5 (at 9 16)) (at 9 15)) (at 9 1)))
    ∷ statement_item 10 (expression (dyadic two.Catenate (text "A" (at 10 1)) (number 1 (at 10 5)) (at 10 4)))
    ∷ [])

-- the counts of a rotation have the shape without the axis; the axes of a transpose are all up to the last, and as many as
-- there are; characters count nothing and have no order
abbrev pub what_a_selection_and_a_grade_refuse : Script
what_a_selection_and_a_grade_refuse = script ("1 2⌽1 2 3"
    ∷ "1 2 3⌽2 3⍴1" ∷ "'A'⌽1 2" ∷ "1⍉2 2⍴1" ∷ "1 3⍉2 2⍴1" ∷ "0 1⍉2 2⍴1" ∷ "'A'↑1 2" ∷ "'A'↓1 2" ∷ "⍋'BA'" ∷ [])
    (statement_item 1 (expression
    (dyadic (two.Rotate axis.Last) (numbers (1 ∷ 2 ∷ []) (at 1 1)) (numbers (1 ∷ 2 ∷ 3 ∷ []) (at 1 5)) (at 1 4)))
    ∷ statement_item 2 (expression
    (dyadic (two.Rotate axis.Last)
    (numbers (1 ∷ 2 ∷ 3 ∷ []) (at 2 1))
    (dyadic two.Reshape (numbers (2 ∷ 3 ∷ []) (at 2 7)) (number 1 (at 2 11)) (at 2 10)) (at 2 6)))
    ∷ statement_item 3 (expression
    (dyadic (two.Rotate axis.Last) (text "A" (at 3 1)) (numbers (1 ∷ 2 ∷ []) (at 3 5)) (at 3 4)))
    ∷ statement_item 4 (expression
    (dyadic two.Transpose
    (number 1 (at 4 1))
    (dyadic two.Reshape (numbers (2 ∷ 2 ∷ []) (at 4 3)) (number 1 (at 4 7)) (at 4 6)) (at 4 2)))
    ∷ statement_item 5 (expression
    (dyadic two.Transpose
    (numbers (1 ∷ 3 ∷ []) (at 5 1))
    (dyadic two.Reshape (numbers (2 ∷ 2 ∷ []) (at 5 5)) (number 1 (at 5 9)) (at 5 8)) (at 5 4)))
    ∷ statement_item 6 (expression
    (dyadic two.Transpose
    (numbers (0 ∷ 1 ∷ []) (at 6 1))
    (dyadic two.Reshape (numbers (2 ∷ 2 ∷ []) (at 6 5)) (number 1 (at 6 9)) (at 6 8)) (at 6 4)))
    ∷ statement_item 7 (expression (dyadic two.Take (text "A" (at 7 1)) (numbers (1 ∷ 2 ∷ []) (at 7 5)) (at 7 4)))
    ∷ statement_item 8 (expression (dyadic two.Skip (text "A" (at 8 1)) (numbers (1 ∷ 2 ∷ []) (at 8 5)) (at 8 4)))
    ∷ statement_item 9 (expression (monadic one.GradeUp (text "BA" (at 9 2)) (at 9 1)))
    ∷ [])

-- bits are zeros and ones in a vector; characters have no digits, and a base of 0 takes no negative number
abbrev pub what_bits_and_digits_refuse : Script
what_bits_and_digits_refuse = script ("2/1 2 3"
    ∷ "(1 1⍴1)/1 2" ∷ "(1 1⍴1)\\1 2" ∷ "10⊤'A'" ∷ "0 10⊤¯1" ∷ "10⊥2 2⍴1" ∷ "2⊥'A'" ∷ "'A'⊥1 2" ∷ [])
    (statement_item 1 (expression
    (dyadic (two.Compress axis.Last) (number 2 (at 1 1)) (numbers (1 ∷ 2 ∷ 3 ∷ []) (at 1 3)) (at 1 2)))
    ∷ statement_item 2 (expression
    (dyadic (two.Compress axis.Last)
    (parenthesis (dyadic two.Reshape (numbers (1 ∷ 1 ∷ []) (at 2 2)) (number 1 (at 2 6)) (at 2 5)) (at 2 1))
    (numbers (1 ∷ 2 ∷ []) (at 2 9)) (at 2 8)))
    ∷ statement_item 3 (expression
    (dyadic (two.Expand axis.Last)
    (parenthesis (dyadic two.Reshape (numbers (1 ∷ 1 ∷ []) (at 3 2)) (number 1 (at 3 6)) (at 3 5)) (at 3 1))
    (numbers (1 ∷ 2 ∷ []) (at 3 9)) (at 3 8)))
    ∷ statement_item 4 (expression (dyadic two.Encode (number 10 (at 4 1)) (text "A" (at 4 4)) (at 4 3)))
    ∷ statement_item 5 (expression
    (dyadic two.Encode (numbers (0 ∷ 10 ∷ []) (at 5 1)) (integers ((negative 1) ∷ []) (at 5 6)) (at 5 5)))
    ∷ statement_item 6 (expression
    (dyadic two.Decode
    (number 10 (at 6 1))
    (dyadic two.Reshape (numbers (2 ∷ 2 ∷ []) (at 6 4)) (number 1 (at 6 8)) (at 6 7)) (at 6 3)))
    ∷ statement_item 7 (expression (dyadic two.Decode (number 2 (at 7 1)) (text "A" (at 7 3)) (at 7 2)))
    ∷ statement_item 8 (expression (dyadic two.Decode (text "A" (at 8 1)) (numbers (1 ∷ 2 ∷ []) (at 8 5)) (at 8 4)))
    ∷ [])
