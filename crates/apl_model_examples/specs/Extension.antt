-- Scripts: what one element extends to.
use Rattle.std.specs.Prelude.{◌∷◌, [], pos}
use Rattle.apl_base.specs.declared.rows.Dya.TheVariants as dya
use Rattle.apl_model.specs.declared.functions.Axis.TheVariants as axis
use Rattle.apl_model.specs.declared.functions.DyaFn.TheVariants as two
use Rattle.apl_model.specs.declared.functions.MonFn.TheVariants as one
use Rattle.apl_model.specs.Tree.{Script, parenthesis, monadic, dyadic, inner_product, elided, given, expression, statement_item}
use Rattle.apl_model_examples.specs.Words.{script, at, number, numbers, integers, negative, text, name, sets, writes, positions}

-- a table of one element does not extend, neither to bits nor along the axis of the other argument of an inner product
abbrev pub a_table_of_one_element_does_not_extend : Script
a_table_of_one_element_does_not_extend = script ("1 0 1/1 1⍴5"
    ∷ "1 0 1\\1 1⍴5" ∷ "1 2 3+.×1 1⍴5" ∷ "(1 1⍴5)+.×1 2 3" ∷ "⍴(1 1⍴5)+.×1 1⍴3" ∷ "⍴1/1 1⍴5" ∷ [])
    (statement_item 1 (expression
    (dyadic (two.Compress axis.Last)
    (numbers (1 ∷ 0 ∷ 1 ∷ []) (at 1 1))
    (dyadic two.Reshape (numbers (1 ∷ 1 ∷ []) (at 1 7)) (number 5 (at 1 11)) (at 1 10)) (at 1 6)))
    ∷ statement_item 2 (expression
    (dyadic (two.Expand axis.Last)
    (numbers (1 ∷ 0 ∷ 1 ∷ []) (at 2 1))
    (dyadic two.Reshape (numbers (1 ∷ 1 ∷ []) (at 2 7)) (number 5 (at 2 11)) (at 2 10)) (at 2 6)))
    ∷ statement_item 3 (expression
    (inner_product dya.Add dya.Mul
    (numbers (1 ∷ 2 ∷ 3 ∷ []) (at 3 1))
    (dyadic two.Reshape (numbers (1 ∷ 1 ∷ []) (at 3 9)) (number 5 (at 3 13)) (at 3 12)) (at 3 7)))
    ∷ statement_item 4 (expression
    (inner_product dya.Add dya.Mul
    (parenthesis (dyadic two.Reshape (numbers (1 ∷ 1 ∷ []) (at 4 2)) (number 5 (at 4 6)) (at 4 5)) (at 4 1))
    (numbers (1 ∷ 2 ∷ 3 ∷ []) (at 4 11)) (at 4 9)))
    ∷ statement_item 5 (expression
    (monadic one.Shape
    (inner_product dya.Add dya.Mul
    (parenthesis (dyadic two.Reshape (numbers (1 ∷ 1 ∷ []) (at 5 3)) (number 5 (at 5 7)) (at 5 6)) (at 5 2))
    (dyadic two.Reshape (numbers (1 ∷ 1 ∷ []) (at 5 12)) (number 3 (at 5 16)) (at 5 15)) (at 5 10)) (at 5 1)))
    ∷ statement_item 6 (expression
    (monadic one.Shape
    (dyadic (two.Compress axis.Last)
    (number 1 (at 6 2))
    (dyadic two.Reshape (numbers (1 ∷ 1 ∷ []) (at 6 4)) (number 5 (at 6 8)) (at 6 7)) (at 6 3)) (at 6 1)))
    ∷ [])

-- a scalar and a vector of one element extend, and give an inner product no axis; of two such operands of a scalar
-- function the one with more axes gives the shape
abbrev pub one_element_extends : Script
one_element_extends = script ("1 0 1/,5"
    ∷ "1 0 1\\5" ∷ "1/7 8" ∷ "1 2 3+.×5" ∷ "(,5)+.×1 2 3" ∷ "⍴(,5)+.×,3" ∷ "⍴(1 1⍴2)+,1" ∷ "⍴5+,1" ∷ "(1 1⍴5)+1 2 3"
    ∷ "'A'+⍳0" ∷ "0\\5" ∷ "''/5" ∷ "0/1 2" ∷ [])
    (statement_item 1 (expression
    (dyadic (two.Compress axis.Last)
    (numbers (1 ∷ 0 ∷ 1 ∷ []) (at 1 1))
    (monadic one.Ravel (number 5 (at 1 8)) (at 1 7)) (at 1 6)))
    ∷ statement_item 2 (expression
    (dyadic (two.Expand axis.Last) (numbers (1 ∷ 0 ∷ 1 ∷ []) (at 2 1)) (number 5 (at 2 7)) (at 2 6)))
    ∷ statement_item 3 (expression
    (dyadic (two.Compress axis.Last) (number 1 (at 3 1)) (numbers (7 ∷ 8 ∷ []) (at 3 3)) (at 3 2)))
    ∷ statement_item 4 (expression
    (inner_product dya.Add dya.Mul (numbers (1 ∷ 2 ∷ 3 ∷ []) (at 4 1)) (number 5 (at 4 9)) (at 4 7)))
    ∷ statement_item 5 (expression
    (inner_product dya.Add dya.Mul
    (parenthesis (monadic one.Ravel (number 5 (at 5 3)) (at 5 2)) (at 5 1))
    (numbers (1 ∷ 2 ∷ 3 ∷ []) (at 5 8)) (at 5 6)))
    ∷ statement_item 6 (expression
    (monadic one.Shape
    (inner_product dya.Add dya.Mul
    (parenthesis (monadic one.Ravel (number 5 (at 6 4)) (at 6 3)) (at 6 2))
    (monadic one.Ravel (number 3 (at 6 10)) (at 6 9)) (at 6 7)) (at 6 1)))
    ∷ statement_item 7 (expression
    (monadic one.Shape
    (dyadic (two.Scalar dya.Add)
    (parenthesis (dyadic two.Reshape (numbers (1 ∷ 1 ∷ []) (at 7 3)) (number 2 (at 7 7)) (at 7 6)) (at 7 2))
    (monadic one.Ravel (number 1 (at 7 11)) (at 7 10)) (at 7 9)) (at 7 1)))
    ∷ statement_item 8 (expression
    (monadic one.Shape
    (dyadic (two.Scalar dya.Add)
    (number 5 (at 8 2))
    (monadic one.Ravel (number 1 (at 8 5)) (at 8 4)) (at 8 3)) (at 8 1)))
    ∷ statement_item 9 (expression
    (dyadic (two.Scalar dya.Add)
    (parenthesis (dyadic two.Reshape (numbers (1 ∷ 1 ∷ []) (at 9 2)) (number 5 (at 9 6)) (at 9 5)) (at 9 1))
    (numbers (1 ∷ 2 ∷ 3 ∷ []) (at 9 9)) (at 9 8)))
    ∷ statement_item 10 (expression
    (dyadic (two.Scalar dya.Add) (text "A" (at 10 1)) (monadic one.Iota (number 0 (at 10 6)) (at 10 5)) (at 10 4)))
    ∷ statement_item 11 (expression (dyadic (two.Expand axis.Last) (number 0 (at 11 1)) (number 5 (at 11 3)) (at 11 2)))
    ∷ statement_item 12 (expression
    (dyadic (two.Compress axis.Last) (text "" (at 12 1)) (number 5 (at 12 4)) (at 12 3)))
    ∷ statement_item 13 (expression
    (dyadic (two.Compress axis.Last) (number 0 (at 13 1)) (numbers (1 ∷ 2 ∷ []) (at 13 3)) (at 13 2)))
    ∷ [])

-- a scalar is taken from and dropped from with as many axes of length 1 as there are counts
abbrev pub a_scalar_is_taken_with_lengths_of_1 : Script
a_scalar_is_taken_with_lengths_of_1 = script ("3↑5" ∷ "2 ¯2↑5" ∷ "⍴0 1↓5" ∷ "(⍳0)↑5" ∷ [])
    (statement_item 1 (expression (dyadic two.Take (number 3 (at 1 1)) (number 5 (at 1 3)) (at 1 2)))
    ∷ statement_item 2 (expression
    (dyadic two.Take (integers ((pos 2) ∷ (negative 2) ∷ []) (at 2 1)) (number 5 (at 2 6)) (at 2 5)))
    ∷ statement_item 3 (expression
    (monadic one.Shape (dyadic two.Skip (numbers (0 ∷ 1 ∷ []) (at 3 2)) (number 5 (at 3 6)) (at 3 5)) (at 3 1)))
    ∷ statement_item 4 (expression
    (dyadic two.Take
    (parenthesis (monadic one.Iota (number 0 (at 4 3)) (at 4 2)) (at 4 1))
    (number 5 (at 4 6)) (at 4 5)))
    ∷ [])

-- one element of any rank goes to all places of an indexed assignment
abbrev pub one_element_goes_to_all_places : Script
one_element_goes_to_all_places = script ("A←2 2⍴⍳4" ∷ "A[1;1]←,9" ∷ "A[2;]←1 1⍴8" ∷ "A" ∷ [])
    (statement_item 1 (expression
    (sets "A"
    (dyadic two.Reshape
    (numbers (2 ∷ 2 ∷ []) (at 1 3))
    (monadic one.Iota (number 4 (at 1 8)) (at 1 7)) (at 1 6)) (at 1 1)))
    ∷ statement_item 2 (expression
    (writes "A"
    (positions (given (number 1 (at 2 3)) ∷ given (number 1 (at 2 5)) ∷ []))
    (monadic one.Ravel (number 9 (at 2 9)) (at 2 8)) (at 2 2)))
    ∷ statement_item 3 (expression
    (writes "A"
    (positions (given (number 2 (at 3 3)) ∷ elided ∷ []))
    (dyadic two.Reshape (numbers (1 ∷ 1 ∷ []) (at 3 7)) (number 8 (at 3 11)) (at 3 10)) (at 3 2)))
    ∷ statement_item 4 (expression (name "A" (at 4 1)))
    ∷ [])
