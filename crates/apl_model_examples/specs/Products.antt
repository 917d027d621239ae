-- Scripts: reductions and products.
use Rattle.std.specs.Prelude.{◌∷◌, [], pos}
use Rattle.apl_base.specs.declared.rows.Dya.TheVariants as dya
use Rattle.apl_model.specs.declared.functions.Axis.TheVariants as axis
use Rattle.apl_model.specs.declared.functions.DyaFn.TheVariants as two
use Rattle.apl_model.specs.declared.functions.MonFn.TheVariants as one
use Rattle.apl_model.specs.Tree.{Script, parenthesis, monadic, dyadic, reduction, outer_product, inner_product, subscript, elided, given, expression, statement_item}
use Rattle.apl_model_examples.specs.Words.{script, at, number, numbers, text, name, sets, positions}

-- the greatest of nothing is the least number, and a reduction goes from the right
abbrev pub a_reduction_goes_from_the_right : Script
a_reduction_goes_from_the_right = script ("⌈/⍳0" ∷ "-/1 2 3 4" ∷ [])
    (statement_item 1 (expression (reduction dya.Max axis.Last (monadic one.Iota (number 0 (at 1 4)) (at 1 3)) (at 1 2)))
    ∷ statement_item 2 (expression (reduction dya.Sub axis.Last (numbers (1 ∷ 2 ∷ 3 ∷ 4 ∷ []) (at 2 3)) (at 2 2)))
    ∷ [])

-- an axis without elements gives the identity
abbrev pub an_empty_axis_gives_the_identity : Script
an_empty_axis_gives_the_identity = script ("+/2 0⍴1" ∷ [])
    (statement_item 1
    (expression (reduction dya.Add axis.Last (dyadic two.Reshape (numbers (2 ∷ 0 ∷ []) (at 1 3)) (number 1 (at 1 7)) (at 1 6)) (at 1 2)))
    ∷ [])

-- a function without an identity has none to give
abbrev pub a_missing_identity : Script
a_missing_identity = script ("⍲/⍳0" ∷ [])
    (statement_item 1 (expression (reduction dya.Nand axis.Last (monadic one.Iota (number 0 (at 1 4)) (at 1 3)) (at 1 2)))
    ∷ [])

-- and needs none for a result without elements
abbrev pub a_missing_identity_of_no_elements : Script
a_missing_identity_of_no_elements = script ("⍲/0 0⍴1" ∷ [])
    (statement_item 1
    (expression (reduction dya.Nand axis.Last (dyadic two.Reshape (numbers (0 ∷ 0 ∷ []) (at 1 3)) (number 1 (at 1 7)) (at 1 6)) (at 1 2)))
    ∷ [])

-- along the first axis
abbrev pub a_reduction_along_the_first_axis : Script
a_reduction_along_the_first_axis = script ("-/[1]2 2⍴10 20 3 4" ∷ [])
    (statement_item 1
    (expression
    (reduction dya.Sub
    (axis.Numbered (pos 1))
    (dyadic two.Reshape (numbers (2 ∷ 2 ∷ []) (at 1 6)) (numbers (10 ∷ 20 ∷ 3 ∷ 4 ∷ []) (at 1 10)) (at 1 9)) (at 1 2)))
    ∷ [])

-- an axis that is none is a RANK ERROR
abbrev pub no_third_axis : Script
no_third_axis = script ("+/[3]2 2⍴1" ∷ [])
    (statement_item 1
    (expression (reduction dya.Add (axis.Numbered (pos 3)) (dyadic two.Reshape (numbers (2 ∷ 2 ∷ []) (at 1 6)) (number 1 (at 1 10)) (at 1 9)) (at 1 2)))
    ∷ [])

-- the inner product of sums and products
abbrev pub a_product_of_two_tables : Script
a_product_of_two_tables = script ("(2 2⍴1 2 3 4)+.×2 2⍴5 6 7 8" ∷ [])
    (statement_item 1
    (expression
    (inner_product dya.Add dya.Mul
    (parenthesis (dyadic two.Reshape (numbers (2 ∷ 2 ∷ []) (at 1 2)) (numbers (1 ∷ 2 ∷ 3 ∷ 4 ∷ []) (at 1 6)) (at 1 5)) (at 1 1))
    (dyadic two.Reshape (numbers (2 ∷ 2 ∷ []) (at 1 17)) (numbers (5 ∷ 6 ∷ 7 ∷ 8 ∷ []) (at 1 21)) (at 1 20)) (at 1 15)))
    ∷ [])

-- an outer product has each pair; a table of characters is printed in rows
abbrev pub a_table_of_products : Script
a_table_of_products = script ("1 2∘.×1 2 3" ∷ "2 2⍴'ABCD'" ∷ [])
    (statement_item 1 (expression (outer_product dya.Mul (numbers (1 ∷ 2 ∷ []) (at 1 1)) (numbers (1 ∷ 2 ∷ 3 ∷ []) (at 1 7)) (at 1 4)))
    ∷ statement_item 2 (expression (dyadic two.Reshape (numbers (2 ∷ 2 ∷ []) (at 2 1)) (text "ABCD" (at 2 5)) (at 2 4)))
    ∷ [])

-- a table of sales: sums of rows and of columns, a row, the rows reversed, two of the rows
abbrev pub sales_by_quarter : Script
sales_by_quarter = script ("⍝ sales by quarter" ∷ "S←3 4⍴⍳12" ∷ "+/S" ∷ "+/[1]S" ∷ "S[2;]" ∷ "⌽S" ∷ "1 0 1/[1]S" ∷ [])
    (statement_item 2
    (expression (sets "S" (dyadic two.Reshape (numbers (3 ∷ 4 ∷ []) (at 2 3)) (monadic one.Iota (number 12 (at 2 8)) (at 2 7)) (at 2 6)) (at 2 1)))
    ∷ statement_item 3 (expression (reduction dya.Add axis.Last (name "S" (at 3 3)) (at 3 2)))
    ∷ statement_item 4 (expression (reduction dya.Add (axis.Numbered (pos 1)) (name "S" (at 4 6)) (at 4 2)))
    ∷ statement_item 5 (expression (subscript (name "S" (at 5 1)) (positions (given (number 2 (at 5 3)) ∷ elided ∷ [])) (at 5 2)))
    ∷ statement_item 6 (expression (monadic (one.Reverse axis.Last) (name "S" (at 6 2)) (at 6 1)))
    ∷ statement_item 7 (expression (dyadic (two.Compress (axis.Numbered (pos 1))) (numbers (1 ∷ 0 ∷ 1 ∷ []) (at 7 1)) (name "S" (at 7 10)) (at 7 6)))
    ∷ [])

-- reduced along the middle axis; rows go with columns, of more axes too; an inner product over no element is the identity
abbrev pub axes_of_products : Script
axes_of_products = script ("+/[2]2 2 2⍴⍳8"
    ∷ "(2 2⍴⍳4)-.×1 2" ∷ "1 2∘.-1 2 3" ∷ "(2 2⍴⍳4)∘.×1 2" ∷ "⍴(2 3 2⍴1)+.×2 2⍴1" ∷ "(⍳0)×.+5" ∷ [])
    (statement_item 1 (expression
    (reduction dya.Add (axis.Numbered (pos 2))
    (dyadic two.Reshape
    (numbers (2 ∷ 2 ∷ 2 ∷ []) (at 1 6))
    (monadic one.Iota (number 8 (at 1 13)) (at 1 12)) (at 1 11)) (at 1 2)))
    ∷ statement_item 2 (expression
    (inner_product dya.Sub dya.Mul
    (parenthesis
    (dyadic two.Reshape
    (numbers (2 ∷ 2 ∷ []) (at 2 2))
    (monadic one.Iota (number 4 (at 2 7)) (at 2 6)) (at 2 5)) (at 2 1))
    (numbers (1 ∷ 2 ∷ []) (at 2 12)) (at 2 10)))
    ∷ statement_item 3 (expression
    (outer_product dya.Sub (numbers (1 ∷ 2 ∷ []) (at 3 1)) (numbers (1 ∷ 2 ∷ 3 ∷ []) (at 3 7)) (at 3 4)))
    ∷ statement_item 4 (expression
    (outer_product dya.Mul
    (parenthesis
    (dyadic two.Reshape
    (numbers (2 ∷ 2 ∷ []) (at 4 2))
    (monadic one.Iota (number 4 (at 4 7)) (at 4 6)) (at 4 5)) (at 4 1))
    (numbers (1 ∷ 2 ∷ []) (at 4 12)) (at 4 9)))
    ∷ statement_item 5 (expression
    (monadic one.Shape
    (inner_product dya.Add dya.Mul
    (parenthesis (dyadic two.Reshape (numbers (2 ∷ 3 ∷ 2 ∷ []) (at 5 3)) (number 1 (at 5 9)) (at 5 8)) (at 5 2))
    (dyadic two.Reshape (numbers (2 ∷ 2 ∷ []) (at 5 14)) (number 1 (at 5 18)) (at 5 17)) (at 5 12)) (at 5 1)))
    ∷ statement_item 6 (expression
    (inner_product dya.Mul dya.Add
    (parenthesis (monadic one.Iota (number 0 (at 6 3)) (at 6 2)) (at 6 1))
    (number 5 (at 6 8)) (at 6 6)))
    ∷ [])
