-- Scripts: selections.
use Rattle.std.specs.Prelude.{◌∷◌, [], pos}
use Rattle.apl_base.specs.declared.rows.Dya.TheVariants as dya
use Rattle.apl_model.specs.declared.functions.Axis.TheVariants as axis
use Rattle.apl_model.specs.declared.functions.DyaFn.TheVariants as two
use Rattle.apl_model.specs.declared.functions.MonFn.TheVariants as one
use Rattle.apl_model.specs.Tree.{Script, parenthesis, monadic, dyadic, given, expression, statement_item}
use Rattle.apl_model_examples.specs.Words.{script, at, number, numbers, integers, negative, name, sets, writes, positions}

-- a transpose that names one axis twice gives the diagonal
abbrev pub axes_that_fall_together_give_the_diagonal : Script
axes_that_fall_together_give_the_diagonal = script ("1 1⍉2 3⍴⍳6" ∷ [])
    (statement_item 1
    (expression
    (dyadic two.Transpose
    (numbers (1 ∷ 1 ∷ []) (at 1 1))
    (dyadic two.Reshape (numbers (2 ∷ 3 ∷ []) (at 1 5)) (monadic one.Iota (number 6 (at 1 10)) (at 1 9)) (at 1 8)) (at 1 4)))
    ∷ [])

-- a selection is of a value, so that an error in what is not selected comes all the same
abbrev pub a_selection_keeps_an_error : Script
a_selection_keeps_an_error = script ("2↑6÷1 2 0" ∷ [])
    (statement_item 1
    (expression
    (dyadic two.Take (number 2 (at 1 1)) (dyadic (two.Scalar dya.Div) (number 6 (at 1 3)) (numbers (1 ∷ 2 ∷ 0 ∷ []) (at 1 5)) (at 1 4)) (at 1 2)))
    ∷ [])

-- a transpose is a value of its own: a write to the array changes the array alone
abbrev pub a_transpose_keeps_its_value : Script
a_transpose_keeps_its_value = script ("A←2 2⍴⍳4" ∷ "B←⍉A" ∷ "A[1;2]←9" ∷ "B" ∷ "A" ∷ [])
    (statement_item 1
    (expression (sets "A" (dyadic two.Reshape (numbers (2 ∷ 2 ∷ []) (at 1 3)) (monadic one.Iota (number 4 (at 1 8)) (at 1 7)) (at 1 6)) (at 1 1)))
    ∷ statement_item 2 (expression (sets "B" (monadic one.Transpose (name "A" (at 2 4)) (at 2 3)) (at 2 1)))
    ∷ statement_item 3 (expression (writes "A" (positions (given (number 1 (at 3 3)) ∷ given (number 2 (at 3 5)) ∷ [])) (number 9 (at 3 8)) (at 3 2)))
    ∷ statement_item 4 (expression (name "B" (at 4 1)))
    ∷ statement_item 5 (expression (name "A" (at 5 1)))
    ∷ [])

-- and so is a reversal
abbrev pub a_reversal_keeps_its_value : Script
a_reversal_keeps_its_value = script ("A←1 2 3" ∷ "B←⌽A" ∷ "A[1]←9" ∷ "B" ∷ "A" ∷ [])
    (statement_item 1 (expression (sets "A" (numbers (1 ∷ 2 ∷ 3 ∷ []) (at 1 3)) (at 1 1)))
    ∷ statement_item 2 (expression (sets "B" (monadic (one.Reverse axis.Last) (name "A" (at 2 4)) (at 2 3)) (at 2 1)))
    ∷ statement_item 3 (expression (writes "A" (positions (given (number 1 (at 3 3)) ∷ [])) (number 9 (at 3 6)) (at 3 2)))
    ∷ statement_item 4 (expression (name "B" (at 4 1)))
    ∷ statement_item 5 (expression (name "A" (at 5 1)))
    ∷ [])

-- reversed and rotated along the last axis, the first, or that of a number; each line by its own count; counts go round; a
-- scalar stays
abbrev pub each_axis_is_turned : Script
each_axis_is_turned = script ("⌽2 3⍴⍳6"
    ∷ "⊖2 3⍴⍳6" ∷ "⌽[1]2 3⍴⍳6" ∷ "¯1⌽1 2 3" ∷ "3⊖2 3⍴⍳6" ∷ "1 2⌽2 3⍴⍳6" ∷ "0 1 0⊖2 3⍴⍳6" ∷ "3⌽5" ∷ "(1 1⍴1)⌽1 2 3"
    ∷ [])
    (statement_item 1 (expression
    (monadic (one.Reverse axis.Last)
    (dyadic two.Reshape
    (numbers (2 ∷ 3 ∷ []) (at 1 2))
    (monadic one.Iota (number 6 (at 1 7)) (at 1 6)) (at 1 5)) (at 1 1)))
    ∷ statement_item 2 (expression
    (monadic (one.Reverse axis.First)
    (dyadic two.Reshape
    (numbers (2 ∷ 3 ∷ []) (at 2 2))
    (monadic one.Iota (number 6 (at 2 7)) (at 2 6)) (at 2 5)) (at 2 1)))
    ∷ statement_item 3 (expression
    (monadic (one.Reverse (axis.Numbered (pos 1)))
    (dyadic two.Reshape
    (numbers (2 ∷ 3 ∷ []) (at 3 5))
    (monadic one.Iota (number 6 (at 3 10)) (at 3 9)) (at 3 8)) (at 3 1)))
    ∷ statement_item 4 (expression
    (dyadic (two.Rotate axis.Last)
    (integers ((negative 1) ∷ []) (at 4 1))
    (numbers (1 ∷ 2 ∷ 3 ∷ []) (at 4 4)) (at 4 3)))
    ∷ statement_item 5 (expression
    (dyadic (two.Rotate axis.First)
    (number 3 (at 5 1))
    (dyadic two.Reshape
    (numbers (2 ∷ 3 ∷ []) (at 5 3))
    (monadic one.Iota (number 6 (at 5 8)) (at 5 7)) (at 5 6)) (at 5 2)))
    ∷ statement_item 6 (expression
    (dyadic (two.Rotate axis.Last)
    (numbers (1 ∷ 2 ∷ []) (at 6 1))
    (dyadic two.Reshape
    (numbers (2 ∷ 3 ∷ []) (at 6 5))
    (monadic one.Iota (number 6 (at 6 10)) (at 6 9)) (at 6 8)) (at 6 4)))
    ∷ statement_item 7 (expression
    (dyadic (two.Rotate axis.First)
    (numbers (0 ∷ 1 ∷ 0 ∷ []) (at 7 1))
    (dyadic two.Reshape
    (numbers (2 ∷ 3 ∷ []) (at 7 7))
    (monadic one.Iota (number 6 (at 7 12)) (at 7 11)) (at 7 10)) (at 7 6)))
    ∷ statement_item 8 (expression (dyadic (two.Rotate axis.Last) (number 3 (at 8 1)) (number 5 (at 8 3)) (at 8 2)))
    ∷ statement_item 9 (expression
    (dyadic (two.Rotate axis.Last)
    (parenthesis (dyadic two.Reshape (numbers (1 ∷ 1 ∷ []) (at 9 2)) (number 1 (at 9 6)) (at 9 5)) (at 9 1))
    (numbers (1 ∷ 2 ∷ 3 ∷ []) (at 9 9)) (at 9 8)))
    ∷ [])

-- axis i goes to the place that element i names; more is taken, and less is left, along each axis by its own count
abbrev pub each_axis_has_a_new_place : Script
each_axis_has_a_new_place = script ("⍴⍉2 3 4⍴0"
    ∷ "⍴2 3 1⍉2 3 4⍴0" ∷ "2 1⍉2 3⍴⍳6" ∷ "(⍳0)⍉5" ∷ "3 ¯2↑2 2⍴⍳4" ∷ "¯1↓1 2 3" ∷ "1 ¯1↓2 3⍴⍳6" ∷ [])
    (statement_item 1 (expression
    (monadic one.Shape
    (monadic one.Transpose
    (dyadic two.Reshape (numbers (2 ∷ 3 ∷ 4 ∷ []) (at 1 3)) (number 0 (at 1 9)) (at 1 8)) (at 1 2)) (at 1 1)))
    ∷ statement_item 2 (expression
    (monadic one.Shape
    (dyadic two.Transpose
    (numbers (2 ∷ 3 ∷ 1 ∷ []) (at 2 2))
    (dyadic two.Reshape (numbers (2 ∷ 3 ∷ 4 ∷ []) (at 2 8)) (number 0 (at 2 14)) (at 2 13)) (at 2 7)) (at 2 1)))
    ∷ statement_item 3 (expression
    (dyadic two.Transpose
    (numbers (2 ∷ 1 ∷ []) (at 3 1))
    (dyadic two.Reshape
    (numbers (2 ∷ 3 ∷ []) (at 3 5))
    (monadic one.Iota (number 6 (at 3 10)) (at 3 9)) (at 3 8)) (at 3 4)))
    ∷ statement_item 4 (expression
    (dyadic two.Transpose
    (parenthesis (monadic one.Iota (number 0 (at 4 3)) (at 4 2)) (at 4 1))
    (number 5 (at 4 6)) (at 4 5)))
    ∷ statement_item 5 (expression
    (dyadic two.Take
    (integers ((pos 3) ∷ (negative 2) ∷ []) (at 5 1))
    (dyadic two.Reshape
    (numbers (2 ∷ 2 ∷ []) (at 5 6))
    (monadic one.Iota (number 4 (at 5 11)) (at 5 10)) (at 5 9)) (at 5 5)))
    ∷ statement_item 6 (expression
    (dyadic two.Skip (integers ((negative 1) ∷ []) (at 6 1)) (numbers (1 ∷ 2 ∷ 3 ∷ []) (at 6 4)) (at 6 3)))
    ∷ statement_item 7 (expression
    (dyadic two.Skip
    (integers ((pos 1) ∷ (negative 1) ∷ []) (at 7 1))
    (dyadic two.Reshape
    (numbers (2 ∷ 3 ∷ []) (at 7 6))
    (monadic one.Iota (number 6 (at 7 11)) (at 7 10)) (at 7 9)) (at 7 5)))
    ∷ [])
