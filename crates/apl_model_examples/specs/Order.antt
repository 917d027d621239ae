-- Scripts: the order of evaluation, and of the statements that end.
use Rattle.std.specs.Prelude.{◌∷◌, [], Some, codes}
use Rattle.apl_base.specs.declared.rows.Dya.TheVariants as dya
use Rattle.apl_model.specs.declared.functions.DyaFn.TheVariants as two
use Rattle.apl_model.specs.declared.functions.MonFn.TheVariants as one
use Rattle.apl_model.specs.Tree.{Script, parenthesis, monadic, dyadic, outer_product, inner_product, subscript, output, given, expression, statement_item}
use Rattle.apl_model_examples.specs.Words.{script, at, number, numbers, name, calls, sets, writes, positions, unlabelled, body_line, header, definition}

-- positions are evaluated from the last to the first, then the array; of an indexed assignment the value first; of two
-- arguments the right one first
abbrev pub positions_are_evaluated_from_the_last : Script
positions_are_evaluated_from_the_last = script ("A←2 3⍴⍳6"
    ∷ "A[⎕←1;⎕←2]" ∷ "A[⎕←2;⎕←3]←⎕←9" ∷ "(⎕←4 5)[⎕←2]" ∷ "(⎕←1)+⎕←2" ∷ "(⎕←3)∘.+⎕←4" ∷ "(⎕←5)+.×⎕←6" ∷ "A" ∷ [])
    (statement_item 1 (expression
    (sets "A"
    (dyadic two.Reshape
    (numbers (2 ∷ 3 ∷ []) (at 1 3))
    (monadic one.Iota (number 6 (at 1 8)) (at 1 7)) (at 1 6)) (at 1 1)))
    ∷ statement_item 2 (expression
    (subscript
    (name "A" (at 2 1))
    (positions
    (given (output (number 1 (at 2 5)) (at 2 3))
    ∷ given (output (number 2 (at 2 9)) (at 2 7))
    ∷ [])) (at 2 2)))
    ∷ statement_item 3 (expression
    (writes "A"
    (positions (given (output (number 2 (at 3 5)) (at 3 3)) ∷ given (output (number 3 (at 3 9)) (at 3 7)) ∷ []))
    (output (number 9 (at 3 14)) (at 3 12)) (at 3 2)))
    ∷ statement_item 4 (expression
    (subscript
    (parenthesis (output (numbers (4 ∷ 5 ∷ []) (at 4 4)) (at 4 2)) (at 4 1))
    (positions (given (output (number 2 (at 4 11)) (at 4 9)) ∷ [])) (at 4 8)))
    ∷ statement_item 5 (expression
    (dyadic (two.Scalar dya.Add)
    (parenthesis (output (number 1 (at 5 4)) (at 5 2)) (at 5 1))
    (output (number 2 (at 5 9)) (at 5 7)) (at 5 6)))
    ∷ statement_item 6 (expression
    (outer_product dya.Add
    (parenthesis (output (number 3 (at 6 4)) (at 6 2)) (at 6 1))
    (output (number 4 (at 6 11)) (at 6 9)) (at 6 6)))
    ∷ statement_item 7 (expression
    (inner_product dya.Add dya.Mul
    (parenthesis (output (number 5 (at 7 4)) (at 7 2)) (at 7 1))
    (output (number 6 (at 7 11)) (at 7 9)) (at 7 7)))
    ∷ statement_item 8 (expression (name "A" (at 8 1)))
    ∷ [])

-- the right argument of a call comes first; the statements of a call end before the one that made it; one that an error
-- ends has ended, and so have those that it was begun in, from the innermost outwards
abbrev pub a_failed_statement_ends_too : Script
a_failed_statement_ends_too = script ("∇Z←X F Y" ∷ "Z←X" ∷ "Z←X÷Y" ∷ "∇" ∷ "2+(⎕←4) F ⎕←2" ∷ "(⎕←3) F ⎕←0" ∷ "8" ∷ [])
    (definition 1 4 (header (Some (codes "Z")) (Some (codes "X")) "F" (Some (codes "Y")) [])
    (body_line 2 unlabelled (expression (sets "Z" (name "X" (at 2 3)) (at 2 1)))
    ∷ body_line 3 unlabelled (expression
    (sets "Z" (dyadic (two.Scalar dya.Div) (name "X" (at 3 3)) (name "Y" (at 3 5)) (at 3 4)) (at 3 1)))
    ∷ [])
    ∷ statement_item 5 (expression
    (dyadic (two.Scalar dya.Add)
    (number 2 (at 5 1))
    (calls "F"
    (given (parenthesis (output (number 4 (at 5 6)) (at 5 4)) (at 5 3)))
    (given (output (number 2 (at 5 13)) (at 5 11))) (at 5 9)) (at 5 2)))
    ∷ statement_item 6 (expression
    (calls "F"
    (given (parenthesis (output (number 3 (at 6 4)) (at 6 2)) (at 6 1)))
    (given (output (number 0 (at 6 11)) (at 6 9))) (at 6 7)))
    ∷ statement_item 7 (expression (number 8 (at 7 1)))
    ∷ [])
