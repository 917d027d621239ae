-- Scripts: printed arrays of more than two axes, and of no elements.
use Rattle.std.specs.Prelude.{◌∷◌, []}
use Rattle.apl_model.specs.declared.functions.DyaFn.TheVariants as two
use Rattle.apl_model.specs.Tree.{Script, dyadic, expression, statement_item}
use Rattle.apl_model_examples.specs.Words.{script, at, number, numbers, integers, negative, text}

-- an empty line stands between two planes, also of more than three axes; a column has one width in all planes; an array
-- of two axes or more without elements prints nothing, an empty vector an empty line
abbrev pub an_empty_line_stands_between_two_planes : Script
an_empty_line_stands_between_two_planes = script ("2 2 2⍴1 2 3 4 5 6 7 100"
    ∷ "2 2 1 2⍴'ABCDEFGH'" ∷ "2 0⍴5" ∷ "0 3⍴'A'" ∷ "0 2 2⍴5" ∷ "''" ∷ "1 1⍴¯12" ∷ [])
    (statement_item 1 (expression
    (dyadic two.Reshape
    (numbers (2 ∷ 2 ∷ 2 ∷ []) (at 1 1))
    (numbers (1 ∷ 2 ∷ 3 ∷ 4 ∷ 5 ∷ 6 ∷ 7 ∷ 100 ∷ []) (at 1 7)) (at 1 6)))
    ∷ statement_item 2 (expression
    (dyadic two.Reshape (numbers (2 ∷ 2 ∷ 1 ∷ 2 ∷ []) (at 2 1)) (text "ABCDEFGH" (at 2 9)) (at 2 8)))
    ∷ statement_item 3 (expression (dyadic two.Reshape (numbers (2 ∷ 0 ∷ []) (at 3 1)) (number 5 (at 3 5)) (at 3 4)))
    ∷ statement_item 4 (expression (dyadic two.Reshape (numbers (0 ∷ 3 ∷ []) (at 4 1)) (text "A" (at 4 5)) (at 4 4)))
    ∷ statement_item 5 (expression
    (dyadic two.Reshape (numbers (0 ∷ 2 ∷ 2 ∷ []) (at 5 1)) (number 5 (at 5 7)) (at 5 6)))
    ∷ statement_item 6 (expression (text "" (at 6 1)))
    ∷ statement_item 7 (expression
    (dyadic two.Reshape (numbers (1 ∷ 1 ∷ []) (at 7 1)) (integers ((negative 12) ∷ []) (at 7 5)) (at 7 4)))
    ∷ [])
