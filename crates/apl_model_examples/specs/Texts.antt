-- Scripts: texts and printed arrays.
use Rattle.std.specs.Prelude.{◌∷◌, [], pos}
use Rattle.apl_model.specs.declared.functions.DyaFn.TheVariants as two
use Rattle.apl_model.specs.declared.functions.MonFn.TheVariants as one
use Rattle.apl_model.specs.Tree.{Script, monadic, dyadic, expression, statement_item}
use Rattle.apl_model_examples.specs.Words.{script, at, number, numbers, integers, negative, text}

-- a doubled quote in a text is one; one character has no axes, more have one; blanks go before a text that is too short
abbrev pub a_doubled_quote_is_one_quote : Script
a_doubled_quote_is_one_quote = script ("'IT''S'" ∷ "⍴'A'" ∷ "⍴'AB'" ∷ "¯3↑'AB'" ∷ [])
    (statement_item 1 (expression (text "IT'S" (at 1 1)))
    ∷ statement_item 2 (expression (monadic one.Shape (text "A" (at 2 2)) (at 2 1)))
    ∷ statement_item 3 (expression (monadic one.Shape (text "AB" (at 3 2)) (at 3 1)))
    ∷ statement_item 4 (expression (dyadic two.Take (integers ((negative 3) ∷ []) (at 4 1)) (text "AB" (at 4 4)) (at 4 3)))
    ∷ [])

-- the numbers of a column end below each other
abbrev pub columns_are_right_justified : Script
columns_are_right_justified = script ("2 2⍴10 ¯3 4 500" ∷ [])
    (statement_item 1
    (expression (dyadic two.Reshape (numbers (2 ∷ 2 ∷ []) (at 1 1)) (integers ((pos 10) ∷ (negative 3) ∷ (pos 4) ∷ (pos 500) ∷ []) (at 1 5)) (at 1 4)))
    ∷ [])

-- an empty vector prints an empty line
abbrev pub an_empty_vector_prints_an_empty_line : Script
an_empty_vector_prints_an_empty_line = script ("0⍴⍳0" ∷ [])
    (statement_item 1 (expression (dyadic two.Reshape (number 0 (at 1 1)) (monadic one.Iota (number 0 (at 1 4)) (at 1 3)) (at 1 2)))
    ∷ [])
