-- Scripts: whether a result has numbers or characters.
use Rattle.std.specs.Prelude.{◌∷◌, []}
use Rattle.apl_base.specs.declared.rows.Dya.TheVariants as dya
use Rattle.apl_model.specs.declared.functions.Axis.TheVariants as axis
use Rattle.apl_model.specs.declared.functions.DyaFn.TheVariants as two
use Rattle.apl_model.specs.declared.functions.MonFn.TheVariants as one
use Rattle.apl_model.specs.Tree.{Script, parenthesis, monadic, dyadic, reduction, inner_product, expression, statement_item}
use Rattle.apl_model_examples.specs.Words.{script, at, number, numbers, text}

-- along an axis of length 1 characters stay, along one of length 0 come numbers; an array without elements shows its kind
-- where it is padded
abbrev pub what_is_reduced_keeps_its_kind_along_length_1 : Script
what_is_reduced_keeps_its_kind_along_length_1 = script ("+/2 1⍴'AB'"
    ∷ "+/'A'" ∷ "+/2 0⍴'A'" ∷ "2↑+⌿1 0⍴'A'" ∷ "2↑+⌿0 0⍴'A'" ∷ [])
    (statement_item 1 (expression
    (reduction dya.Add axis.Last
    (dyadic two.Reshape (numbers (2 ∷ 1 ∷ []) (at 1 3)) (text "AB" (at 1 7)) (at 1 6)) (at 1 2)))
    ∷ statement_item 2 (expression (reduction dya.Add axis.Last (text "A" (at 2 3)) (at 2 2)))
    ∷ statement_item 3 (expression
    (reduction dya.Add axis.Last
    (dyadic two.Reshape (numbers (2 ∷ 0 ∷ []) (at 3 3)) (text "A" (at 3 7)) (at 3 6)) (at 3 2)))
    ∷ statement_item 4 (expression
    (dyadic two.Take
    (number 2 (at 4 1))
    (reduction dya.Add axis.First
    (dyadic two.Reshape (numbers (1 ∷ 0 ∷ []) (at 4 5)) (text "A" (at 4 9)) (at 4 8)) (at 4 4)) (at 4 2)))
    ∷ statement_item 5 (expression
    (dyadic two.Take
    (number 2 (at 5 1))
    (reduction dya.Add axis.First
    (dyadic two.Reshape (numbers (0 ∷ 0 ∷ []) (at 5 5)) (text "A" (at 5 9)) (at 5 8)) (at 5 4)) (at 5 2)))
    ∷ [])

-- a catenation has the kind of the argument that has elements, of the left one where neither has; what a scalar function
-- gives are numbers, also where there is none
abbrev pub nothing_gives_a_catenation_no_kind : Script
nothing_gives_a_catenation_no_kind = script ("'',1"
    ∷ "1,''" ∷ "2↑'',⍳0" ∷ "2↑(⍳0),''" ∷ "2↑''='A'" ∷ "(0⍴'A')+.×⍳0" ∷ [])
    (statement_item 1 (expression (dyadic two.Catenate (text "" (at 1 1)) (number 1 (at 1 4)) (at 1 3)))
    ∷ statement_item 2 (expression (dyadic two.Catenate (number 1 (at 2 1)) (text "" (at 2 3)) (at 2 2)))
    ∷ statement_item 3 (expression
    (dyadic two.Take
    (number 2 (at 3 1))
    (dyadic two.Catenate (text "" (at 3 3)) (monadic one.Iota (number 0 (at 3 7)) (at 3 6)) (at 3 5)) (at 3 2)))
    ∷ statement_item 4 (expression
    (dyadic two.Take
    (number 2 (at 4 1))
    (dyadic two.Catenate
    (parenthesis (monadic one.Iota (number 0 (at 4 5)) (at 4 4)) (at 4 3))
    (text "" (at 4 8)) (at 4 7)) (at 4 2)))
    ∷ statement_item 5 (expression
    (dyadic two.Take
    (number 2 (at 5 1))
    (dyadic (two.Scalar dya.Eq) (text "" (at 5 3)) (text "A" (at 5 6)) (at 5 5)) (at 5 2)))
    ∷ statement_item 6 (expression
    (inner_product dya.Add dya.Mul
    (parenthesis (dyadic two.Reshape (number 0 (at 6 2)) (text "A" (at 6 4)) (at 6 3)) (at 6 1))
    (monadic one.Iota (number 0 (at 6 12)) (at 6 11)) (at 6 9)))
    ∷ [])
