-- Scripts: scalar functions.
use Rattle.std.specs.Prelude.{◌∷◌, [], pos}
use Rattle.apl_base.specs.declared.rows.Dya.TheVariants as dya
use Rattle.apl_base.specs.declared.rows.Mon.TheVariants as mon
use Rattle.apl_model.specs.declared.functions.DyaFn.TheVariants as two
use Rattle.apl_model.specs.declared.functions.MonFn.TheVariants as one
use Rattle.apl_model.specs.Tree.{Script, parenthesis, monadic, dyadic, given, expression, statement_item}
use Rattle.apl_model_examples.specs.Words.{script, at, number, numbers, integers, negative, text, name, sets, writes, positions}

-- zero divided by zero and zero to the power zero are one
abbrev pub zero_by_zero_is_one : Script
zero_by_zero_is_one = script ("0÷0" ∷ "0*0" ∷ [])
    (statement_item 1 (expression (dyadic (two.Scalar dya.Div) (number 0 (at 1 1)) (number 0 (at 1 3)) (at 1 2)))
    ∷ statement_item 2 (expression (dyadic (two.Scalar dya.Pow) (number 0 (at 2 1)) (number 0 (at 2 3)) (at 2 2)))
    ∷ [])

-- characters are compared, one with each of many
abbrev pub a_text_is_compared_character_by_character : Script
a_text_is_compared_character_by_character = script ("'A'='AB'" ∷ [])
    (statement_item 1 (expression (dyadic (two.Scalar dya.Eq) (text "A" (at 1 1)) (text "AB" (at 1 5)) (at 1 4)))
    ∷ [])

-- a character has no sum
abbrev pub a_character_has_no_sum : Script
a_character_has_no_sum = script ("'A'+1" ∷ [])
    (statement_item 1 (expression (dyadic (two.Scalar dya.Add) (text "A" (at 1 1)) (number 1 (at 1 5)) (at 1 4)))
    ∷ [])

-- the factorial of 32 is the greatest
abbrev pub the_greatest_factorial : Script
the_greatest_factorial = script ("!32" ∷ [])
    (statement_item 1 (expression (monadic (one.Scalar mon.Fact) (number 32 (at 1 2)) (at 1 1)))
    ∷ [])

-- the factorial of 33 is beyond the greatest number
abbrev pub no_greater_factorial : Script
no_greater_factorial = script ("!33" ∷ [])
    (statement_item 1 (expression (monadic (one.Scalar mon.Fact) (number 33 (at 1 2)) (at 1 1)))
    ∷ [])

-- 10 to the power 36 is the greatest number
abbrev pub the_greatest_number_is_a_product : Script
the_greatest_number_is_a_product = script ("1000000000000000000×1000000000000000000" ∷ [])
    (statement_item 1 (expression (dyadic (two.Scalar dya.Mul) (number 1000000000000000000 (at 1 1)) (number 1000000000000000000 (at 1 21)) (at 1 20)))
    ∷ [])

-- one more than the greatest number is no number
abbrev pub no_sum_beyond_the_greatest_number : Script
no_sum_beyond_the_greatest_number = script ("1+1000000000000000000×1000000000000000000" ∷ [])
    (statement_item 1
    (expression
    (dyadic (two.Scalar dya.Add)
    (number 1 (at 1 1))
    (dyadic (two.Scalar dya.Mul) (number 1000000000000000000 (at 1 3)) (number 1000000000000000000 (at 1 23)) (at 1 22)) (at 1 2)))
    ∷ [])

-- twice a great number is in range
abbrev pub a_great_element_is_doubled : Script
a_great_element_is_doubled = script ("A←1 2" ∷ "A[2]←1000000000000000000" ∷ "1↑A+A" ∷ [])
    (statement_item 1 (expression (sets "A" (numbers (1 ∷ 2 ∷ []) (at 1 3)) (at 1 1)))
    ∷ statement_item 2 (expression (writes "A" (positions (given (number 2 (at 2 3)) ∷ [])) (number 1000000000000000000 (at 2 6)) (at 2 2)))
    ∷ statement_item 3
    (expression (dyadic two.Take (number 1 (at 3 1)) (dyadic (two.Scalar dya.Add) (name "A" (at 3 3)) (name "A" (at 3 5)) (at 3 4)) (at 3 2)))
    ∷ [])

-- twice the greatest number is a DOMAIN ERROR, also where it is not taken
abbrev pub an_element_that_is_not_taken_fails_all : Script
an_element_that_is_not_taken_fails_all = script ("A←1 2" ∷ "A[2]←1000000000000000000×1000000000000000000" ∷ "1↑A+A" ∷ [])
    (statement_item 1 (expression (sets "A" (numbers (1 ∷ 2 ∷ []) (at 1 3)) (at 1 1)))
    ∷ statement_item 2
    (expression
    (writes "A"
    (positions (given (number 2 (at 2 3)) ∷ []))
    (dyadic (two.Scalar dya.Mul) (number 1000000000000000000 (at 2 6)) (number 1000000000000000000 (at 2 26)) (at 2 25)) (at 2 2)))
    ∷ statement_item 3
    (expression (dyadic two.Take (number 1 (at 3 1)) (dyadic (two.Scalar dya.Add) (name "A" (at 3 3)) (name "A" (at 3 5)) (at 3 4)) (at 3 2)))
    ∷ [])

-- vectors of unequal lengths are a LENGTH ERROR
abbrev pub unequal_lengths : Script
unequal_lengths = script ("1 2+1 2 3" ∷ [])
    (statement_item 1 (expression (dyadic (two.Scalar dya.Add) (numbers (1 ∷ 2 ∷ []) (at 1 1)) (numbers (1 ∷ 2 ∷ 3 ∷ []) (at 1 5)) (at 1 4)))
    ∷ [])

-- and so with a name, which keeps its value
abbrev pub unequal_lengths_of_a_name : Script
unequal_lengths_of_a_name = script ("A←1 2" ∷ "1 2 3+A" ∷ "A" ∷ [])
    (statement_item 1 (expression (sets "A" (numbers (1 ∷ 2 ∷ []) (at 1 3)) (at 1 1)))
    ∷ statement_item 2 (expression (dyadic (two.Scalar dya.Add) (numbers (1 ∷ 2 ∷ 3 ∷ []) (at 2 1)) (name "A" (at 2 7)) (at 2 6)))
    ∷ statement_item 3 (expression (name "A" (at 3 1)))
    ∷ [])

-- arrays of unequal ranks are a RANK ERROR
abbrev pub unequal_ranks : Script
unequal_ranks = script ("(2 2⍴1)+1 2" ∷ [])
    (statement_item 1
    (expression
    (dyadic (two.Scalar dya.Add)
    (parenthesis (dyadic two.Reshape (numbers (2 ∷ 2 ∷ []) (at 1 2)) (number 1 (at 1 6)) (at 1 5)) (at 1 1))
    (numbers (1 ∷ 2 ∷ []) (at 1 9)) (at 1 8)))
    ∷ [])

-- a residue is never negative, and lies below the magnitude of its base; of base zero it is the number
abbrev pub a_residue_is_never_negative : Script
a_residue_is_never_negative = script ("3|¯7 7" ∷ "¯3|¯7 7" ∷ "0|5" ∷ [])
    (statement_item 1 (expression
    (dyadic (two.Scalar dya.Residue) (number 3 (at 1 1)) (integers ((negative 7) ∷ (pos 7) ∷ []) (at 1 3)) (at 1 2)))
    ∷ statement_item 2 (expression
    (dyadic (two.Scalar dya.Residue)
    (integers ((negative 3) ∷ []) (at 2 1))
    (integers ((negative 7) ∷ (pos 7) ∷ []) (at 2 4)) (at 2 3)))
    ∷ statement_item 3 (expression (dyadic (two.Scalar dya.Residue) (number 0 (at 3 1)) (number 5 (at 3 3)) (at 3 2)))
    ∷ [])
