-- Scripts: the frames of calls, and branches.
use Rattle.std.specs.Prelude.{◌∷◌, [], Some, None, codes}
use Rattle.apl_base.specs.declared.rows.Dya.TheVariants as dya
use Rattle.apl_model.specs.declared.functions.Axis.TheVariants as axis
use Rattle.apl_model.specs.declared.functions.DyaFn.TheVariants as two
use Rattle.apl_model.specs.declared.functions.MonFn.TheVariants as one
use Rattle.apl_model.specs.Tree.{Script, parenthesis, monadic, dyadic, elided, given, branch, expression, statement_item}
use Rattle.apl_model_examples.specs.Words.{script, at, number, numbers, integers, negative, text, name, calls, sets, label, unlabelled, body_line, header, definition}

-- each of two pending calls has an X of its own; a name that no call declares is a global
abbrev pub a_name_is_set_in_the_innermost_frame_that_declares_it : Script
a_name_is_set_in_the_innermost_frame_that_declares_it = script ("∇Z←F X"
    ∷ "X←X+1" ∷ "Z←G 10" ∷ "Z←Z,X" ∷ "∇" ∷ "∇Z←G X" ∷ "X←X×2" ∷ "Z←Y←X" ∷ "∇" ∷ "F 1" ∷ "Y" ∷ [])
    (definition 1 5 (header (Some (codes "Z")) None "F" (Some (codes "X")) [])
    (body_line 2 unlabelled (expression
    (sets "X" (dyadic (two.Scalar dya.Add) (name "X" (at 2 3)) (number 1 (at 2 5)) (at 2 4)) (at 2 1)))
    ∷ body_line 3 unlabelled (expression (sets "Z" (calls "G" elided (given (number 10 (at 3 5))) (at 3 3)) (at 3 1)))
    ∷ body_line 4 unlabelled (expression
    (sets "Z" (dyadic two.Catenate (name "Z" (at 4 3)) (name "X" (at 4 5)) (at 4 4)) (at 4 1)))
    ∷ [])
    ∷ definition 6 9 (header (Some (codes "Z")) None "G" (Some (codes "X")) [])
    (body_line 7 unlabelled (expression
    (sets "X" (dyadic (two.Scalar dya.Mul) (name "X" (at 7 3)) (number 2 (at 7 5)) (at 7 4)) (at 7 1)))
    ∷ body_line 8 unlabelled (expression (sets "Z" (sets "Y" (name "X" (at 8 5)) (at 8 3)) (at 8 1)))
    ∷ [])
    ∷ statement_item 10 (expression (calls "F" elided (given (number 1 (at 10 3))) (at 10 1)))
    ∷ statement_item 11 (expression (name "Y" (at 11 1)))
    ∷ [])

-- a local without a value hides the global; after the report its frame is gone, and the name is the global again
abbrev pub an_unset_local_has_no_value : Script
an_unset_local_has_no_value = script ("A←5" ∷ "∇Z←H;A" ∷ "Z←A" ∷ "∇" ∷ "H" ∷ "A" ∷ "A←6" ∷ "A" ∷ [])
    (statement_item 1 (expression (sets "A" (number 5 (at 1 3)) (at 1 1)))
    ∷ definition 2 4 (header (Some (codes "Z")) None "H" None ("A" ∷ []))
    (body_line 3 unlabelled (expression (sets "Z" (name "A" (at 3 3)) (at 3 1)))
    ∷ [])
    ∷ statement_item 5 (expression (calls "H" elided elided (at 5 1)))
    ∷ statement_item 6 (expression (name "A" (at 6 1)))
    ∷ statement_item 7 (expression (sets "A" (number 6 (at 7 3)) (at 7 1)))
    ∷ statement_item 8 (expression (name "A" (at 8 1)))
    ∷ [])

-- line 0 is none, so the call ends; an empty value goes on; of two numbers the first is meant; a label is a local that
-- may be set
abbrev pub a_branch_names_the_next_line : Script
a_branch_names_the_next_line = script ("∇Z←B X"
    ∷ "Z←0" ∷ "→X" ∷ "L:Z←Z+1" ∷ "→(Z=1)/L" ∷ "Z←Z+10" ∷ "L←Z←Z+L" ∷ "∇" ∷ "B 0" ∷ "B ⍳0" ∷ "B 5 3" ∷ "B ¯1" ∷ "B 7"
    ∷ [])
    (definition 1 8 (header (Some (codes "Z")) None "B" (Some (codes "X")) [])
    (body_line 2 unlabelled (expression (sets "Z" (number 0 (at 2 3)) (at 2 1)))
    ∷ body_line 3 unlabelled (branch (name "X" (at 3 2)) (at 3 1))
    ∷ body_line 4 (label "L") (expression
    (sets "Z" (dyadic (two.Scalar dya.Add) (name "Z" (at 4 5)) (number 1 (at 4 7)) (at 4 6)) (at 4 3)))
    ∷ body_line 5 unlabelled (branch
    (dyadic (two.Compress axis.Last)
    (parenthesis (dyadic (two.Scalar dya.Eq) (name "Z" (at 5 3)) (number 1 (at 5 5)) (at 5 4)) (at 5 2))
    (name "L" (at 5 8)) (at 5 7)) (at 5 1))
    ∷ body_line 6 unlabelled (expression
    (sets "Z" (dyadic (two.Scalar dya.Add) (name "Z" (at 6 3)) (number 10 (at 6 5)) (at 6 4)) (at 6 1)))
    ∷ body_line 7 unlabelled (expression
    (sets "L"
    (sets "Z" (dyadic (two.Scalar dya.Add) (name "Z" (at 7 5)) (name "L" (at 7 7)) (at 7 6)) (at 7 3)) (at 7 1)))
    ∷ [])
    ∷ statement_item 9 (expression (calls "B" elided (given (number 0 (at 9 3))) (at 9 1)))
    ∷ statement_item 10 (expression
    (calls "B" elided (given (monadic one.Iota (number 0 (at 10 4)) (at 10 3))) (at 10 1)))
    ∷ statement_item 11 (expression (calls "B" elided (given (numbers (5 ∷ 3 ∷ []) (at 11 3))) (at 11 1)))
    ∷ statement_item 12 (expression (calls "B" elided (given (integers ((negative 1) ∷ []) (at 12 3))) (at 12 1)))
    ∷ statement_item 13 (expression (calls "B" elided (given (number 7 (at 13 3))) (at 13 1)))
    ∷ [])

-- a whole statement that is a call without a result prints nothing, and every other use of it is a VALUE ERROR at its name;
-- outside definitions a branch goes nowhere else
abbrev pub a_value_that_is_needed : Script
a_value_that_is_needed = script ("∇Z←F X" ∷ "∇" ∷ "F 1" ∷ "(F 1)" ∷ "A←F 1" ∷ "→F 1" ∷ "→9" ∷ "→''" ∷ "7" ∷ [])
    (definition 1 2 (header (Some (codes "Z")) None "F" (Some (codes "X")) []) []
    ∷ statement_item 3 (expression (calls "F" elided (given (number 1 (at 3 3))) (at 3 1)))
    ∷ statement_item 4 (expression (parenthesis (calls "F" elided (given (number 1 (at 4 4))) (at 4 2)) (at 4 1)))
    ∷ statement_item 5 (expression (sets "A" (calls "F" elided (given (number 1 (at 5 5))) (at 5 3)) (at 5 1)))
    ∷ statement_item 6 (branch (calls "F" elided (given (number 1 (at 6 4))) (at 6 2)) (at 6 1))
    ∷ statement_item 7 (branch (number 9 (at 7 2)) (at 7 1))
    ∷ statement_item 8 (branch (text "" (at 8 2)) (at 8 1))
    ∷ statement_item 9 (expression (number 7 (at 9 1)))
    ∷ [])
