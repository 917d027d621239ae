-- Scripts: the origin of indices.
use Rattle.std.specs.Prelude.{◌∷◌, [], None, pos}
use Rattle.apl_base.specs.declared.rows.Dya.TheVariants as dya
use Rattle.apl_model.specs.declared.functions.Axis.TheVariants as axis
use Rattle.apl_model.specs.declared.functions.DyaFn.TheVariants as two
use Rattle.apl_model.specs.declared.functions.MonFn.TheVariants as one
use Rattle.apl_model.specs.declared.scripts.Command.TheVariants.{Origin}
use Rattle.apl_model.specs.Tree.{Script, monadic, dyadic, reduction, subscript, elided, given, nothing, branch, expression, statement_item, command_item}
use Rattle.apl_model_examples.specs.Words.{script, at, number, numbers, text, name, calls, sets, writes, positions, label, unlabelled, body_line, header, definition}

-- with the origin 0 numbers, positions, places and axes count from 0
abbrev pub places_count_from_the_origin : Script
places_count_from_the_origin = script (")ORIGIN 0"
    ∷ "⍳3"
    ∷ "'ABC'[0 2]"
    ∷ "⍋3 1 2"
    ∷ "3 1 2⍳2 9"
    ∷ "+/[0]2 2⍴⍳4"
    ∷ ")ORIGIN 1"
    ∷ "⍳3"
    ∷ [])
    (command_item 1 (Origin (pos 0))
    ∷ statement_item 2 (expression (monadic one.Iota (number 3 (at 2 2)) (at 2 1)))
    ∷ statement_item 3 (expression (subscript (text "ABC" (at 3 1)) (positions (given (numbers (0 ∷ 2 ∷ []) (at 3 7)) ∷ [])) (at 3 6)))
    ∷ statement_item 4 (expression (monadic one.GradeUp (numbers (3 ∷ 1 ∷ 2 ∷ []) (at 4 2)) (at 4 1)))
    ∷ statement_item 5 (expression (dyadic two.IndexOf (numbers (3 ∷ 1 ∷ 2 ∷ []) (at 5 1)) (numbers (2 ∷ 9 ∷ []) (at 5 7)) (at 5 6)))
    ∷ statement_item 6
    (expression
    (reduction dya.Add
    (axis.Numbered (pos 0))
    (dyadic two.Reshape (numbers (2 ∷ 2 ∷ []) (at 6 6)) (monadic one.Iota (number 4 (at 6 11)) (at 6 10)) (at 6 9)) (at 6 2)))
    ∷ command_item 7 (Origin (pos 1))
    ∷ statement_item 8 (expression (monadic one.Iota (number 3 (at 8 2)) (at 8 1)))
    ∷ [])

-- with the origin 0 the length is no position
abbrev pub the_length_is_no_position_from_0 : Script
the_length_is_no_position_from_0 = script (")ORIGIN 0" ∷ "1 2 3[3]" ∷ [])
    (command_item 1 (Origin (pos 0))
    ∷ statement_item 2 (expression (subscript (numbers (1 ∷ 2 ∷ 3 ∷ []) (at 2 1)) (positions (given (number 3 (at 2 7)) ∷ [])) (at 2 6)))
    ∷ [])

-- the axes of a transpose, the axes in brackets, the places of a grade and the positions of a write count from the origin
abbrev pub axes_and_writes_count_from_the_origin : Script
axes_and_writes_count_from_the_origin = script (")ORIGIN 0"
    ∷ "1 0⍉2 3⍴⍳6" ∷ "A←⍳3" ∷ "A[0]←9" ∷ "A" ∷ "⌽[0]2 2⍴⍳4" ∷ "1⌽[0]2 2⍴⍳4" ∷ "0 1/[0]2 2⍴⍳4" ∷ "0 1\\[0]1 2⍴⍳2"
    ∷ "⍒3 1 2" ∷ ")ORIGIN 1" ∷ [])
    (command_item 1 (Origin (pos 0))
    ∷ statement_item 2 (expression
    (dyadic two.Transpose
    (numbers (1 ∷ 0 ∷ []) (at 2 1))
    (dyadic two.Reshape
    (numbers (2 ∷ 3 ∷ []) (at 2 5))
    (monadic one.Iota (number 6 (at 2 10)) (at 2 9)) (at 2 8)) (at 2 4)))
    ∷ statement_item 3 (expression (sets "A" (monadic one.Iota (number 3 (at 3 4)) (at 3 3)) (at 3 1)))
    ∷ statement_item 4 (expression
    (writes "A" (positions (given (number 0 (at 4 3)) ∷ [])) (number 9 (at 4 6)) (at 4 2)))
    ∷ statement_item 5 (expression (name "A" (at 5 1)))
    ∷ statement_item 6 (expression
    (monadic (one.Reverse (axis.Numbered (pos 0)))
    (dyadic two.Reshape
    (numbers (2 ∷ 2 ∷ []) (at 6 5))
    (monadic one.Iota (number 4 (at 6 10)) (at 6 9)) (at 6 8)) (at 6 1)))
    ∷ statement_item 7 (expression
    (dyadic (two.Rotate (axis.Numbered (pos 0)))
    (number 1 (at 7 1))
    (dyadic two.Reshape
    (numbers (2 ∷ 2 ∷ []) (at 7 6))
    (monadic one.Iota (number 4 (at 7 11)) (at 7 10)) (at 7 9)) (at 7 2)))
    ∷ statement_item 8 (expression
    (dyadic (two.Compress (axis.Numbered (pos 0)))
    (numbers (0 ∷ 1 ∷ []) (at 8 1))
    (dyadic two.Reshape
    (numbers (2 ∷ 2 ∷ []) (at 8 8))
    (monadic one.Iota (number 4 (at 8 13)) (at 8 12)) (at 8 11)) (at 8 4)))
    ∷ statement_item 9 (expression
    (dyadic (two.Expand (axis.Numbered (pos 0)))
    (numbers (0 ∷ 1 ∷ []) (at 9 1))
    (dyadic two.Reshape
    (numbers (1 ∷ 2 ∷ []) (at 9 8))
    (monadic one.Iota (number 2 (at 9 13)) (at 9 12)) (at 9 11)) (at 9 4)))
    ∷ statement_item 10 (expression (monadic one.GradeDown (numbers (3 ∷ 1 ∷ 2 ∷ []) (at 10 2)) (at 10 1)))
    ∷ command_item 11 (Origin (pos 1))
    ∷ [])

-- labels, the lines of a body and branches do not count from the origin; a function may stand below its call; a line of a
-- body that does nothing takes a turn too
abbrev pub lines_count_from_1 : Script
lines_count_from_1 = script ("F"
    ∷ "∇F" ∷ "→L" ∷ "'A'" ∷ "L:'B'" ∷ "⍝ C" ∷ "→0" ∷ "'D'" ∷ "∇" ∷ ")ORIGIN 0" ∷ "F" ∷ ")ORIGIN 1" ∷ [])
    (statement_item 1 (expression (calls "F" elided elided (at 1 1)))
    ∷ definition 2 9 (header None None "F" None [])
    (body_line 3 unlabelled (branch (name "L" (at 3 2)) (at 3 1))
    ∷ body_line 4 unlabelled (expression (text "A" (at 4 1)))
    ∷ body_line 5 (label "L") (expression (text "B" (at 5 3)))
    ∷ body_line 6 unlabelled nothing
    ∷ body_line 7 unlabelled (branch (number 0 (at 7 2)) (at 7 1))
    ∷ body_line 8 unlabelled (expression (text "D" (at 8 1)))
    ∷ [])
    ∷ command_item 10 (Origin (pos 0))
    ∷ statement_item 11 (expression (calls "F" elided elided (at 11 1)))
    ∷ command_item 12 (Origin (pos 1))
    ∷ [])
