-- A worked script for the table of intervals: what is kept with A after each of its statements.
use Rattle.std.specs.Prelude.{◌≡◌, ℕ, pos, negsuc, List, [], ◌∷◌, ◌++◌, codes, Option, Some, None}
use Rattle.apl_base.specs.declared.cells.Interval.{Interval}
use Rattle.apl_base.specs.declared.cells.Interval.TheVariants.{Span}
use Rattle.apl_base.specs.declared.rows.Dya.TheVariants as dya
use Rattle.apl_base.specs.declared.rows.Mon.TheVariants as mon
use Rattle.apl_model.specs.declared.functions.MonFn.TheVariants as one
use Rattle.apl_model.specs.Tree.{Tree, Item, Script, parenthesis, monadic, outer_product, output, given, elided, expression}
use Rattle.apl_model_examples.specs.Words.{script, at, numbers, writes, positions, calls, header, definition, body_line, unlabelled}
use Rattle.apl_cost.specs.Examples.{interval_after, up_to, times, minus, taken, turned_round, n_of}
use Rattle.apl_cost.specs.Peaks.{is_set_to, value_named, over_all, lines_from}

-- what is kept with A after each of these items, which follow others
abbrev pub after_each : Script → List Item → List Item → List (Option Interval)
after_each s before [] = []
after_each s before (i ∷ items) = interval_after s (before ++ i ∷ []) ∷ after_each s (before ++ i ∷ []) items

-- `(⍳3)-⍳3`: zeros, which by the rules lie from -2 to 2
abbrev pub zeros : Tree
zeros = minus (parenthesis (up_to 3) (at 1 1)) (up_to 3)

-- `1↑⍳3`
abbrev pub first_of_three : Tree
first_of_three = taken (n_of 1) (up_to 3)

-- `1↑2×⍳3`
abbrev pub first_product : Tree
first_product = taken (n_of 1) (times (n_of 2) (up_to 3))

-- `n[i]←value`
abbrev pub writes_at : ℕ → Tree → Tree
writes_at i value = writes "A" (positions (given (n_of i) ∷ [])) value (at 1 1)

-- `C[1]←value`
abbrev pub through_c : Tree → Tree
through_c value = writes "C" (positions (given (n_of 1) ∷ [])) value (at 1 1)

-- `∇Z←F X`, `Z←X`
abbrev pub same_function : Item
same_function = definition 1 3 (header (Some (codes "Z")) None "F" (Some (codes "X")) [])
    (body_line 2 unlabelled (expression (is_set_to "Z" (value_named "X"))) ∷ [])

-- `∇Z←G`, `Z←1↑2×⍳3`
abbrev pub product_function : Item
product_function = definition 4 6 (header (Some (codes "Z")) None "G" None []) (body_line 5 unlabelled (expression (is_set_to "Z" first_product)) ∷ [])

-- the statements of the script
abbrev pub table_lines : List Tree
table_lines =
    is_set_to "A" (numbers (1 ∷ 2 ∷ 3 ∷ []) (at 1 1))
    ∷ writes_at 2 (n_of 9)
    ∷ writes_at 2 (n_of 5)
    ∷ is_set_to "A" (value_named "A")
    ∷ is_set_to "A" (taken (n_of 2) (value_named "A"))
    ∷ is_set_to "A" first_product
    ∷ is_set_to "A" zeros
    ∷ is_set_to "C" (numbers (1 ∷ 2 ∷ 3 ∷ []) (at 1 1))
    ∷ is_set_to "A" (through_c (minus (n_of 3) first_of_three))
    ∷ is_set_to "A" (turned_round zeros)
    ∷ is_set_to "A" (through_c (monadic (one.Scalar mon.Minus) first_of_three (at 1 1)))
    ∷ is_set_to "A" (output zeros (at 1 1))
    ∷ is_set_to "A" (through_c (outer_product dya.Mul (parenthesis first_of_three (at 1 1)) first_of_three (at 1 1)))
    ∷ is_set_to "A" (calls "F" elided (given zeros) (at 1 1))
    ∷ is_set_to "A" (through_c (over_all dya.Add (up_to 3)))
    ∷ is_set_to "A" (calls "G" elided elided (at 1 1))
    ∷ []

-- the whole script
abbrev pub table_script : Script
table_script = script [] (same_function ∷ product_function ∷ lines_from 7 table_lines)

-- a literal, the hull of a write and of another one, a name, a selection, a selection from a product, a scalar function
-- that is set, another name set, the range of a scalar function through a write, a selection from zeros, the range of one
-- of one argument, an output, the range of an outer product, an argument, a reduction, a call's result
abbrev pub IntervalsOfTheTable : Type 0
IntervalsOfTheTable =
    after_each table_script [] (lines_from 7 table_lines)
    ≡ Some (Span (pos 1) (pos 3))
    ∷ Some (Span (pos 1) (pos 9))
    ∷ Some (Span (pos 1) (pos 9))
    ∷ Some (Span (pos 1) (pos 9))
    ∷ Some (Span (pos 1) (pos 9))
    ∷ Some (Span (pos 2) (pos 6))
    ∷ Some (Span (pos 0) (pos 0))
    ∷ Some (Span (pos 0) (pos 0))
    ∷ Some (Span (pos 0) (pos 2))
    ∷ Some (Span (pos 0) (pos 0))
    ∷ Some (Span (negsuc 2) (negsuc 0))
    ∷ Some (Span (pos 0) (pos 0))
    ∷ Some (Span (pos 1) (pos 9))
    ∷ Some (Span (pos 0) (pos 0))
    ∷ Some (Span (pos 6) (pos 6))
    ∷ Some (Span (pos 2) (pos 6))
    ∷ []
