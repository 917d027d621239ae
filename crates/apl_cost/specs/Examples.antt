-- Worked examples of intervals, work and footprints.
use Rattle.std.specs.Prelude.{◌≡◌, ℕ, zero, suc, ℤ, pos, List, [], ◌∷◌, codes, Option, Some, None}
use Prim.Native.String.{String}
use Rattle.std.specs.Option.{option_map}
use Rattle.apl_base.specs.declared.cells.Interval.{Interval}
use Rattle.apl_base.specs.declared.cells.Interval.TheVariants.{Span}
use Rattle.apl_base.specs.declared.cells.Kind.TheVariants.{Num}
use Rattle.apl_base.specs.declared.rows.Dya.TheVariants as dya
use Rattle.apl_base.specs.declared.rows.Mon.TheVariants as mon
use Rattle.apl_model.specs.declared.functions.Axis.TheVariants as axis
use Rattle.apl_model.specs.declared.functions.DyaFn.TheVariants as two
use Rattle.apl_model.specs.declared.functions.MonFn.TheVariants as one
use Rattle.apl_model.specs.declared.scripts.Command.TheVariants.{Erase, Origin}
use Rattle.apl_model.specs.Environment.{no_variables, look_up}
use Rattle.apl_model.specs.Immediate.{beginning}
use Rattle.apl_model.specs.Tree.{Tree, Item, Script, parenthesis, monadic, dyadic, reduction, subscript, outer_product, output, branch, given, expression, statement_item, elided, command_item}
use Rattle.apl_model_examples.specs.Words.{script, at, text, number, numbers, integers, negative, name, sets, writes, positions, calls, header, definition, body_line, unlabelled, label}
use Rattle.apl_cost.specs.RangedEvaluation.{RangedState, with_ranges, with_name, ranged_items}
use Rattle.apl_cost.specs.Plain.{plain_work}
use Rattle.apl_cost.specs.Footprint.{footprints, peak}

-- ---- states and trees

-- no variables
abbrev pub nothing_set : RangedState
nothing_set = with_ranges no_variables (beginning 0)

-- the name bound to n numbers in an interval, whatever they are
abbrev pub bound_numbers : String → ℕ → List ℤ → Interval → RangedState
bound_numbers n length cells interval =
    with_name (codes n) (record { array = record { kind = Num; shape = length ∷ []; cells = cells }; interval = interval; kept = interval }) nothing_set

-- `⍳n`
abbrev pub up_to : ℕ → Tree
up_to n = monadic one.Iota (number n (at 1 1)) (at 1 1)

-- functions of two arguments
abbrev pub times : Tree → Tree → Tree
times a b = dyadic (two.Scalar dya.Mul) a b (at 1 1)

-- `A-B`
abbrev pub minus : Tree → Tree → Tree
minus a b = dyadic (two.Scalar dya.Sub) a b (at 1 1)

-- `A↑B`
abbrev pub taken : Tree → Tree → Tree
taken a b = dyadic two.Take a b (at 1 1)

-- `⌽B`
abbrev pub turned_round : Tree → Tree
turned_round b = monadic (one.Reverse axis.Last) b (at 1 1)

-- a number
abbrev pub n_of : ℕ → Tree
n_of n = number n (at 1 1)

-- so many negations of 1
abbrev pub negated : ℕ → Tree
negated zero = n_of 1
negated (suc n) = monadic (one.Scalar mon.Minus) (negated n) (at 1 1)

-- ---- the work of plain statements

-- `3↑2×⍳1000000000000`
abbrev pub WorkOfATake : Type 0
WorkOfATake = plain_work nothing_set (expression (taken (n_of 3) (times (n_of 2) (up_to 1000000000000)))) ≡ Some 29

-- `A←⍳3`
abbrev pub WorkOfAnAssignment : Type 0
WorkOfAnAssignment = plain_work nothing_set (expression (sets "A" (up_to 3) (at 1 1))) ≡ Some 17

-- `¯2↑⌽2-⍳1000000000`
abbrev pub WorkOfAReversal : Type 0
WorkOfAReversal = plain_work nothing_set (expression (taken (integers (negative 2 ∷ []) (at 1 1)) (turned_round (minus (n_of 2) (up_to 1000000000))))) ≡ Some 23

-- `5↑(⍳1000000000)×⍳1000000000` is plain, and its sum is not
abbrev pub five_products : Tree
five_products = taken (n_of 5) (times (parenthesis (up_to 1000000000) (at 1 1)) (up_to 1000000000))

-- so five products have work
abbrev pub WorkOfAProduct : Type 0
WorkOfAProduct = plain_work nothing_set (expression five_products) ≡ Some 45

-- and their sum has none
abbrev pub NoWorkOfASum : Type 0
NoWorkOfASum = plain_work nothing_set (expression (reduction dya.Add axis.Last five_products (at 1 1))) ≡ None

-- `5↑⌽A×2`, where A is a million numbers of at most 1000000, whichever they are
abbrev pub WorkOverAName : Type 0
WorkOverAName = (cells : List ℤ) →
    plain_work (bound_numbers "A" 1000000 cells (Span (pos 3) (pos 1000000)))
    (expression (taken (n_of 5) (turned_round (times (name "A" (at 1 1)) (n_of 2))))) ≡ Some 36

-- 64 functions, and 65
abbrev pub WorkOfSixtyFour : Type 0
WorkOfSixtyFour = plain_work nothing_set (expression (negated 64)) ≡ Some 69

-- 65 functions are too many
abbrev pub NoWorkOfSixtyFive : Type 0
NoWorkOfSixtyFive = plain_work nothing_set (expression (negated 65)) ≡ None

-- a function that may fail is not plain: `A-2` in its interval, and `A÷2`
abbrev pub NoWorkWhereItMayFail : Type 0
NoWorkWhereItMayFail = (cells : List ℤ) →
    plain_work (bound_numbers "A" 4 cells (Span (pos 0) (pos 9))) (expression (dyadic (two.Scalar dya.Div) (name "A" (at 1 1)) (n_of 2) (at 1 1))) ≡ None

-- subscripts of A: by a literal in progression, and by one that is none
abbrev pub by_positions : Tree → Tree
by_positions p = subscript (name "A" (at 1 1)) (positions (given p ∷ [])) (at 1 1)

-- `A[1 4 7]`
abbrev pub WorkByAProgression : Type 0
WorkByAProgression = (cells : List ℤ) →
    plain_work (bound_numbers "A" 9 cells (Span (pos 0) (pos 9))) (expression (by_positions (numbers (1 ∷ 4 ∷ 7 ∷ []) (at 1 1)))) ≡ Some 27

-- `A[1 4 8]`
abbrev pub NoWorkByOtherPositions : Type 0
NoWorkByOtherPositions = (cells : List ℤ) →
    plain_work (bound_numbers "A" 9 cells (Span (pos 0) (pos 9))) (expression (by_positions (numbers (1 ∷ 4 ∷ 8 ∷ []) (at 1 1)))) ≡ None

-- a place beyond the array, and more elements than there are
abbrev pub NoWorkBeyondTheArray : Type 0
NoWorkBeyondTheArray = (cells : List ℤ) →
    plain_work (bound_numbers "A" 9 cells (Span (pos 0) (pos 9))) (expression (by_positions (n_of 10))) ≡ None

-- `10↑A`
abbrev pub NoWorkOfPadding : Type 0
NoWorkOfPadding = (cells : List ℤ) →
    plain_work (bound_numbers "A" 9 cells (Span (pos 0) (pos 9))) (expression (taken (n_of 10) (name "A" (at 1 1)))) ≡ None

-- ---- the intervals of a script's variables

-- the interval of A after these items of a script
abbrev pub interval_after : Script → List Item → Option Interval
interval_after s items = option_map (λ v. v.kept) (look_up (ranged_items s items 99).state.variables (codes "A"))

-- `A←2×⍳3`
abbrev pub a_is_set : Item
a_is_set = statement_item 1 (expression (sets "A" (times (number 2 (at 1 5)) (up_to 3)) (at 1 1)))

-- `A[2]←9`
abbrev pub a_is_written : Item
a_is_written = statement_item 2 (expression (writes "A" (positions (given (number 2 (at 2 3)) ∷ [])) (number 9 (at 2 6)) (at 2 2)))

-- `A←1↑A`
abbrev pub a_is_part_of_a : Item
a_is_part_of_a = statement_item 3 (expression (sets "A" (taken (n_of 1) (name "A" (at 3 5))) (at 3 1)))

-- `A←2×⍳3`, `A[2]←9`, `A←1↑A`
abbrev pub written_script : Script
written_script = script ("A←2×⍳3" ∷ "A[2]←9" ∷ "A←1↑A" ∷ []) (a_is_set ∷ a_is_written ∷ a_is_part_of_a ∷ [])

-- of a product the exact one; of a write the hull; a selection keeps what it selects from
abbrev pub IntervalOfAProduct : Type 0
IntervalOfAProduct = interval_after written_script (a_is_set ∷ []) ≡ Some (Span (pos 2) (pos 6))

-- after the write
abbrev pub IntervalOfAWrite : Type 0
IntervalOfAWrite = interval_after written_script (a_is_set ∷ a_is_written ∷ []) ≡ Some (Span (pos 2) (pos 9))

-- after the selection
abbrev pub IntervalOfASelection : Type 0
IntervalOfASelection = interval_after written_script (a_is_set ∷ a_is_written ∷ a_is_part_of_a ∷ []) ≡ Some (Span (pos 2) (pos 9))

-- ---- footprints

-- `(⍳3)*2`
abbrev pub squares : Tree
squares = dyadic (two.Scalar dya.Pow) (parenthesis (up_to 3) (at 1 3)) (number 2 (at 1 8)) (at 1 7)

-- `A←(⍳3)*2`: the literals, the numbers, their squares, and the assignment's value beside the variable
abbrev pub FootprintsOfAnAssignment : Type 0
FootprintsOfAnAssignment =
    footprints (script ("A←(⍳3)*2" ∷ []) (statement_item 1 (expression (sets "A" squares (at 1 1))) ∷ [])) 9 ≡ 14 ∷ 8 ∷ 5 ∷ 2 ∷ 1 ∷ []

-- `(⍳8)÷1 1 1 1 1 1 1 0` fails, and its result counts all the same
abbrev pub PeakOfAFailure : Type 0
PeakOfAFailure =
    peak (script ("(⍳8)÷1 1 1 1 1 1 1 0" ∷ []) (statement_item 1
    (expression (dyadic (two.Scalar dya.Div) (parenthesis (up_to 8) (at 1 1)) (numbers (1 ∷ 1 ∷ 1 ∷ 1 ∷ 1 ∷ 1 ∷ 1 ∷ 0 ∷ []) (at 1 6)) (at 1 5))) ∷ [])) 9 ≡ 25

-- `A←1 2 3` and `A[2]←9`: the second counts its value, its position, the new array and its value again, beside A
abbrev pub FootprintsOfAWrite : Type 0
FootprintsOfAWrite =
    footprints (script ("A←1 2 3" ∷ "A[2]←9" ∷ [])
    (statement_item 1 (expression (sets "A" (numbers (1 ∷ 2 ∷ 3 ∷ []) (at 1 3)) (at 1 1))) ∷ a_is_written ∷ [])) 9
    ≡ 9 ∷ 8 ∷ 5 ∷ 4 ∷ 9 ∷ 3 ∷ []

-- `(B←2 3)×⍳2`: an assignment inside an expression
abbrev pub FootprintsOfAnInnerAssignment : Type 0
FootprintsOfAnInnerAssignment =
    footprints (script ("(B←2 3)×⍳2" ∷ []) (statement_item 1 (expression
    (times (parenthesis (sets "B" (numbers (2 ∷ 3 ∷ []) (at 1 4)) (at 1 2)) (at 1 1)) (up_to 2))) ∷ [])) 9
    ≡ 11 ∷ 9 ∷ 5 ∷ 3 ∷ 1 ∷ []

-- `∇Z←F X`, `Z←X,X`, and `F 1 2`: the caller's statement and the argument count through the call
abbrev pub FootprintsOfACall : Type 0
FootprintsOfACall =
    footprints (script ("∇Z←F X" ∷ "Z←X,X" ∷ "∇" ∷ "F 1 2" ∷ [])
    (definition 1 3 (header (Some (codes "Z")) None "F" (Some (codes "X")) [])
    (body_line 2 unlabelled (expression (sets "Z" (dyadic two.Catenate (name "X" (at 2 3)) (name "X" (at 2 5)) (at 2 4)) (at 2 1))) ∷ [])
    ∷ statement_item 4 (expression (calls "F" elided (given (numbers (1 ∷ 2 ∷ []) (at 4 3))) (at 4 1)))
    ∷ [])) 9
    ≡ 6 ∷ 20 ∷ 12 ∷ 8 ∷ 6 ∷ 2 ∷ []

-- ---- intervals through calls, labels and commands

-- `∇Z←F X` with the line `L:Z←X+L`
abbrev pub a_function_of_a_label : Item
a_function_of_a_label =
    definition 1 3 (header (Some (codes "Z")) None "F" (Some (codes "X")) [])
    (body_line 2 (label "L") (expression (sets "Z" (dyadic (two.Scalar dya.Add) (name "X" (at 2 5)) (name "L" (at 2 7)) (at 2 6)) (at 2 3))) ∷ [])

-- `A←F 5 7`
abbrev pub a_is_called : Item
a_is_called = statement_item 4 (expression (sets "A" (calls "F" elided (given (numbers (5 ∷ 7 ∷ []) (at 4 5))) (at 4 3)) (at 4 1)))

-- `A←⌽A×0`
abbrev pub a_is_turned : Item
a_is_turned = statement_item 5 (expression (sets "A" (turned_round (times (name "A" (at 5 4)) (n_of 0))) (at 5 1)))

-- `)ERASE A`
abbrev pub a_is_erased : Item
a_is_erased = command_item 6 (Erase (codes "A" ∷ []))

-- `)ORIGIN 0`
abbrev pub the_origin_is_0 : Item
the_origin_is_0 = command_item 7 (Origin (pos 0))

-- `A←⍳3`
abbrev pub a_counts : Item
a_counts = statement_item 8 (expression (sets "A" (up_to 3) (at 8 1)))

-- `L:Z←X+L` in `∇Z←F X`, `A←F 5 7`, `A←⌽A×0`, `)ERASE A`, `)ORIGIN 0`, `A←⍳3`
abbrev pub called_script : Script
called_script = script ("∇Z←F X" ∷ "L:Z←X+L" ∷ "∇" ∷ "A←F 5 7" ∷ "A←⌽A×0" ∷ ")ERASE A" ∷ ")ORIGIN 0" ∷ "A←⍳3" ∷ [])
    (a_function_of_a_label ∷ a_is_called ∷ a_is_turned ∷ a_is_erased ∷ the_origin_is_0 ∷ a_counts ∷ [])

-- a call's result has what is kept with its name; a selection from a product the product's exact one
abbrev pub IntervalOfACall : Type 0
IntervalOfACall = interval_after called_script (a_is_called ∷ []) ≡ Some (Span (pos 6) (pos 8))

-- after the product was turned
abbrev pub IntervalOfATurnedProduct : Type 0
IntervalOfATurnedProduct = interval_after called_script (a_is_called ∷ a_is_turned ∷ []) ≡ Some (Span (pos 0) (pos 0))

-- after the name was erased
abbrev pub NoIntervalOfAnErasedName : Type 0
NoIntervalOfAnErasedName = interval_after called_script (a_is_called ∷ a_is_turned ∷ a_is_erased ∷ []) ≡ None

-- after the numbers from 0
abbrev pub IntervalFromOriginZero : Type 0
IntervalFromOriginZero = interval_after called_script (a_is_called ∷ a_is_turned ∷ a_is_erased ∷ the_origin_is_0 ∷ a_counts ∷ []) ≡ Some (Span (pos 0) (pos 2))

-- ---- further intervals

-- `A[⍳0]←9`
abbrev pub a_keeps_all : Item
a_keeps_all = statement_item 2 (expression (writes "A" (positions (given (up_to 0) ∷ [])) (number 9 (at 2 6)) (at 2 2)))

-- after `A←2×⍳3` and `A[⍳0]←9`: nothing is selected, so the interval stays
abbrev pub IntervalWhereNothingIsSelected : Type 0
IntervalWhereNothingIsSelected = interval_after (script [] []) (a_is_set ∷ a_keeps_all ∷ []) ≡ Some (Span (pos 2) (pos 6))

-- `∇F`, `A[1]←0`, `→L`, `L:A[3]←8`
abbrev pub a_function_that_writes : Item
a_function_that_writes =
    definition 1 5 (header None None "F" None [])
    (body_line 2 unlabelled (expression (writes "A" (positions (given (n_of 1) ∷ [])) (n_of 0) (at 2 2)))
    ∷ body_line 3 unlabelled (branch (name "L" (at 3 2)) (at 3 1))
    ∷ body_line 4 (label "L") (expression (writes "A" (positions (given (n_of 3) ∷ [])) (n_of 8) (at 4 4))) ∷ [])

-- `F`
abbrev pub f_is_called : Item
f_is_called = statement_item 7 (expression (calls "F" elided elided (at 7 1)))

-- a call that writes the global A, line by line
abbrev pub IntervalOfAWriteInACall : Type 0
IntervalOfAWriteInACall = interval_after (script [] (a_function_that_writes ∷ a_is_set ∷ f_is_called ∷ [])) (a_is_set ∷ f_is_called ∷ []) ≡ Some
    (Span (pos 0) (pos 8))

-- `A←(⍳3)∘.×⍳2`
abbrev pub IntervalOfAnOuterProduct : Type 0
IntervalOfAnOuterProduct =
    interval_after (script [] []) (statement_item 1 (expression
    (sets "A" (outer_product dya.Mul (parenthesis (up_to 3) (at 1 1)) (up_to 2) (at 1 1)) (at 1 1))) ∷ [])
    ≡ Some (Span (pos 1) (pos 6))

-- `A←'AZ'`: characters lie in an interval of their codes
abbrev pub IntervalOfAText : Type 0
IntervalOfAText = interval_after (script [] []) (statement_item 1 (expression (sets "A" (text "AZ" (at 1 1)) (at 1 1))) ∷ []) ≡ Some (Span (pos 65) (pos 90))

-- ---- a name as position

-- `A[I]`, where I is 2 4 6
abbrev pub WorkByAName : Type 0
WorkByAName = (cells : List ℤ) →
    plain_work (with_name (codes "I") (record {
      array = record { kind = Num; shape = 3 ∷ []; cells = pos 2 ∷ pos 4 ∷ pos 6 ∷ [] };
      interval = Span (pos 2) (pos 6);
      kept = Span (pos 2) (pos 6);
    })
    (bound_numbers "A" 9 cells (Span (pos 0) (pos 9)))) (expression (by_positions (name "I" (at 1 1)))) ≡ Some 24

-- `A[I]`, where I is 2 3 5
abbrev pub NoWorkByAnotherName : Type 0
NoWorkByAnotherName = (cells : List ℤ) →
    plain_work (with_name (codes "I") (record {
      array = record { kind = Num; shape = 3 ∷ []; cells = pos 2 ∷ pos 3 ∷ pos 5 ∷ [] };
      interval = Span (pos 2) (pos 5);
      kept = Span (pos 2) (pos 5);
    })
    (bound_numbers "A" 9 cells (Span (pos 0) (pos 9)))) (expression (by_positions (name "I" (at 1 1)))) ≡ None

-- `A[2×⍳4]`: the positions' work is counted by itself, 4×(1+2+3) and 1 and that of `⍳`
abbrev pub WorkByNumbers : Type 0
WorkByNumbers = (cells : List ℤ) →
    plain_work (bound_numbers "A" 9 cells (Span (pos 0) (pos 9))) (expression (by_positions (times (n_of 2) (up_to 4)))) ≡ Some 46

-- `A←(⍳1000000)⌈3`, of a million numbers
abbrev pub WorkOfAMillion : Type 0
WorkOfAMillion =
    plain_work nothing_set (expression (sets "A" (dyadic (two.Scalar dya.Max) (parenthesis (up_to 1000000) (at 1 1)) (n_of 3) (at 1 1))
    (at 1 1))) ≡ Some 6000006

-- `B←⌽A`, where A is three numbers
abbrev pub WorkOfATurnedName : Type 0
WorkOfATurnedName = (cells : List ℤ) →
    plain_work (bound_numbers "A" 3 cells (Span (pos 1) (pos 3))) (expression (sets "B" (turned_round (name "A" (at 1 1))) (at 1 1))) ≡ Some 12

-- `⎕←1` is not plain
abbrev pub NoWorkOfAnOutput : Type 0
NoWorkOfAnOutput = plain_work nothing_set (expression (output (n_of 1) (at 1 1))) ≡ None

-- `1↓5`: a scalar is first given an axis of length 1
abbrev pub WorkOfADroppedScalar : Type 0
WorkOfADroppedScalar = plain_work nothing_set (expression (dyadic two.Skip (n_of 1) (n_of 5) (at 1 1))) ≡ Some 6

-- `0 0↓5`
abbrev pub WorkOfAScalarWithAxes : Type 0
WorkOfAScalarWithAxes = plain_work nothing_set (expression (dyadic two.Skip (numbers (0 ∷ 0 ∷ []) (at 1 1)) (n_of 5) (at 1 1))) ≡ Some 15

-- ---- functions in arguments, and two positions

-- 32 functions in the count and 32 in what is taken: `(-..-1)↑-..-1`
abbrev pub WorkOfFunctionsInArguments : Type 0
WorkOfFunctionsInArguments = plain_work nothing_set (expression (taken (negated 32) (negated 32))) ≡ Some 74

-- 33 of each are too many
abbrev pub NoWorkOfFunctionsInArguments : Type 0
NoWorkOfFunctionsInArguments = plain_work nothing_set (expression (taken (negated 33) (negated 33))) ≡ None

-- `A[2;1 2]`, where A has two rows of three numbers: each position counts by its own work
abbrev pub WorkByTwoPositions : Type 0
WorkByTwoPositions = (cells : List ℤ) →
    plain_work (with_name (codes "A") (record {
      array = record { kind = Num; shape = 2 ∷ 3 ∷ []; cells = cells };
      interval = Span (pos 0) (pos 9);
      kept = Span (pos 0) (pos 9);
    }) nothing_set)
    (expression (subscript (name "A" (at 1 1)) (positions (given (n_of 2) ∷ given (numbers (1 ∷ 2 ∷ []) (at 1 1)) ∷ [])) (at 1 1))) ≡ Some 23
