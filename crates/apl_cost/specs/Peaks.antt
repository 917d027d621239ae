-- Worked examples of peaks, and of the statements that ended in a run.
use Rattle.std.specs.Prelude.{◌≡◌, ℕ, suc, Bool, true, false, List, [], ◌∷◌, map, codes, Option, Some, None}
use Prim.Native.String.{String}
use Rattle.apl_base.specs.declared.rows.Dya.{Dya}
use Rattle.apl_base.specs.declared.rows.Dya.TheVariants as dya
use Rattle.apl_model.specs.declared.functions.Axis.TheVariants as axis
use Rattle.apl_model.specs.declared.functions.DyaFn.TheVariants as two
use Rattle.apl_model.specs.declared.functions.MonFn.TheVariants as one
use Rattle.apl_model.specs.Tree.{Tree, Item, Script, parenthesis, monadic, dyadic, reduction, given, elided, expression, statement_item}
use Rattle.apl_model_examples.specs.Words.{script, at, number, numbers, name, sets, writes, positions, calls, header, definition, body_line, unlabelled}
use Rattle.apl_cost.specs.Footprint.{Finished, measured_items, peak}
use Rattle.apl_cost.specs.Examples.{up_to, times, taken, turned_round, n_of}

-- ---- trees

-- the value of a name
abbrev pub value_named : String → Tree
value_named n = name n (at 1 1)

-- a name, `←` and a value
abbrev pub is_set_to : String → Tree → Tree
is_set_to n value = sets n value (at 1 1)

-- `A+B`, `A|B`, `A,B`
abbrev pub plus : Tree → Tree → Tree
plus a b = dyadic (two.Scalar dya.Add) a b (at 1 1)

-- the rest of B by A
abbrev pub rest_by : Tree → Tree → Tree
rest_by a b = dyadic (two.Scalar dya.Residue) a b (at 1 1)

-- joined
abbrev pub joined_to : Tree → Tree → Tree
joined_to a b = dyadic two.Catenate a b (at 1 1)

-- `f/A`
abbrev pub over_all : Dya → Tree → Tree
over_all f a = reduction f axis.Last a (at 1 1)

-- the squares of the numbers up to n: `(⍳n)*2`
abbrev pub squares_up_to : ℕ → Tree
squares_up_to n = dyadic (two.Scalar dya.Pow) (parenthesis (up_to n) (at 1 3)) (number 2 (at 1 8)) (at 1 7)

-- each of these is a line of the script
abbrev pub lines_from : ℕ → List Tree → List Item
lines_from k [] = []
lines_from k (t ∷ ts) = statement_item k (expression t) ∷ lines_from (suc k) ts

-- a script of these lines; peaks don't ask for the lines' texts
abbrev pub of_lines : List Tree → Script
of_lines ts = script [] (lines_from 1 ts)

-- ---- peaks

-- `A←(⍳20)*2`: a literal, the numbers, a literal, the squares, and the assignment's value beside the variable
abbrev pub PeakOfSquares : Type 0
PeakOfSquares = peak (of_lines (is_set_to "A" (squares_up_to 20) ∷ [])) 9 ≡ 82

-- of fewer squares
abbrev pub PeakOfFewerSquares : Type 0
PeakOfFewerSquares = peak (of_lines (is_set_to "A" (squares_up_to 16) ∷ [])) 9 ≡ 66

-- a plain statement counts its work at most: `3↑2×⍳20`
abbrev pub PeakOfATake : Type 0
PeakOfATake = peak (of_lines (taken (n_of 3) (times (n_of 2) (up_to 20)) ∷ [])) 9 ≡ 29

-- a line of each kind of a workload
abbrev pub workload_script : Script
workload_script = of_lines
    (is_set_to "A" (rest_by (n_of 10) (up_to 10))
    ∷ is_set_to "S" (n_of 0)
    ∷ is_set_to "B" (n_of 0)
    ∷ is_set_to "A" (rest_by (n_of 10) (plus (value_named "A") (n_of 3)))
    ∷ is_set_to "A" (turned_round (value_named "A"))
    ∷ is_set_to "A" (dyadic (two.Rotate axis.Last) (n_of 3) (value_named "A") (at 1 1))
    ∷ is_set_to "A" (joined_to (parenthesis (dyadic two.Skip (n_of 3) (value_named "A") (at 1 1)) (at 1 1)) (taken (n_of 3) (value_named "A")))
    ∷ writes "A" (positions (given (n_of 4) ∷ [])) (n_of 3) (at 1 1)
    ∷ is_set_to "B" (taken (n_of 3) (times (n_of 3) (turned_round (value_named "A"))))
    ∷ is_set_to "A" (rest_by (n_of 10) (plus (value_named "A") (turned_round (value_named "A"))))
    ∷ is_set_to "S" (over_all dya.Add (taken (n_of 4) (times (value_named "A") (n_of 2))))
    ∷ value_named "S"
    ∷ over_all dya.Add (value_named "A")
    ∷ over_all dya.Max (value_named "A")
    ∷ monadic one.Shape (value_named "A") (at 1 1)
    ∷ monadic one.Shape (value_named "B") (at 1 1)
    ∷ [])

-- the sum of A and A turned counts most: A twice, A turned, the sum, 10, the rest, the assignment's value, beside A, S and B
abbrev pub PeakOfAWorkload : Type 0
PeakOfAWorkload = peak workload_script 99 ≡ 75

-- `∇Z←G X`, `Z←X×2`
abbrev pub a_doubling : Item
a_doubling = definition 1 3 (header (Some (codes "Z")) None "G" (Some (codes "X")) [])
    (body_line 2 unlabelled (expression (is_set_to "Z" (times (value_named "X") (n_of 2)))) ∷ [])

-- `∇Z←F X`, `Z←(G X),X`
abbrev pub a_call_of_it : Item
a_call_of_it = definition 4 6 (header (Some (codes "Z")) None "F" (Some (codes "X")) [])
    (body_line 5 unlabelled (expression (is_set_to "Z" (joined_to (parenthesis (calls "G" elided (given (value_named "X")) (at 5 4)) (at 5 3))
    (value_named "X")))) ∷ [])

-- `F 1 2 3`, a call in a call
abbrev pub nested_calls : Script
nested_calls = script [] (a_doubling ∷ a_call_of_it ∷ statement_item 7 (expression (calls "F" elided (given (numbers (1 ∷ 2 ∷ 3 ∷ []) (at 7 3))) (at 7 1)))
    ∷ [])

-- the outer call's statement counts most: X twice, the inner call's result, both joined, the assignment's value, beside
-- the argument, X and Z
abbrev pub PeakOfNestedCalls : Type 0
PeakOfNestedCalls = peak nested_calls 9 ≡ 33

-- with one turn less the inner call is not begun
abbrev pub PeakOfFewerTurns : Type 0
PeakOfFewerTurns = peak nested_calls 2 ≡ 12

-- ---- statements that ended

-- what is entered of a statement: its number, its work, whether it only shares, and whether it ended without error
pub record Entered : Type 0 where
  pub number : ℕ
  pub work : Option ℕ
  pub shares : Bool
  pub well : Bool

-- without the tree
abbrev pub entered : Finished → Entered
entered f = record { number = f.number; work = f.work; shares = f.shares; well = f.well }

-- of a script
abbrev pub entered_in : Script → List Entered
entered_in s = map entered (measured_items s s.items 9).state.finished

-- `A←⍳3`, `B←⌽A`, `A[1]←7`, `A+1 2`
abbrev pub StatementsEntered : Type 0
StatementsEntered =
    entered_in (of_lines (is_set_to "A" (up_to 3) ∷ is_set_to "B" (turned_round (value_named "A")) ∷ writes "A" (positions (given (n_of 1) ∷ [])) (n_of 7)
    (at 1 1)
    ∷ plus (value_named "A") (numbers (1 ∷ 2 ∷ []) (at 1 1)) ∷ []))
    ≡ record { number = 1; work = Some 17; shares = false; well = true }
    ∷ record { number = 2; work = Some 12; shares = true; well = true }
    ∷ record { number = 3; work = None; shares = false; well = true }
    ∷ record { number = 4; work = None; shares = false; well = false } ∷ []

-- of a call in a call the innermost ends first
abbrev pub CallsEntered : Type 0
CallsEntered =
    entered_in nested_calls
    ≡ record { number = 3; work = Some 19; shares = false; well = true }
    ∷ record { number = 2; work = None; shares = false; well = true }
    ∷ record { number = 1; work = None; shares = false; well = true } ∷ []
