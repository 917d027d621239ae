-- What holds of ranged evaluation. Each law is the contract of a function in src/laws.
use Rattle.std.specs.List.{AllByRecursion}
use Rattle.std.specs.Prelude.{◌≡◌, ℕ, ℤ, ◌≤◌, List, ◌++◌, map, length, Option, Some, Ok, IsTrue}
use Rattle.apl_model.specs.Agreement.{mapped_outcome, mapped_flow, mapped_run, CallsAgree}
use Rattle.apl_model.specs.Call.{call_within}
use Rattle.apl_model.specs.Evaluation.{Calls, value_of, statement_flow}
use Rattle.apl_model.specs.Immediate.{of_states, run_items, routine, told, immediate}
use Rattle.apl_model.specs.Order.{CallsOf, value_in}
use Rattle.apl_model.specs.Tree.{Definition, Item, Script, Statement, Tree}
use Rattle.apl_cost.specs.Ranges.{RangedArray, array_of}
use Rattle.apl_cost.specs.RangedEvaluation.{RangedState, forgotten, of_ranged, of_ranged_states, ranged_flow, ranged_items}
use Rattle.apl_base.specs.Array.{Array, size_of}
use Rattle.apl_base.specs.declared.cells.Interval.{Interval}
use Rattle.apl_base.specs.declared.cells.Kind.TheVariants.{Num}
use Rattle.apl_base.specs.declared.rows.Dya.{Dya}
use Rattle.apl_base.specs.declared.rows.Mon.{Mon}
use Rattle.apl_model.specs.Lift.{lift1, lift2, fitting_shape}
use Rattle.value_range.specs.Interval.{ranged1, ranged2}
use Rattle.apl_base.specs.Interval.{exact_interval, IsInterval, InInterval}
use Rattle.apl_base.specs.Selection.{upward}
use Rattle.apl_model.specs.declared.functions.Axis.{Axis}
use Rattle.apl_model.specs.Made.{counted_from, take_or_pad, drop_from, transposed, reversed}
use Rattle.apl_model.specs.Subscript.{subscript}
use Rattle.apl_model.specs.Whole.{Answer}
use Rattle.apl_cost.specs.Plain.{numbers_from, with_axes, taken_lengths, dropped_lengths, transposed_lengths, reversed_lengths, subscript_lengths}
use Rattle.apl_cost.specs.Footprint.{Measured, measured_items, footprints, peak}

-- ---- forgetting the intervals gives evaluation: the same value or error, its place, and the state that is left

-- of expressions, where it does of calls
abbrev pub ExpressionsForget : Type 0
ExpressionsForget = (calls : Calls) (ranged_calls : CallsOf RangedState RangedArray) → CallsAgree forgotten array_of ranged_calls calls →
    (t : Tree) (s : RangedState) → value_of calls t (forgotten s) ≡ mapped_outcome forgotten array_of (value_in (of_ranged ranged_calls) t s)

-- of statements
abbrev pub StatementsForget : Type 0
StatementsForget = (calls : Calls) (ranged_calls : CallsOf RangedState RangedArray) → CallsAgree forgotten array_of ranged_calls calls →
    (t : Statement) (s : RangedState) → statement_flow calls t (forgotten s) ≡ mapped_flow forgotten (ranged_flow ranged_calls t s)

-- of the calls of functions, however many more may be pending
abbrev pub CallsForget : Type 0
CallsForget = (definitions : List Definition) (n : ℕ) → CallsAgree forgotten array_of
    (call_within of_ranged_states ranged_flow (map routine definitions) n)
    (call_within of_states statement_flow (map routine definitions) n)

-- of runs
abbrev pub RunsForget : Type 0
RunsForget = (script : Script) (items : List Item) (n : ℕ) → run_items script items n ≡ mapped_run forgotten (ranged_items script items n)

-- and of the whole: what a script prints, how it ends, and what it leaves
abbrev pub ImmediateForgets : Type 0
ImmediateForgets = (script : Script) (n : ℕ) → immediate script n ≡ told (mapped_run forgotten (ranged_items script script.items n))

-- ---- footprints

-- forgetting the footprints gives ranged evaluation
abbrev pub MeasuresForget : Type 0
MeasuresForget = (script : Script) (items : List Item) (n : ℕ) → ranged_items script items n
    ≡ mapped_run (λ (m : Measured). m.ranged) (measured_items script items n)

-- the footprint at each moment of a script's run is at most the peak
abbrev pub FootprintsAreAtMostPeak : Type 0
FootprintsAreAtMostPeak = (script : Script) (n : ℕ) → AllByRecursion (λ k. k ≤ peak script n) (footprints script n)

-- footprints are the older ones of others, which have some before them
abbrev pub AreOlderOf : List ℕ → List ℕ → Type 0
AreOlderOf older all = (newer : List ℕ) × (all ≡ newer ++ older)

-- the footprints of a script's first items are the older ones of those of more items
abbrev pub FootprintsOfFirstItems : Type 0
FootprintsOfFirstItems = (script : Script) (items more : List Item) (n : ℕ) → AreOlderOf (measured_items script items n).state.moments
    (measured_items script (items ++ more) n).state.moments

-- so none of the footprints of a script's first items is above the script's peak
abbrev pub FirstFootprintsAreAtMostPeak : Type 0
FirstFootprintsAreAtMostPeak = (script : Script) (items more : List Item) (n : ℕ) → script.items ≡ items ++ more →
    AllByRecursion (λ k. k ≤ peak script n) (measured_items script items n).state.moments

-- ---- plain expressions

-- the interval of `⍳` by its ends is the exact one of its numbers
abbrev pub NumbersFromAreExact : Type 0
NumbersFromAreExact = (o : ℤ) (n : ℕ) → exact_interval (map (counted_from o) (upward 0 n)) ≡ numbers_from o n

-- the answer is an array of this shape
pub record HasShape (answer : Answer) (ns : List ℕ) : Type 0 where
  pub array : Array
  pub made : answer ≡ Ok array
  pub shape : array.shape ≡ ns

-- a selection that has lengths by those of its argument is made without error, and has them
abbrev pub TakesHaveLengths : Type 0
TakesHaveLengths = (a b : Array) (ns : List ℕ) → taken_lengths a (with_axes a b.shape) ≡ Some ns → HasShape (take_or_pad a b) ns

-- `A↓B`
abbrev pub DropsHaveLengths : Type 0
DropsHaveLengths = (a b : Array) (ns : List ℕ) → dropped_lengths a (with_axes a b.shape) ≡ Some ns → HasShape (drop_from a b) ns

-- `A⍉B`
abbrev pub TransposesHaveLengths : Type 0
TransposesHaveLengths = (o : ℤ) (a b : Array) (ns : List ℕ) → transposed_lengths o a b.shape ≡ Some ns → HasShape (transposed o a b) ns

-- `⌽B` and the like
abbrev pub ReversalsHaveLengths : Type 0
ReversalsHaveLengths = (o : ℤ) (axis : Axis) (b : Array) (ns : List ℕ) → reversed_lengths o axis b.shape ≡ Some ns → HasShape (reversed o axis b) ns

-- `B[I;J]`
abbrev pub SubscriptsHaveLengths : Type 0
SubscriptsHaveLengths = (o : ℤ) (ps : List (Option Array)) (b : Array) (ns : List ℕ) → subscript_lengths o ps b.shape ≡ Some ns → HasShape (subscript o b ps) ns

-- the cells of an array lie in an interval, and there are as many as its shape has elements
pub record LiesIn (interval : Interval) (a : Array) : Type 0 where
  pub lawful : IsInterval interval
  pub count : length a.cells ≡ size_of a.shape
  pub cells : AllByRecursion (InInterval interval) a.cells

-- the answer is an array of numbers of this shape, with cells in this range
pub record HasValueIn (answer : Answer) (ns : List ℕ) (range : Interval) : Type 0 where
  pub array : Array
  pub made : answer ≡ Ok array
  pub shape : array.shape ≡ ns
  pub kind : array.kind ≡ Num
  pub cells : AllByRecursion (InInterval range) array.cells

-- where the interval rules call a function of one argument safe, it has a value, in the range
abbrev pub SafeFunctionsOfOne : Type 0
SafeFunctionsOfOne = (f : Mon) (b : Array) (i : Interval) → LiesIn i b →
    let answer = ranged1 f (record { kind = b.kind; interval = i }) in IsTrue answer.safe → HasValueIn (lift1 f b) b.shape answer.range

-- and one of two arguments whose shapes fit
abbrev pub SafeFunctionsOfTwo : Type 0
SafeFunctionsOfTwo = (f : Dya) (a b : Array) (i j : Interval) (ns : List ℕ) → LiesIn i a → LiesIn j b → fitting_shape a.shape b.shape ≡ Ok ns →
    let answer = ranged2 f (record { kind = a.kind; interval = i }) (record { kind = b.kind; interval = j }) in
    IsTrue answer.safe → HasValueIn (lift2 f a b) ns answer.range
