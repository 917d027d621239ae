-- What is to hold of the machine's cost and of its room: statements over what a run shows, of a program that runs a
-- script and of the machine that runs one statement. No contract has them yet.
use Rattle.std.specs.Prelude.{◌≡◌, ℕ, suc, ◌+◌, ◌-◌, ◌^◌, ◌<◌, ◌≤◌, IsTrue, List, [], ◌∷◌, ◌++◌, sum_by, Option, Some, None, encode_utf8_all}
use Rattle.std.specs.List.{AllByRecursion}
use Rattle.apl_model.specs.Tree.{Item, Script, Statement, statement_item}
use Rattle.apl_cost.specs.RangedEvaluation.{RangedState, ranged_items}
use Rattle.apl_cost.specs.Plain.{plain_work}
use Rattle.apl_cost.specs.Sharing.{written_name}
use Rattle.apl_cost.specs.Footprint.{Finished, Measured, measure_of, measured_from, measured_items, greatest, peak}

-- ---- what a run shows

-- the cost of a statement that ended: its line in the script, its number among the statements begun, and how much was
-- fetched, made and applied together while it was the innermost
pub record Cost : Type 0 where
  pub line : ℕ
  pub begun : ℕ
  pub ops : ℕ

-- all of it
abbrev pub all_ops : List Cost → ℕ
all_ops costs = sum_by (λ c. c.ops) costs

-- the script's run, with its footprints
abbrev pub script_run : Script → ℕ → Measured
script_run script n = (measured_items script script.items n).state

-- the run of one statement of the script, on that line, from these variables
abbrev pub statement_run : Script → ℕ → Statement → RangedState → Measured
statement_run script line t s = (measured_from script (statement_item line t ∷ []) (measure_of s)).state

-- this holds of each cost and the statement that ended there; the costs may be those of the first ones alone
abbrev pub OfFirst : (Cost → Finished → Type 0) → List Cost → List Finished → Type 0
OfFirst P [] fs = Unit {0}
OfFirst P (c ∷ cs) [] = ⊥
OfFirst P (c ∷ cs) (f ∷ fs) = P c f × OfFirst P cs fs

-- ---- plain statements

-- at most the work, where there is one
abbrev pub IsAtMostWork : ℕ → Option ℕ → Type 0
IsAtMostWork ops None = Unit {0}
IsAtMostWork ops (Some work) = ops ≤ work

-- each plain statement that ended costs at most its work. The size of what it selects from is not in it
abbrev pub PlainStatementsCostTheirWork : List Cost → Measured → Type 0
PlainStatementsCostTheirWork costs m = OfFirst (λ c f. IsAtMostWork c.ops f.work) costs m.finished

-- a program that runs the script with n turns, traced
abbrev pub ProgramCostsItsWork : Script → ℕ → List Cost → Type 0
ProgramCostsItsWork script n costs = PlainStatementsCostTheirWork costs (script_run script n)

-- the machine runs one statement, traced or not: what is fetched, made and applied together grows from `before` to
-- `after`, by at most the work of the statement, where it is plain
abbrev pub StatementCostsItsWork : RangedState → Statement → ℕ → ℕ → Type 0
StatementCostsItsWork s t before after = (work : ℕ) → plain_work s t ≡ Some work → after ≤ before + work

-- so much is counted that no count stands at its last value
abbrev pub IsCounted : ℕ → Type 0
IsCounted all = all < 2 ^ 64 - 1

-- the machine runs one statement, traced, to its end or to an error: the costs that it adds are all that was counted
abbrev pub StatementCostsAreAll : List Cost → ℕ → ℕ → Type 0
StatementCostsAreAll added before after = IsCounted after → before + all_ops added ≡ after

-- a program that ends well or with a report, traced: the costs are all that was counted
abbrev pub ProgramCostsAreAll : List Cost → ℕ → Type 0
ProgramCostsAreAll costs counted = IsCounted counted → all_ops costs ≡ counted

-- ---- room

-- the first item of the script in whose run a footprint is over the limit, with the items before it
pub record FirstOver (limit : ℕ) (script : Script) (n : ℕ) : Type 0 where
  pub before : List Item
  pub item : Item
  pub after : List Item
  pub items : script.items ≡ before ++ item ∷ after
  pub within : AllByRecursion (λ k. k ≤ limit) (measured_items script before n).state.moments
  pub over : limit < greatest (measured_items script (before ++ item ∷ []) n).state.moments

-- the printed bytes have at least all that is printed before that item
pub record PrintsBefore (limit : ℕ) (script : Script) (n : ℕ) (out : List ℕ) : Type 0 where
  pub first : FirstOver limit script n
  pub more : List ℕ
  pub bytes : out ≡ encode_utf8_all (ranged_items script first.before n).state.printed ++ more

-- a program ends for want of room in the store only where the peak is over the limit, and not before the item whose
-- footprint is
pub record EndsForRoom (limit : ℕ) (script : Script) (n : ℕ) (out : List ℕ) : Type 0 where
  pub peak : limit < peak script n
  pub prints : PrintsBefore limit script n out

-- the machine stops in a statement for want of room only where a footprint of the statement's run is over the limit
abbrev pub StopsForRoom : ℕ → Script → ℕ → Statement → RangedState → Type 0
StopsForRoom limit script line t s = limit < greatest (statement_run script line t s).moments

-- ---- sharing, and writing in place

-- a statement that only shares costs nothing
abbrev pub SharingCostsNothing : List Cost → Measured → Type 0
SharingCostsNothing costs m = OfFirst (λ c f. IsTrue f.shares → c.ops ≡ 0) costs m.finished

-- two writes of single elements of one name, on two lines in a row, the second begun directly after the first ended,
-- both without error
pub record WritesAgain (c : Cost) (f : Finished) (d : Cost) (g : Finished) : Type 0 where
  pub name : List ℕ
  pub first : written_name f.statement ≡ Some name
  pub second : written_name g.statement ≡ Some name
  pub lines : d.line ≡ suc c.line
  pub directly : g.number ≡ suc f.number
  pub first_well : IsTrue f.well
  pub second_well : IsTrue g.well

-- the second of two such writes costs nothing
abbrev pub SecondWritesCostNothing : List Cost → List Finished → Type 0
SecondWritesCostNothing (c ∷ d ∷ cs) (f ∷ g ∷ fs) = (WritesAgain c f d g → d.ops ≡ 0) × SecondWritesCostNothing (d ∷ cs) (g ∷ fs)
SecondWritesCostNothing cs fs = Unit {0}

-- a program that runs the script with n turns, traced
pub record ProgramShares (script : Script) (n : ℕ) (costs : List Cost) : Type 0 where
  pub shares : SharingCostsNothing costs (script_run script n)
  pub writes : SecondWritesCostNothing costs (script_run script n).finished

-- the machine runs a write of single elements without error: afterwards the name has all of an owner that nothing else
-- holds (`HasAlone`, of a name)
abbrev pub WritesLeaveAlone : (List ℕ → Type 0) → Statement → Type 0
WritesLeaveAlone HasAlone t = (name : List ℕ) → written_name t ≡ Some name → HasAlone name

-- and where the name had such an owner before that no pending entry reads (`IsWritable`), the write costs nothing
abbrev pub WritesInPlace : (List ℕ → Type 0) → Statement → ℕ → ℕ → Type 0
WritesInPlace IsWritable t before after = (name : List ℕ) → written_name t ≡ Some name → IsWritable name → after ≡ before
