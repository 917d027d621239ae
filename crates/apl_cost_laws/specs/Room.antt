-- Where the peak of a script is over a limit, there is a first item in whose run a footprint is.
use Rattle.std.specs.Prelude.{ℕ, ◌<◌}
use Rattle.apl_model.specs.Tree.{Script}
use Rattle.apl_cost.specs.Footprint.{peak}
use Rattle.apl_cost.specs.Statements.{FirstOver}

-- there is a first such item
abbrev pub PeaksOverHaveFirstItems : Type 0
PeaksOverHaveFirstItems = (limit : ℕ) (script : Script) (n : ℕ) → limit < peak script n → FirstOver limit script n

-- and where there is one the peak is over the limit
abbrev pub FirstItemsOverHavePeaks : Type 0
FirstItemsOverHavePeaks = (limit : ℕ) (script : Script) (n : ℕ) → FirstOver limit script n → limit < peak script n
