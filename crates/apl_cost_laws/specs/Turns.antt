-- The footprints of a run with more turns: those of the run with fewer, and then more.
use Rattle.std.specs.Prelude.{◌≡◌, ℕ, ◌+◌, ◌≤◌, List, ◌++◌}
use Rattle.std.specs.List.{AllByRecursion}
use Rattle.apl_model.specs.Tree.{Item, Script}
use Rattle.apl_cost.specs.Footprint.{measured_items, peak}
use Rattle.apl_cost.specs.Laws.{AreOlderOf}

-- the footprints of a run are the older ones of those of the same run with more turns
abbrev pub FootprintsOfFewerTurns : Type 0
FootprintsOfFewerTurns = (script : Script) (items : List Item) (n k : ℕ) → AreOlderOf (measured_items script items n).state.moments
    (measured_items script items (n + k)).state.moments

-- so the peak grows with the turns
abbrev pub PeakGrowsWithTurns : Type 0
PeakGrowsWithTurns = (script : Script) (n k : ℕ) → peak script n ≤ peak script (n + k)

-- and none of the footprints of a part of a run, of the script's first items with as many turns or fewer, is above the
-- peak of the run
abbrev pub PartsAreAtMostPeak : Type 0
PartsAreAtMostPeak = (script : Script) (items more : List Item) (n k : ℕ) → script.items ≡ items ++ more →
    AllByRecursion (λ f. f ≤ peak script (n + k)) (measured_items script items n).state.moments
