use Rattle.std.proofs.Common.{◌≡◌, ◌-◌, ◌≤◌}
use Rattle.array_store.specs.Stores.{IsStore}
use Rattle.array_store.specs.Counting.{OnlyFetched}
use Rattle.e_machine.specs.Forced.{cells_from}
use Rattle.apl_model.specs.Made.{ones}
use Rattle.made_fns.proofs.scans.ones_of.Given as goal

-- the ones so far are counted
abbrev pub invariant-loop-done : goal.invariant-loop-done
invariant-loop-done l =
    (l.found ≡ ones (cells_from l.fn.store l.leaf 0 l.done))
    × OnlyFetched l.fn.store l.store l.done × IsStore l.store × (l.done ≤ l.count) × (l.found ≤ l.done)

abbrev pub decreases-loop-done : goal.decreases-loop-done
decreases-loop-done l = l.count - l.done
