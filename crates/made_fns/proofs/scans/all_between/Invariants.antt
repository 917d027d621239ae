use Rattle.std.proofs.Common.{◌≡◌, ◌-◌, ◌≤◌, true}
use Rattle.std.specs.List.{list_all}
use Rattle.array_store.specs.Stores.{IsStore}
use Rattle.array_store.specs.Counting.{OnlyFetched}
use Rattle.e_machine.specs.Forced.{cells_from}
use Rattle.made_fns.specs.Answers.{is_between}
use Rattle.made_fns.proofs.scans.all_between.Given as goal

-- the cells so far are
abbrev pub invariant-loop-done : goal.invariant-loop-done
invariant-loop-done l =
    (list_all (is_between l.low l.high) (cells_from l.fn.store l.leaf 0 l.done) ≡ true)
    × OnlyFetched l.fn.store l.store l.done × IsStore l.store × (l.done ≤ l.count)

abbrev pub decreases-loop-done : goal.decreases-loop-done
decreases-loop-done l = l.count - l.done
