use Rattle.std.proofs.Common.{◌≡◌, ◌+◌, ◌-◌, ◌≤◌, vec_capacity}
use Rattle.array_store.specs.Stores.{IsStore}
use Rattle.array_store.specs.Counting.{OnlyFetched}
use Rattle.e_machine.specs.Forced.{cells_from}
use Rattle.made_fns.proofs.MarkLemmas.{marked}
use Rattle.made_fns.proofs.marks.keep_marked.Given as goal

-- the elements so far
abbrev pub invariant-loop-done : goal.invariant-loop-done
invariant-loop-done l =
    (l.cells.items ≡ marked (cells_from l.fn.store l.a 0 l.done) (cells_from l.fn.store l.b 0 l.done))
    × OnlyFetched l.fn.store l.store (l.done + l.done) × IsStore l.store × (l.done ≤ l.count)
    × (vec_capacity l.fn.cells ≤ vec_capacity l.cells)

abbrev pub decreases-loop-done : goal.decreases-loop-done
decreases-loop-done l = l.count - l.done
