use Rattle.std.proofs.Common.{◌-◌, ◌≤◌}
use Rattle.array_store.specs.Stores.{IsStore}
use Rattle.e_machine.proofs.FirstFaults.{Finds}
use Rattle.e_machine.proofs.engine.compute.Given as goal

-- the places so far have been searched
abbrev pub invariant-loop-done : goal.invariant-loop-done
invariant-loop-done l = Finds l.fn.store l.store l.s l.done l.failed l.cells.items × IsStore l.store × (l.done ≤ l.size)

abbrev pub decreases-loop-done : goal.decreases-loop-done
decreases-loop-done l = l.size - l.done
