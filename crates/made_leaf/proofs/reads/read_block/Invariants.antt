use Rattle.std.proofs.Common.{◌-◌, ◌≤◌, [], length, take}
use Rattle.array_store.specs.Stores.{IsStore}
use Rattle.e_machine.proofs.ReadLemmas.{ReadTo}
use Rattle.made_leaf.proofs.reads.read_block.Given as goal

-- the places so far were read
abbrev pub invariant-loop-done : goal.invariant-loop-done
invariant-loop-done l =
    ReadTo l.fn.store l.store l.leaf l.first l.done [] (take l.done l.into) l.walk × IsStore l.store × (l.done ≤ length l.into)

abbrev pub decreases-loop-done : goal.decreases-loop-done
decreases-loop-done l = length l.initial.into - l.done
