use Rattle.std.proofs.Common.{◌+◌, ◌-◌, ◌≤◌, vec_len, vec_capacity}
use Rattle.array_store.specs.Stores.{IsStore}
use Rattle.e_machine.proofs.ReadLemmas.{ReadTo}
use Rattle.e_machine.proofs.reads.read_places.Given as goal

-- the places so far were read, and the rest has room
abbrev pub invariant-loop-done : goal.invariant-loop-done
invariant-loop-done l =
    ReadTo l.fn.store l.store l.leaf l.first l.done l.fn.into.items l.into.items l.walk × IsStore l.store
    × (l.done ≤ l.count) × (vec_len l.into + (l.count - l.done) ≤ vec_capacity l.into)
    × (vec_capacity l.fn.into ≤ vec_capacity l.into)

abbrev pub decreases-loop-done : goal.decreases-loop-done
decreases-loop-done l = l.count - l.done
