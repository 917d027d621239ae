use Rattle.array_store.specs.Stores.{IsStore}
use Rattle.alias_force.specs.Steps.{moves}
use Rattle.alias_force.proofs.PassLemmas.{IsOnItsWay}
use Rattle.alias_force.proofs.passes.move_where.Given as goal

abbrev pub invariant-loop-at : goal.invariant-loop-at
invariant-loop-at l = record { way : IsOnItsWay (moves l.which) l.initial.store l.store l.initial.stack l.stack l.at; store : IsStore l.store }
