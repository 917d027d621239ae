use Rattle.array_store.specs.Follows.{Holds}
use Rattle.value_stack.specs.Stacks.{named_on}
use Rattle.indexing_steps.specs.Falls.{Drops}
use Rattle.indexing_steps.proofs.dropping.drop_many.Given as goal

abbrev pub invariant-loop-at : goal.invariant-loop-at
invariant-loop-at l = record { drops : Drops l.initial.store l.store l.initial.stack l.stack l.at; held : Holds l.store (named_on l.stack) }
