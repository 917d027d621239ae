use Rattle.std.proofs.Common.{◌≡◌}
use Rattle.std.specs.Prelude.{length}
use Rattle.array_store.specs.Follows.{Holds, none}
use Rattle.value_stack.specs.Stacks.{named_on, entries}
use Rattle.pending_steps.specs.Steps.{Moves}
use Rattle.indexing_steps.specs.Operands.{AreComputed}
use Rattle.indexing_steps.proofs.computing.compute_between.Given as goal

abbrev pub invariant-loop-at : goal.invariant-loop-at
invariant-loop-at l = record {
  computed : AreComputed l.stack l.first l.at;
  means : entries l.store l.stack ≡ entries l.initial.store l.initial.stack;
  moves : Moves l.initial.store l.store l.initial.stack l.stack none none;
  held : Holds l.store (named_on l.stack);
  count : length l.stack ≡ length l.initial.stack;
}
