use Rattle.value_stack.specs.Stacks.{Reads, NoneBetween}
use Rattle.value_stack.proofs.stacks.Stack.pending_on.Given as goal

abbrev pub invariant-loop-position : goal.invariant-loop-position
invariant-loop-position l = NoneBetween (Reads l.owner) l.self-inside.entries.items l.from l.position
