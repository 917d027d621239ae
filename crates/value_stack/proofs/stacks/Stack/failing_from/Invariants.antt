use Rattle.value_stack.specs.Stacks.{MayFail, NoneBetween}
use Rattle.value_stack.proofs.stacks.Stack.failing_from.Given as goal

abbrev pub invariant-loop-at : goal.invariant-loop-at
invariant-loop-at l = NoneBetween MayFail l.self-inside.entries.items l.from l.at
