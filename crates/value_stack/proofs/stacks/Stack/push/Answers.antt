use Rattle.value_stack.proofs.StackLemmas.{named_on-pushed}
use Rattle.value_stack.proofs.stacks.Stack.push.Goals as goal

pub returns-clause-leaves : goal.returns-clause-leaves
returns-clause-leaves c = named_on-pushed _ _ _ c.args.s c.self.view_is c.in_ok-push.ensures.items
