use Rattle.value_stack.proofs.StackLemmas.{named_on-popped}
use Rattle.value_stack.proofs.stacks.Stack.pop.Goals as goal

pub returns-clause-leaves : goal.returns-clause-leaves
returns-clause-leaves c = named_on-popped _ _ _ c.pop.result c.self.view_is c.pop.ensures.items
