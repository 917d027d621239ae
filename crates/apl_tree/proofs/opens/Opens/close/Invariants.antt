use Rattle.std.proofs.Common.{◌≡◌, length}
use Rattle.apl_model.proofs.Machine as machine
use Rattle.apl_model.specs.Mirror.{tree_of}
use Rattle.apl_tree.specs.Mirror.{stack_of}
use Rattle.apl_tree.proofs.opens.Opens.close.Given as goal

abbrev pub invariant-loop-open : goal.invariant-loop-open
invariant-loop-open l = machine.wind (tree_of l.tree) (stack_of l.self) ≡ machine.wind (tree_of l.fn.operand) (stack_of l.fn.self)

abbrev pub decreases-loop-open : goal.decreases-loop-open
decreases-loop-open l = length l.self.items
