use Rattle.std.proofs.Common.{◌≡◌, ◌≤◌, false, drop}
use Rattle.apl_base.specs.Array.{size_of}
use Rattle.iter_stack.specs.Indices.{walk}
use Rattle.iter_stack.proofs.tests.count_in_order.Given as goal

-- what is left is the walk without the items so far
abbrev pub invariant-loop-index : goal.invariant-loop-index
invariant-loop-index l = (l.index-iterator ≡ drop l.count (walk false l.shape)) × (l.count ≤ size_of l.shape)
