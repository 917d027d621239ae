use Rattle.array_store.specs.Stores.{IsStore}
use Rattle.e_machine.proofs.BlockRuns.{BlockTo}
use Rattle.e_machine.proofs.engine.run.Given as goal

-- the nodes so far have run
abbrev pub invariant-loop-number : goal.invariant-loop-number
invariant-loop-number l = BlockTo l.fn.store l.store l.first l.count l.nodes l.number l.pending × IsStore l.store
