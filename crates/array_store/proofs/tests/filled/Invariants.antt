use Rattle.std.proofs.Common.{All}
use Rattle.apl_base.specs.Number.{IsNumber}
use Rattle.array_store.proofs.tests.filled.Given as goal

abbrev pub invariant-loop-value : goal.invariant-loop-value
invariant-loop-value l = All IsNumber l.cells.items
