use Rattle.std.proofs.Common.{◌≡◌, All, length}
use Rattle.apl_base.specs.Number.{IsNumber}
use Rattle.value_fns.proofs.tests.filled.Given as goal

abbrev pub invariant-loop-value : goal.invariant-loop-value
invariant-loop-value l = All IsNumber l.cells.items × (length l.cells.items ≡ l.value-index)
