use Rattle.std.proofs.Common.{◌≡◌, All, length}
use Rattle.apl_base.specs.Number.{IsCell}
use Rattle.stored_leaves.proofs.arguments.filled.Given as goal

abbrev pub invariant-loop-value : goal.invariant-loop-value
invariant-loop-value l = All (IsCell l.kind) l.cells.items × (length l.cells.items ≡ l.value-index)
