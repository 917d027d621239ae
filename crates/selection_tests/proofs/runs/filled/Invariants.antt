use Rattle.std.proofs.Common.{◌≡◌, All, length}
use Rattle.apl_base.specs.Number.{IsNumber}
use Rattle.selection_tests.proofs.runs.filled.Given as goal

abbrev pub invariant-loop-number : goal.invariant-loop-number
invariant-loop-number l = record {
  numbers : All IsNumber l.cells.items;
  count : length l.cells.items ≡ l.number-index;
}
