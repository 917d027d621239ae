use Rattle.std.proofs.Common.{◌≡◌, length, take}
use Rattle.array_desc.specs.Steps.{paired, window_length}
use Rattle.array_desc.proofs.steps.window_lengths.Given as goal

abbrev pub invariant-loop-axis : goal.invariant-loop-axis
invariant-loop-axis l =
    (l.left.items ≡ paired (window_length l.taking) (take l.axis l.lengths) (take l.axis l.counts)) × (length l.left.items ≡ l.axis) × (l.left.capacity ≡ 8)
