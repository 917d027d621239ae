use Rattle.std.proofs.Common.{◌≡◌, length, take}
use Rattle.array_desc.specs.Steps.{paired, window_start}
use Rattle.array_desc.proofs.steps.window_starts.Given as goal

abbrev pub invariant-loop-axis : goal.invariant-loop-axis
invariant-loop-axis l =
    (l.starts.items ≡ paired (window_start l.taking) (take l.axis l.lengths) (take l.axis l.counts)) × (length l.starts.items ≡ l.axis) × (l.starts.capacity ≡ 8)
