use Rattle.std.proofs.Common.{◌≡◌, length, take}
use Rattle.array_desc.specs.Steps.{paired, end_index}
use Rattle.array_desc.proofs.steps.end_of_axes.Given as goal

abbrev pub invariant-loop-axis : goal.invariant-loop-axis
invariant-loop-axis l =
    (l.index.items ≡ paired (end_index l.upper) (take l.axis l.strides) (take l.axis l.lengths)) × (length l.index.items ≡ l.axis) × (l.index.capacity ≡ 8)
