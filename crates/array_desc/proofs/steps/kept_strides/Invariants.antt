use Rattle.std.proofs.Common.{◌≡◌, length, take}
use Rattle.array_desc.specs.Steps.{paired, stride_kept}
use Rattle.array_desc.proofs.steps.kept_strides.Given as goal

abbrev pub invariant-loop-axis : goal.invariant-loop-axis
invariant-loop-axis l =
    (l.kept.items ≡ paired (stride_kept l.empty) (take l.axis l.strides) (take l.axis l.lengths)) × (length l.kept.items ≡ l.axis) × (l.kept.capacity ≡ 8)
