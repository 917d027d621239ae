use Rattle.std.proofs.Common.{◌≡◌, ◌-◌, ◌++◌, length, map}
use Rattle.apl_base.specs.Selection.{least, lengths_at, upward}
use Rattle.array_desc.proofs.diagonals.diagonal_lengths.Given as goal

abbrev pub invariant-loop-axis : goal.invariant-loop-axis
invariant-loop-axis l =
    (l.shortest.items ++ map (λ r. least (lengths_at r l.axes l.lengths)) (upward l.axis (l.rank - l.axis)) ≡ map (λ r. least (lengths_at r l.axes l.lengths)) (upward 0 l.rank)) × (length l.shortest.items ≡ l.axis) × (l.shortest.capacity ≡ 8)
