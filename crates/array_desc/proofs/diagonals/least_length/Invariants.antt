use Rattle.std.proofs.Common.{◌≡◌, drop}
use Rattle.apl_base.specs.Selection.{least, lengths_at}
use Rattle.array_desc.specs.Steps.{least_with}
use Rattle.array_desc.proofs.diagonals.least_length.Given as goal

-- the least length so far and those of the other axes
abbrev pub invariant-loop-j : goal.invariant-loop-j
invariant-loop-j l =
    least_with l.shortest (lengths_at l.becomes (drop l.j l.axes) (drop l.j l.lengths)) ≡ least (lengths_at l.becomes l.axes l.lengths)
