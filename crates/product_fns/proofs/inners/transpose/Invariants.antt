use Rattle.std.proofs.Common.{◌≡◌, ◌+◌, ◌*◌, ◌/◌, ◌%◌, ◌<◌, ℕ}
use Rattle.scalar_table.specs.Columns.{cell_in}
use Rattle.product_fns.proofs.inners.transpose.Given as goal

-- the places so far
abbrev pub invariant-loop-p : goal.invariant-loop-p
invariant-loop-p l = (j : ℕ) → j < l.p → cell_in l.lines j ≡ cell_in l.cells (j % l.n * l.q + j / l.n)
