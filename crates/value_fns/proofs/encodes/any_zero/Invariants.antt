use Rattle.std.proofs.Common.{◌≡◌, ℕ, ◌<◌, false, pos, get_or}
use Rattle.std.specs.Ordering.{int_eq}
use Rattle.value_fns.proofs.encodes.any_zero.Given as goal

abbrev pub invariant-loop-cell : goal.invariant-loop-cell
invariant-loop-cell l = (k : ℕ) → k < l.cell-index → int_eq (pos 0) (get_or l.cells k (pos 0)) ≡ false
