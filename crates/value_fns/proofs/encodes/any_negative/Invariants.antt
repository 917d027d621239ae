use Rattle.std.proofs.Common.{◌≡◌, ℕ, ◌<◌, false, pos, int_lt, get_or}
use Rattle.value_fns.proofs.encodes.any_negative.Given as goal

abbrev pub invariant-loop-cell : goal.invariant-loop-cell
invariant-loop-cell l = (k : ℕ) → k < l.cell-index → int_lt (get_or l.cells k (pos 0)) (pos 0) ≡ false
