use Rattle.std.proofs.Common.{◌≡◌, ℕ, ◌<◌, false, pos, get_or}
use Rattle.std.specs.Ordering.{int_eq}
use Rattle.value_fns.proofs.searches.place_among.Given as goal

abbrev pub invariant-loop-place : goal.invariant-loop-place
invariant-loop-place l = (k : ℕ) → k < l.place → int_eq l.wanted (get_or l.cells k (pos 0)) ≡ false
