use Rattle.std.proofs.Common.{◌≡◌, ℕ, ◌<◌, true, int_lt, get_or}
use Rattle.value_fns.specs.Placed.{Placed}
use Rattle.value_fns.proofs.merges.first_not_below.Given as goal

abbrev pub invariant-loop-place : goal.invariant-loop-place
invariant-loop-place l = (k : ℕ) (d : Placed) → k < l.place → int_lt (get_or l.index k d).0 l.wanted ≡ true
