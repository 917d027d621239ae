use Rattle.std.proofs.Common.{◌≡◌, ◌<◌, ℕ, get_or, pos}
use Rattle.product_fns.proofs.groups.fill_identity.Given as goal

abbrev pub invariant-loop-slot : goal.invariant-loop-slot
invariant-loop-slot l = (k : ℕ) → k < l.slot-index → get_or l.results k (pos 0) ≡ l.value
