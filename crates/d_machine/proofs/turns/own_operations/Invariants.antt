use Rattle.std.proofs.Common.{◌≡◌, ◌+◌, take}
use Rattle.std.specs.Prelude.{sum_by}
use Rattle.d_machine.proofs.turns.own_operations.Given as goal

-- so many are left but for those of the entries so far
abbrev pub invariant-loop-cost : goal.invariant-loop-cost
invariant-loop-cost l = l.now ≡ l.before + sum_by (λ c. c.ops) (take l.cost-index l.entered) + l.own
