use Rattle.std.proofs.Common.{◌≡◌, ◌*◌, ◌≤◌, take}
use Rattle.std.specs.Prelude.{sum_by}
use Rattle.replacing_steps.specs.Checks.{axes_given}
use Rattle.replacing_steps.proofs.checks.joined_rank.Given as goal

-- the lengths of the positions so far
abbrev pub invariant-loop-position : goal.invariant-loop-position
invariant-loop-position l = (l.sum ≡ sum_by axes_given (take l.position-index l.positions)) × (l.sum ≤ 8 * l.position-index)
