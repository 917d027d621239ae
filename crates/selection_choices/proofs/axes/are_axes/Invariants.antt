use Rattle.std.proofs.Common.{◌≡◌, ℕ, ◌<◌, pos, ◌-ℤ◌, true, get_or}
use Rattle.apl_model.specs.Made.{is_axis_among}
use Rattle.selection_choices.proofs.AxisLemmas.{less}
use Rattle.selection_choices.proofs.axes.are_axes.Given as goal

-- the numbers so far are
abbrev pub invariant-loop-number : goal.invariant-loop-number
invariant-loop-number l = (j : ℕ) → j < l.number-index → is_axis_among (less l.origin l.numbers) (get_or l.numbers j (pos 0) -ℤ l.origin) ≡ true
