use Rattle.std.proofs.Common.{◌≡◌, ℕ, ◌<◌, ◌≤◌, pos, unsigned_abs, length, take, get_or}
use Rattle.selection_choices.proofs.counts.take.Given as goal

-- the counts so far, which fit
abbrev pub invariant-loop-axis : goal.invariant-loop-axis
invariant-loop-axis l = record {
  made : l.taken.items ≡ take l.axis l.counts;
  count : length l.taken.items ≡ l.axis;
  room : l.taken.capacity ≡ 8;
  fit : (j : ℕ) → j < l.axis → unsigned_abs (get_or l.counts j (pos 0)) ≤ get_or l.axes j 0;
}
