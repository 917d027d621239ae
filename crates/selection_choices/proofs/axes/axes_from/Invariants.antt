use Rattle.std.proofs.Common.{◌≡◌, length, map, take, unsigned_abs}
use Rattle.selection_choices.proofs.AxisLemmas.{less}
use Rattle.selection_choices.proofs.axes.axes_from.Given as goal

-- the axes so far
abbrev pub invariant-loop-at : goal.invariant-loop-at
invariant-loop-at l = record {
  made : l.axes.items ≡ map unsigned_abs (less l.origin (take l.at l.numbers));
  count : length l.axes.items ≡ l.at;
  room : l.axes.capacity ≡ 8;
}
