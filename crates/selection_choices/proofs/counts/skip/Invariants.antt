use Rattle.std.proofs.Common.{◌≡◌, length, take}
use Rattle.pending_laws.specs.Selections.{capped_counts}
use Rattle.selection_choices.proofs.counts.skip.Given as goal

-- the counts so far
abbrev pub invariant-loop-axis : goal.invariant-loop-axis
invariant-loop-axis l = record {
  made : l.dropped.items ≡ take l.axis (capped_counts l.axes l.counts);
  count : length l.dropped.items ≡ l.axis;
  room : l.dropped.capacity ≡ 8;
}
