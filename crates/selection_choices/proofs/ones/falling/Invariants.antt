use Rattle.std.proofs.Common.{◌≡◌, ◌-◌, length, reverse}
use Rattle.apl_base.specs.Selection.{upward}
use Rattle.selection_choices.proofs.ones.falling.Given as goal

-- the axes so far
abbrev pub invariant-loop-done : goal.invariant-loop-done
invariant-loop-done l = record {
  made : l.axes.items ≡ reverse (upward (l.rank - l.done) l.done);
  count : length l.axes.items ≡ l.done;
  room : l.axes.capacity ≡ 8;
}
