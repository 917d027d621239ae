use Rattle.std.proofs.Common.{length, take, ◌-◌, ◌≡◌, ◌≤◌}
use Rattle.apl_outside.specs.Bytes.{Gains}
use Rattle.apl_outside.proofs.whole.push_all.Given as goal

-- the part so far was added, and before the first byte nothing was done
abbrev pub invariant-loop-done : goal.invariant-loop-done
invariant-loop-done g l = record {
  within : l.done ≤ length l.piece;
  added : Gains (g.O.Sink.written l.fn.sink) (g.O.Sink.written l.sink) (take l.done l.piece);
  never_falls : g.O.Sink.faults l.fn.sink ≤ g.O.Sink.faults l.sink;
  untouched : l.done ≡ 0 → l.sink ≡ l.fn.sink;
}

abbrev pub decreases-loop-done : goal.decreases-loop-done
decreases-loop-done g l = length l.piece - l.done
