use Rattle.std.proofs.Common.{◌+◌, ◌-◌, ◌≡◌, ◌≤◌, min, vec_len}
use Rattle.apl_outside.specs.Bytes.{Loses}
use Rattle.apl_outside.proofs.whole.read_all.Given as goal

-- what was taken so far is in the list, and is not too long
abbrev pub invariant-loop-count : goal.invariant-loop-count
invariant-loop-count g l = record {
  within : vec_len l.bytes ≤ l.most;
  taken : Loses (g.S.Source.left l.fn.src) (g.S.Source.left l.src) l.bytes.items;
  never_falls : g.S.Source.faults l.fn.src ≤ g.S.Source.faults l.src;
  room : vec_len l.chunk ≡ min 65536 (l.most + 1);
}

abbrev pub decreases-loop-count : goal.decreases-loop-count
decreases-loop-count g l = l.most + 1 - vec_len l.bytes
