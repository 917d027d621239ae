use Rattle.std.proofs.Common.{◌≡◌, length, take}
use Rattle.apl_base.proofs.shapes.held_inline.Given as goal

-- the lengths so far
abbrev pub invariant-loop-n : goal.invariant-loop-n
invariant-loop-n l = record {
  held : l.held.items ≡ take l.n-index l.lengths;
  count : length l.held.items ≡ l.n-index;
  room : l.held.capacity ≡ 8;
}
